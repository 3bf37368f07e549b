-- `steps_in` meets its contract, by the two kinds of rows.

use Rattle.walks.proofs.notes.steps_in.Goals as goal

pub returns-then-plan : goal.returns-then-plan
returns-then-plan c = rw c.if-plan.true

pub returns-else-plan : goal.returns-else-plan
returns-else-plan c = rw c.if-plan.false
