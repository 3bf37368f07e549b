-- `wanted` meets its contract: the two cases.

use Rattle.tracing.proofs.follow.wanted.Goals as goal

pub returns-then-plan : goal.returns-then-plan
returns-then-plan c = rw c.if-plan.true

pub returns-else-plan : goal.returns-else-plan
returns-else-plan c = rw c.if-plan.false
