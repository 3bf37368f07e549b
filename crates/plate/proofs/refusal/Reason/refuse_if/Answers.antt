-- `refuse_if` is a row of the table that is judged by itself.
use Rattle.plate.specs.Refusals.{judged}
use Rattle.plate.proofs.refusal.Reason.refuse_if.Goals as goal

pub returns-then-fault : goal.returns-then-fault
unfolding judged
returns-then-fault c = rw c.if-fault.true

pub returns : goal.returns
unfolding judged
returns c = rw c.if-fault.false
