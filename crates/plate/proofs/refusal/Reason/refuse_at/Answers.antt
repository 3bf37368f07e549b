-- `refuse_at` is a row of the table that is judged by itself.
use Rattle.plate.specs.Refusals.{judged}
use Rattle.plate.proofs.refusal.Reason.refuse_at.Goals as goal

pub returns-in-Some : goal.returns-in-Some
unfolding judged
returns-in-Some c = rw c.in-Some.is

pub returns-in-None : goal.returns-in-None
unfolding judged
returns-in-None c = rw c.in-None.is
