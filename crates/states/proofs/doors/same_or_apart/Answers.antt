-- `same_or_apart` asks the questions of `same_or_apart` in their order.
use mathlib.Core.Path.{sym, ◌∙◌}
use Rattle.states.proofs.DoorTests.{same_1, same_2, same_3}
use Rattle.states.proofs.doors.same_or_apart.Goals as goal

pub returns-then-from-to : goal.returns-then-from-to
returns-then-from-to c = same_1 _ _ _ c.if-from-to.true

pub returns-then-lies_in : goal.returns-then-lies_in
returns-then-lies_in c = same_2 _ _ _ c.if-from-to.false (rw c.state_size-size.ensures.0 at (sym c.lies_in.ensures ∙ c.if-lies_in.true))

pub returns : goal.returns
returns c =
    let size = c.state_size-size.ensures.0 in
    (rw size at c.lies_in-2.ensures) ∙ same_3 _ _ _ c.if-from-to.false (rw size at (sym c.lies_in.ensures ∙ c.if-lies_in.false))
