-- `can_step` asks the two questions of `can_step` in their order.
use mathlib.Core.Path.{sym, ◌∙◌}
use Rattle.walks.proofs.DoorTests.{step_1, step_2}
use Rattle.walks.proofs.doors.can_step.Goals as goal

pub returns-then-not-can_read : goal.returns-then-not-can_read
returns-then-not-can_read c = step_1 _ _ _ _ (sym c.can_read.ensures ∙ c.if-not-can_read.true)

pub returns : goal.returns
returns c = c.is_on_row.ensures ∙ step_2 _ _ _ _ (sym c.can_read.ensures ∙ c.if-not-can_read.false)
