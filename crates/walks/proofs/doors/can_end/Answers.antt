-- `can_end` asks the questions of `can_end` in their order.
use mathlib.Core.Path.{sym, ◌∙◌}
use Rattle.walks.proofs.DoorTests.{end_1, end_2, end_3, end_4}
use Rattle.walks.proofs.doors.can_end.Goals as goal

pub returns-then-not-can_read : goal.returns-then-not-can_read
returns-then-not-can_read c = end_1 _ _ _ _ _ (sym c.can_read.ensures ∙ c.if-not-can_read.true)

pub returns-then-gaps-plan : goal.returns-then-gaps-plan
returns-then-gaps-plan c = end_2 _ _ _ _ _ (sym c.can_read.ensures ∙ c.if-not-can_read.false) c.if-gaps-plan.true

pub returns-then-plan : goal.returns-then-plan
returns-then-plan c = end_3 _ _ _ _ _ (sym c.can_read.ensures ∙ c.if-not-can_read.false) c.if-gaps-plan.false c.if-plan.true

pub returns : goal.returns
returns c =
    end_4 _ _ _ _ _ (sym c.can_read.ensures ∙ c.if-not-can_read.false) c.if-gaps-plan.false c.if-plan.false c.rows_in.result c.rows_in.ensures
