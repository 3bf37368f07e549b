-- `steps_past` meets its contract, by the two kinds of rows.
use mathlib.Core.Path.{◌∙◌}
use Rattle.walks.proofs.DoorTests.{past_ranks, past_lines}
use Rattle.walks.proofs.doors.steps_past.Goals as goal

pub returns-then-plan : goal.returns-then-plan
returns-then-plan c = past_ranks _ _ c.if-plan.true

pub returns : goal.returns
returns c = c.rows_in.ensures ∙ past_lines _ _ c.if-plan.false
