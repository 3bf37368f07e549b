-- `change` reads the table of the definitions: entry by entry inside it, and no change past it.
use Rattle.plate.proofs.StepTable.{entry_is, past_table, past_steps}
use Rattle.plate.proofs.steps.change.Goals as goal

pub returns-then-index-ge-DIRECTIONS : goal.returns-then-index-ge-DIRECTIONS
returns-then-index-ge-DIRECTIONS c = past_table _ _ c.args.part c.if-index-ge-DIRECTIONS.true

pub returns-then-number-ge-STEPS_EACH : goal.returns-then-number-ge-STEPS_EACH
returns-then-number-ge-STEPS_EACH c = past_steps _ _ c.args.part c.if-index-ge-DIRECTIONS.false c.if-number-ge-STEPS_EACH.true

pub returns : goal.returns
returns c = entry_is _ _ c.args.part c.if-index-ge-DIRECTIONS.false c.if-number-ge-STEPS_EACH.false c.requires
