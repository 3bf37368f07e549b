-- `rows_on_lem` meets its contract: the table's entry, read signed, plus one.
use borrow.Author.Rules.{rules}
use Rattle.frames.specs.Steps.{rows_on}
use Rattle.frames.proofs.StepLaws.{biased_read}
use Rattle.frames.proofs.steps.rows_on.Goals as goal

pub returns : goal.returns
unfolding rows_on
returns c = (biased_read _ c.row_change.result _ _ (search rules) c.bias.ensures.0 c.row_change.ensures, c.bias.ensures.1)
