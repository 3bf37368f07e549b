-- `columns_on` meets its contract: the table's entry, read signed, plus one.
use borrow.Author.Rules.{rules}
use Rattle.frames.specs.Steps.{columns_on}
use Rattle.frames.proofs.StepLaws.{biased_read}
use Rattle.frames.proofs.steps.columns_on.Goals as goal

pub returns : goal.returns
unfolding columns_on
returns c = (biased_read _ c.column_change.result _ _ (search rules) c.bias.ensures.0 c.column_change.ensures, c.bias.ensures.1)
