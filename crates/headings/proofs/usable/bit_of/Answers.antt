-- `bit_of` meets its contract: a one is moved up by the index.
use Rattle.headings.proofs.Directions.{bit_shifted}
use Rattle.headings.proofs.usable.bit_of.Goals as goal

pub returns : goal.returns
returns c = bit_shifted c.args.index _ c.min.ensures
