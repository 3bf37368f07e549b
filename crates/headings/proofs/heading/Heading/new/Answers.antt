-- `new` meets its contract: a good size and a listed direction are what a heading asks for.
use mathlib.Core.Path.{◌∙◌}
use Rattle.plate.proofs.Spans.{span_good}
use Rattle.headings.proofs.heading.Heading.new.Goals as goal

pub invariant_of-result : goal.invariant_of-result
invariant_of-result c =
    let size = c.requires.good_size in
    record { wide = size.wide; narrow = size.narrow; low = size.low; listed = c.requires.listed; is_longest = c.span_of-longest.ensures ∙ span_good size _ c.requires.listed }
