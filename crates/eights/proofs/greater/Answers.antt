-- `greater` meets its contract: each place has what the closure answers there.
use Rattle.std.proofs.Common.{rules}
use Rattle.eights.proofs.greater.Goals as goal

pub returns : goal.returns
returns c = record { is = λ i l. search (rules, c.from_fn.ensures.items.at i 0 l) }
