-- `keys_at` meets its contract: of a whole eight by what its parts promise, and else key by key.
use Rattle.std.proofs.Common.{rules}
use Rattle.states.proofs.blends.keys_at.Goals as goal

pub returns : goal.returns
returns c = record { is = λ i l. search (rules, c.from_fn.ensures.items.at i 0 l) }
