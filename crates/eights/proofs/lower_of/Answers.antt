-- `lower_of` meets its contract: which of two has the lower key is told by the keys, and the key is the turned number.
use Rattle.std.proofs.Common.{rules, arith, ◌≡◌, ℕ, min, ap, ◌∙◌}
use Rattle.std.specs.Ordering.{ord_min, on, nat_cmp}
use Rattle.std.proofs.lemmas.List.Sorted.{answers_always}
use Rattle.std.proofs.lemmas.Grind.{common_steps}
use Rattle.eights.specs.Turned.{turned}
use Rattle.eights.proofs.lower_of.Goals as goal

by_key : (f : ℕ → ℕ) (a b : ℕ) → f (ord_min (on f nat_cmp) a b) ≡ min (f a) (f b)
by_key f a b = grind (arith, common_steps)

pub returns : goal.returns
returns c = ap turned (c.min_by_key.ensures turned (answers_always _ _ _ (λ f a r g h. search rules))) ∙ by_key turned c.args.a c.args.b
