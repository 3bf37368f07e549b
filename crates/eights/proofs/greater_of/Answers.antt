-- `greater_of` meets its contract: which of two has the greater key is told by the keys, and the key is the turned number.
use Rattle.std.proofs.Common.{rules, arith, ◌≡◌, ℕ, max, ap, ◌∙◌}
use Rattle.std.specs.Ordering.{ord_max, on, nat_cmp}
use Rattle.std.proofs.lemmas.List.Sorted.{answers_always}
use Rattle.std.proofs.lemmas.Grind.{common_steps}
use Rattle.eights.specs.Turned.{turned}
use Rattle.eights.proofs.greater_of.Goals as goal

by_key : (f : ℕ → ℕ) (a b : ℕ) → f (ord_max (on f nat_cmp) a b) ≡ max (f a) (f b)
by_key f a b = grind (arith, common_steps)

pub returns : goal.returns
returns c = ap turned (c.max_by_key.ensures turned (answers_always _ _ _ (λ f a r g h. search rules))) ∙ by_key turned c.args.a c.args.b
