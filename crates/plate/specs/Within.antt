-- Cited by the contract of a private function alone: a number that has to lie in 0 .. end − 1.
use Rattle.std.specs.Prelude.{ℕ, cond, ltb, ℤ, pos, negsuc, Option, Some, None}

-- the number itself, or none where it lies outside
unfoldable pub within : ℕ → ℤ → Option ℕ
within end (pos n) = cond (ltb n end) (Some n) None
within end (negsuc n) = None
