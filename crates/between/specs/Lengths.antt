-- Cited by contracts of private functions alone: two lent buffers judged as one, and what is found and has been read of two plates.
use Rattle.std.specs.Prelude.{ℕ, ◌≤◌, ◌<◌, ◌≡◌, cond, List, Option, Some, None, length, eqb, ℤ}
use Rattle.std.specs.Int.Signed.{mag}
use Rattle.plate.specs.Opening.{level_at}
use Rattle.between.specs.Refusals.{first_above}

-- the length that two buffers have in common; where they differ 0, which is that of no plate
unfoldable pub common_length : ℕ → ℕ → ℕ
common_length m n = cond (eqb m n) m 0

-- a pixel whose lowest level is above its highest, the first of them; or that there is none
abbrev pub Finds : Option ℕ → List ℤ → List ℤ → Type 0
Finds (Some x) low high = (x ≡ first_above low high) × (x < length low)
Finds None low high = length low ≤ first_above low high

-- the first n levels of either plate have 16 bits
pub record ReadTo (n : ℕ) (low high : List ℤ) : Type 0 where
  pub small_low : (x : ℕ) → x < n → mag (level_at low x) < 32768
  pub small_high : (x : ℕ) → x < n → mag (level_at high x) < 32768
