-- Numbers of 16 bits with their highest bit turned. These definitions serve contracts inside the engine only: no public contract cites them.
use Rattle.std.specs.Prelude.{ℕ, ◌+◌, ◌-◌, ◌<◌, ◌≡◌, cond, List, map, ltb, get_or}

-- a number of 16 bits with its highest bit turned: then numbers have the order of signed ones
unfoldable pub turned : ℕ → ℕ
turned v = cond (ltb v 32768) (v + 32768) (v - 32768)

-- the numbers that a list of turned ones stands for
unfoldable pub numbers : List ℕ → List ℕ
numbers words = map turned words

-- eight words stand for the numbers f 0 to f 7
pub record Standing (words : List ℕ) (f : ℕ → ℕ) : Type 0 where
  pub is : (i : ℕ) → i < 8 → turned (get_or words i 0) ≡ f i
