-- Laws of numbers with their highest bit turned: the list of the numbers has its places and stores
-- as the list of the turned ones has.
use Prim.Native.Nat.{ℕ, zero, suc, ◌+◌, ◌-◌, ◌≤◌, ◌<◌}
use mathlib.Core.Path.{◌≡◌, refl, ap}
use mathlib.Core.List.{List, [], ◌∷◌}
use native.Mathlib.Omega.{arith}
use borrow.Author.Tests.{lt-ltb, le-ltb}
use lib.ListN.{length, get_or, set, length-map}
use Rattle.eights.specs.Turned.{turned, numbers}

-- ---- one number

pub turned_low : (v : ℕ) → v < 32768 → turned v ≡ v + 32768
unfolding turned
turned_low v l = rw (lt-ltb v 32768 l)

pub turned_high : (v : ℕ) → 32768 ≤ v → turned v ≡ v - 32768
unfolding turned
turned_high v l = rw (le-ltb v 32768 l)

-- ---- lists

pub numbers_length : (xs : List ℕ) → length (numbers xs) ≡ length xs
unfolding numbers
numbers_length xs = length-map xs turned

pub numbers_at : (xs : List ℕ) (i : ℕ) → i < length xs → get_or (numbers xs) i 0 ≡ turned (get_or xs i 0)
unfolding numbers
numbers_at [] i l = absurd (omega arith)
numbers_at (x ∷ xs) zero l = refl
numbers_at (x ∷ xs) (suc i) l = numbers_at xs i (omega arith)

pub numbers_set : (xs : List ℕ) (i v : ℕ) → numbers (set xs i v) ≡ set (numbers xs) i (turned v)
unfolding numbers
numbers_set [] i v = refl
numbers_set (x ∷ xs) zero v = refl
numbers_set (x ∷ xs) (suc i) v = ap (λ (ys : List ℕ). turned x ∷ ys) (numbers_set xs i v)
