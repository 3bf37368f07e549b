-- Laws of `within`: where it has a number, and where it has none; and that it is what the code makes of a sum.
use Prim.Native.Nat.{ℕ, ◌^◌, ◌≤◌, ◌<◌}
use mathlib.Core.Path.{◌≡◌, refl, ap}
use mathlib.Core.Logic.{⊎_elim}
use native.Mathlib.Omega.{arith}
use lib.Dec.{ltb}
use lib.IntN.{ℤ, pos, negsuc}
use lib.Signed.{mag, ◌≤ℤ◌}
use mir.Syntax.{w64}
use Rattle.std.specs.Prelude.{unsigned_abs}
use Rattle.std.specs.Int.{FitsUnsigned}
use Rattle.std.specs.Bool.{then_some}
use Rattle.basics.proofs.Tests.{true_or_false}
use borrow.Author.Tests.{lt-ltb, le-ltb, le-leb}
use Rattle.std.specs.Prelude.{Some, None}
use Rattle.basics.proofs.Numbers.{le_or_lt}
use Rattle.plate.specs.Within.{within}

none_is_none : {B : Type 0} {n : ℕ} → None ≡ Some n → B
none_is_none e = absurd (let z : ◌≡◌ {A = ℕ} 0 1 = cc in omega arith)

pub within_some : (end : ℕ) (z : ℤ) (n : ℕ) → within end z ≡ Some n → (z ≡ pos n) × (n < end)
unfolding within
within_some end (negsuc m) n e = none_is_none e
within_some end (pos m) n e =
    ⊎_elim
    (λ h. none_is_none (rw (le-ltb m end h) at e))
    (λ h. let k : Some m ≡ Some n = rw (lt-ltb m end h) at e in let i : m ≡ n = cc in (ap pos i, omega arith))
    (le_or_lt end m)

pub within_none : (end n : ℕ) → within end (pos n) ≡ None → end ≤ n
unfolding within
within_none end n e =
    ⊎_elim (λ h. h) (λ h. let k : Some n ≡ None = rw (lt-ltb n end h) at e in absurd (let z : ◌≡◌ {A = ℕ} 0 1 = cc in omega arith)) (le_or_lt end n)

-- ---- a sum as the code makes it: it fits no unsigned number, or it is judged by the end

pub within_unfit : (end : ℕ) (z : ℤ) → mag z < 2 ^ 63 → (FitsUnsigned w64 z → ⊥) → within end z ≡ None
unfolding within
within_unfit end (pos n) h unfit = absurd (unfit (record { le = rw (le-leb 0 n (omega arith)) tt }, record { lt = rw (lt-ltb n (2 ^ 64) (omega arith)) tt }))
within_unfit end (negsuc n) h unfit = refl

pub within_fit : (end n : ℕ) (z : ℤ) → pos 0 ≤ℤ z → n ≡ unsigned_abs z → then_some (ltb n end) n ≡ within end z
unfolding within
within_fit end n (pos m) h e = rw e (⊎_elim (λ t. rw t) (λ t. rw t) (true_or_false (ltb m end)))
within_fit end n (negsuc m) h e = absurd h.le
