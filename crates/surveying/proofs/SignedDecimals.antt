-- Laws of levels that are printed: by the test that the code makes, a minus sign and the distance from zero, or that distance alone.
use mathlib.Core.Path.{◌≡◌, refl}
use mathlib.Core.Bool.{true, false}
use mathlib.Core.List.{[], ◌∷◌, ◌++◌}
use native.Mathlib.Omega.{arith}
use Prim.Native.Nat.{ℕ}
use lib.IntN.{ℤ, pos, negsuc, nat_abs}
use lib.Signed.{lt_z}
use borrow.Author.Tests.{ltb-true}
use Rattle.text_lines.specs.Bytes.{minus}
use Rattle.survey_text.specs.Printing.{decimal, signed_decimal}

pub below_zero : (v : ℤ) → lt_z v (pos 0) ≡ true → signed_decimal v ≡ (minus ∷ []) ++ decimal (nat_abs v)
unfolding signed_decimal
below_zero (pos n) e = absurd (omega (arith, ltb-true n 0 e))
below_zero (negsuc n) e = refl

pub not_below_zero : (v : ℤ) → lt_z v (pos 0) ≡ false → signed_decimal v ≡ decimal (nat_abs v)
unfolding signed_decimal
not_below_zero (pos n) e = refl
not_below_zero (negsuc n) e = absurd (let z : ◌≡◌ {A = ℕ} 0 1 = cc in omega arith)
