-- Laws of a step's change plus one: what the tests on a signed entry of the table tell of it.
use Prim.Native.Nat.{ℕ, zero, suc, ◌-◌, ◌≤◌}
use mathlib.Core.Path.{◌≡◌, refl, sym, ap, ◌∙◌}
use mathlib.Core.Bool.{Bool, true, false}
use native.Mathlib.Omega.{arith}
use lib.IntN.{ℤ, pos, negsuc}
use mir.Syntax.{w8}
use mir.Val.{SFits, of_z, to_z}
use mir.Facts.{to_z-of_z}
use Rattle.frames.specs.Steps.{plus_one, biased}

-- a test `d == n` of an i8 tells the bits of d
from_bits : (d : ℤ) (n : ℕ) → SFits w8 d → of_z w8 d ≡ n → d ≡ to_z w8 n
from_bits d n f e = sym (to_z-of_z {w = w8} {z = d} f) ∙ ap (to_z w8) e

pub zero_plus : (d : ℤ) → SFits w8 d → of_z w8 d ≡ 0 → plus_one d ≡ 1
unfolding plus_one
zero_plus d f e = ap plus_one (from_bits d 0 f e)

pub one_plus : (d : ℤ) → SFits w8 d → of_z w8 d ≡ 1 → plus_one d ≡ 2
unfolding plus_one
one_plus d f e = ap plus_one (from_bits d 1 f e)

pub else_plus : (d : ℤ) → (of_z w8 d ≡ 0 → ⊥) → (of_z w8 d ≡ 1 → ⊥) → plus_one d ≡ 0
unfolding plus_one
else_plus (pos zero) p q = absurd (p refl)
else_plus (pos (suc zero)) p q = absurd (q refl)
else_plus (pos (suc (suc n))) p q = refl
else_plus (negsuc n) p q = refl

pub few_plus : (d : ℤ) → plus_one d ≤ 2
unfolding plus_one
few_plus (pos zero) = omega arith
few_plus (pos (suc zero)) = omega arith
few_plus (pos (suc (suc n))) = omega arith
few_plus (negsuc n) = omega arith

-- an entry of the table, as the code reads it
pub biased_read : (back : Bool) (z d : ℤ) (n : ℕ) → SFits w8 z → n ≡ biased back (to_z w8 (of_z w8 z)) → z ≡ d → n ≡ biased back d
biased_read back z d n f e r = e ∙ ap (biased back) (to_z-of_z {w = w8} {z = z} f ∙ r)

pub biased_back : (back : Bool) (d : ℤ) → back ≡ true → biased back d ≡ 2 - plus_one d
unfolding biased
biased_back back d e = rw e

pub biased_on : (back : Bool) (d : ℤ) → back ≡ false → biased back d ≡ plus_one d
unfolding biased
biased_on back d e = rw e
