-- General laws of signed numbers. `mag z` is n for n and for −(n + 1), so a range of ℤ is one bound in ℕ, which `omega` reads.
use Prim.Native.Nat.{ℕ, suc, ◌+◌, ◌≤◌}
use mathlib.Core.Path.{◌≡◌, ap, ◌∙◌}
use mathlib.Core.Bool.{false}
use mathlib.Core.Logic.{⊎_elim}
use native.Mathlib.Omega.{arith}
use lib.IntN.{ℤ, pos, negsuc, sub_ℕ, ◌+ℤ◌}
use lib.Signed.{mag, lt_z}
use borrow.Author.Tests.{lt-ltb, le-ltb, ltb-false}
use mir.Syntax.{Width, w16, w32}
use mir.Val.{SFits, to_z, of_z}
use mir.Facts.{to_z-of_z}
use Rattle.basics.proofs.Numbers.{le_or_lt}

-- a number of 16 bits has 32 bits
pub widened : {v : ℤ} → SFits w16 v → SFits w32 v
widened f = record { sfits = omega (arith, f.sfits) }

-- the size of a difference of two naturals, and of a sum
pub mag-sub : (a b : ℕ) → mag (sub_ℕ a b) ≤ a + b
mag-sub a b = ⊎_elim (λ h. rw (le-ltb a b h) (omega arith)) (λ h. rw (lt-ltb a b h) (omega arith)) (le_or_lt b a)

pub mag-add : (y z : ℤ) → mag (y +ℤ z) ≤ mag y + mag z + 1
mag-add (pos a) (pos b) = omega arith
mag-add (pos a) (negsuc b) = omega (arith, mag-sub a (suc b))
mag-add (negsuc a) (pos b) = omega (arith, mag-sub b (suc a))
mag-add (negsuc a) (negsuc b) = omega arith

-- a range of ℤ by two tests, as one bound
pub mag_within : (n : ℕ) (z : ℤ) → lt_z z (negsuc n) ≡ false → lt_z (pos n) z ≡ false → mag z ≤ n
mag_within n (pos a) l h = ltb-false n a h
mag_within n (negsuc a) l h = ltb-false n a l

-- what is made of a signed number's bits, read again, is made of the number
pub read_back : {A : Type 0} {w : Width} (g : ℤ → A) (v : ℤ) {a : A} → SFits w v → a ≡ g (to_z w (of_z w v)) → a ≡ g v
read_back g v f e = e ∙ ap g (to_z-of_z f)
