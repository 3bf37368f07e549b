-- Two lengths judged as one: a check of either refuses just where the check of their common length does, as long as the wanted length is not 0.
use Prim.Native.Nat.{ℕ, ◌≤◌}
use mathlib.Core.Path.{◌≡◌, refl, sym, ap, ◌∙◌}
use mathlib.Core.Bool.{Bool, true, false, cond, not, ◌&&◌}
use mathlib.Core.Logic.{⊎_elim}
use native.Mathlib.Omega.{arith}
use lib.Dec.{eqb}
use borrow.Author.Tests.{eq-eqb, ne_eqb, eqb-true, eqb-false}
use Rattle.basics.proofs.Tests.{true_or_false}
use Rattle.between.specs.Lengths.{common_length}

-- ---- two tests, of which either refuses

both_true : (a b : Bool) → a ≡ true → b ≡ true → true ≡ (a && b)
both_true a b e f = rw (e, f)

left_false : (a b : Bool) → a ≡ false → false ≡ (a && b)
left_false a b e = rw e

right_false : (a b : Bool) → b ≡ false → false ≡ (a && b)
right_false true b f = sym f
right_false false b f = refl

one_after_other : {A : Type 0} (a b : Bool) (refusal rest : A) → cond (not a) refusal (cond (not b) refusal rest) ≡ cond (not (a && b)) refusal rest
one_after_other true true refusal rest = refl
one_after_other true false refusal rest = refl
one_after_other false b refusal rest = refl

-- ---- which length it is

pub common_same : (m n : ℕ) → eqb m n ≡ true → common_length m n ≡ m
unfolding common_length
common_same m n e = rw e

pub common_none : (m n : ℕ) → eqb m n ≡ false → common_length m n ≡ 0
unfolding common_length
common_none m n e = rw e

-- it is the wanted one just if both are
module _ (wanted m n : ℕ) (some : 1 ≤ wanted) where
  judged_common : (l : ℕ) (b : Bool) → common_length m n ≡ l → eqb l wanted ≡ b → eqb (common_length m n) wanted ≡ b
  judged_common l b is e = ap (λ (k : ℕ). eqb k wanted) is ∙ e

  common_wanted : eqb (common_length m n) wanted ≡ (eqb m wanted && eqb n wanted)
  common_wanted =
      ⊎_elim
      (λ same.
      ⊎_elim
      (λ t. judged_common m true (common_same m n same) t ∙ both_true (eqb m wanted) (eqb n wanted) t (eq-eqb n wanted (omega (arith, eqb-true m n same, eqb-true m wanted t))))
      (λ f. judged_common m false (common_same m n same) f ∙ left_false (eqb m wanted) (eqb n wanted) f) (true_or_false (eqb m wanted)))
      (λ differ.
      judged_common 0 false (common_none m n differ) (ne_eqb 0 wanted (λ e. absurd (omega arith)))
      ∙ ⊎_elim (λ t. right_false (eqb m wanted) (eqb n wanted) (ne_eqb n wanted (λ e. eqb-false m n differ (omega (arith, eqb-true m wanted t))))) (λ f. left_false (eqb m wanted) (eqb n wanted) f) (true_or_false (eqb m wanted)))
      (true_or_false (eqb m n))

  pub two_as_one :
      {A : Type 0} (refusal rest : A) →
      cond (not (eqb m wanted)) refusal (cond (not (eqb n wanted)) refusal rest) ≡ cond (not (eqb (common_length m n) wanted)) refusal rest
  two_as_one {A} refusal rest =
      one_after_other (eqb m wanted) (eqb n wanted) refusal rest
      ∙ ap (λ (b : Bool). cond (not b) refusal rest) (sym common_wanted)
