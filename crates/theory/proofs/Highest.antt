-- The downward search: `highest test v` is not above v, passes the test unless it is the lowest level, and nothing that passes and is not above
-- v is above it. All is shown of numbers (`greatest`) and moved to levels by their keys.
use Prim.Native.Nat.{ℕ, zero, suc, ◌≤◌, ◌<◌}
use mathlib.Core.Path.{◌≡◌, ap, subst}
use mathlib.Core.Bool.{Bool, true, false}
use mathlib.Core.Logic.{◌⊎◌, inl, inr, ⊎_elim}
use native.Mathlib.Omega.{arith}
use lib.Dec.{T}
use lib.IntN.{ℤ}
use lib.Signed.{mag, ◌≤ℤ◌, ◌<ℤ◌, clash_ℤ, ≤ℤ_refl}
use Rattle.basics.proofs.Numbers.{le_or_lt, known_below}
use Rattle.basics.proofs.Tests.{true_or_false, true_T}
use Rattle.plate.specs.Levels.{lowest, level, key}
use Rattle.plate.specs.Opening.{greatest, highest}
use Rattle.plate.proofs.Keys.{level_key, key_bound, level_size, level_le, key_le}

-- ---- greatest

module _ (test : ℕ → Bool) where
  greatest_yes : (n : ℕ) → test (suc n) ≡ true → greatest test (suc n) ≡ suc n
  unfolding greatest
  greatest_yes n e = rw (e, greatest)

  greatest_no : (n : ℕ) → test (suc n) ≡ false → greatest test (suc n) ≡ greatest test n
  unfolding greatest
  greatest_no n e = rw (e, greatest)

  pub greatest_not_above : (n : ℕ) → greatest test n ≤ n
  unfolding greatest
  greatest_not_above zero = omega arith
  greatest_not_above (suc n) =
      ⊎_elim (λ e. omega (arith, greatest_yes n e)) (λ e. omega (arith, greatest_no n e, greatest_not_above n)) (true_or_false (test (suc n)))

  pub greatest_passes : (n : ℕ) → 1 ≤ greatest test n → T (test (greatest test n))
  unfolding greatest
  greatest_passes zero h = absurd (omega arith)
  greatest_passes (suc n) h =
      ⊎_elim (λ e. rw (greatest_yes n e) (true_T (test (suc n)) e))
      (λ e. rw (greatest_no n e) (greatest_passes n (omega (arith, greatest_no n e)))) (true_or_false (test (suc n)))

  pub passing_not_above_greatest : (n t : ℕ) → t ≤ n → T (test t) → t ≤ greatest test n
  unfolding greatest
  passing_not_above_greatest zero t h p = h
  passing_not_above_greatest (suc n) t h p =
      ⊎_elim (λ e. omega (arith, greatest_yes n e))
      (λ e. ⊎_elim (λ l. omega (arith, greatest_no n e, passing_not_above_greatest n t l p))
      (λ l. let i : t ≡ suc n = omega arith in absurd (subst T e (subst (λ (m : ℕ). T (test m)) i p))) (le_or_lt t n)) (true_or_false (test (suc n)))

  -- these characterise it: a number that passes, unless it is 0, and that no passing one up to n is above
  pub greatest_is : (n v : ℕ) → v ≤ n → (1 ≤ v → T (test v)) → ((t : ℕ) → 1 ≤ t → t ≤ n → T (test t) → t ≤ v) → greatest test n ≡ v
  greatest_is n v h passes top =
      known_below (greatest test n) v
      (λ t positive l. omega (arith, top (greatest test n) (omega arith) (greatest_not_above n) (greatest_passes n (omega arith))))
      (λ t positive l. omega (arith, passing_not_above_greatest n v h (passes (omega arith))))

-- ---- highest

module _ (test : ℤ → Bool) where
  pub highest_size : (v : ℤ) → mag v < 32768 → mag (highest test v) < 32768
  unfolding highest
  highest_size v sv =
      level_size (greatest (λ n. test (level n)) (key v)) (omega (arith, greatest_not_above (λ n. test (level n)) (key v), key_bound v sv))

  pub highest_not_above : (v : ℤ) → mag v < 32768 → highest test v ≤ℤ v
  unfolding highest
  highest_not_above v sv =
      let h : level (greatest (λ n. test (level n)) (key v)) ≤ℤ level (key v) = level_le _ (key v) (greatest_not_above (λ n. test (level n)) (key v)) in
      subst (λ (w : ℤ). highest test v ≤ℤ w) (level_key v sv) h

  pub highest_passes_or_lowest : (v : ℤ) → T (test (highest test v)) ⊎ (highest test v ≡ lowest)
  unfolding highest
  highest_passes_or_lowest v =
      let n = greatest (λ n. test (level n)) (key v) in
      ⊎_elim (λ (h : 1 ≤ n). inl (greatest_passes (λ n. test (level n)) (key v) h))
      (λ h. inr (let e : n ≡ 0 = omega arith in ap (λ (m : ℕ). level m) e)) (le_or_lt 1 n)

  -- the highest level by its key
  pub highest_is :
      (v : ℤ) (n : ℕ) → n ≤ key v → (1 ≤ n → T (test (level n))) → ((t : ℕ) → 1 ≤ t → t ≤ key v → T (test (level t)) → t ≤ n) →
      highest test v ≡ level n
  unfolding highest
  highest_is v n h passes top = ap (λ (m : ℕ). level m) (greatest_is (λ t. test (level t)) (key v) n h passes top)

  pub highest_passes : (v : ℤ) → lowest <ℤ highest test v → T (test (highest test v))
  highest_passes v h = ⊎_elim (λ p. p) (λ e. clash_ℤ h (rw e (≤ℤ_refl lowest))) (highest_passes_or_lowest v)

  pub passing_not_above_highest : (v t : ℤ) → mag v < 32768 → mag t < 32768 → t ≤ℤ v → T (test t) → t ≤ℤ highest test v
  unfolding highest
  passing_not_above_highest v t sv st h p =
      let p' : T (test (level (key t))) = rw (level_key t st) p in
      let k = passing_not_above_greatest (λ n. test (level n)) (key v) (key t) (key_le t v st sv h) p' in
      subst (λ (w : ℤ). w ≤ℤ highest test v) (level_key t st) (level_le (key t) _ k)
