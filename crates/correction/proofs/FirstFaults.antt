-- Laws of the faults after some pixels: what they are before the first, one pixel further and after the last.
use Prim.Native.Nat.{ℕ, ◌+◌, ◌≤◌, ◌<◌, min}
use mathlib.Core.Path.{◌≡◌, refl, sym, ap, subst, ◌∙◌}
use mathlib.Core.Bool.{Bool, true, false}
use mathlib.Core.List.{List, [], ◌∷◌, ◌++◌}
use mathlib.Core.Logic.{⊎_elim}
use native.Mathlib.Numerals.{add-one}
use native.Mathlib.Omega.{arith}
use lib.ListN.{length, get_or, take, length-append}
use lib.Seq.{take-suc, take_all, length-take-le}
use borrow.Author.Tests.{lt-ltb, le-ltb}
use Rattle.basics.specs.Lists.{first_of}
use Rattle.basics.proofs.Numbers.{le_or_lt}
use Rattle.basics.proofs.Lists.{found_before, found_after}
use Rattle.plate.specs.Refusals.{bad_reading, bad_correction}
use Rattle.std.specs.Prelude.{Option, Some, None}
use Rattle.std.specs.Option.{option_or}
use Rattle.std.specs.Bool.{then_some}
use Rattle.correction.specs.Faults.{first_bad, faults_after}
use Rattle.correction.specs.declared.faults.Faults.{Faults}

-- ---- a fault of one kind

module _ (bad : ℕ → Bool) where
  first_at : (xs : List ℕ) → first_of bad xs < length xs → first_bad bad xs ≡ Some (first_of bad xs)
  unfolding first_bad
  first_at xs h = rw (lt-ltb _ _ h)

  first_nowhere : (xs : List ℕ) → length xs ≤ first_of bad xs → first_bad bad xs ≡ None
  unfolding first_bad
  first_nowhere xs h = rw (le-ltb _ _ h)

  -- a number more at the end: an earlier fault stays the first, and where there is none the number may be it
  after_none : (xs : List ℕ) (x : ℕ) (b : Bool) → bad x ≡ b → length xs ≤ first_of bad xs → option_or None (then_some b (length xs)) ≡ first_bad bad (xs ++ (x ∷ []))
  unfolding first_of
  after_none xs x true e h =
      let f : first_of bad (x ∷ []) ≡ 0 = rw e in
      let k : first_of bad (xs ++ (x ∷ [])) ≡ length xs = omega (arith, found_after bad xs (x ∷ []) h) in
      ap Some (sym k) ∙ sym (first_at (xs ++ (x ∷ [])) (simp length-append (omega arith)))
  after_none xs x false e h =
      let f : first_of bad (x ∷ []) ≡ 1 = rw e in
      let k : first_of bad (xs ++ (x ∷ [])) ≡ length xs + 1 = omega (arith, found_after bad xs (x ∷ []) h) in
      sym (first_nowhere (xs ++ (x ∷ [])) (simp length-append (omega arith)))

  one_more : (xs : List ℕ) (x : ℕ) → option_or (first_bad bad xs) (then_some (bad x) (length xs)) ≡ first_bad bad (xs ++ (x ∷ []))
  one_more xs x = ⊎_elim
      (λ h. rw (first_nowhere xs h) (after_none xs x (bad x) refl h))
      (λ h. let k = found_before bad xs (x ∷ []) h in
      rw (first_at xs h)
      (ap Some (sym k) ∙ sym (first_at (xs ++ (x ∷ [])) (simp length-append (omega arith)))))
      (le_or_lt (length xs) (first_of bad xs))

  -- one place further in a list
  further : (xs : List ℕ) (i : ℕ) → i < length xs → option_or (first_bad bad (take i xs)) (then_some (bad (get_or xs i 0)) i) ≡ first_bad bad (take (i + 1) xs)
  further xs i h =
      let x = get_or xs i 0 in
      let e : length (take i xs) ≡ i = length-take-le i xs (omega arith) in
      rw (add-one, take-suc xs i 0 h) (subst (λ (n : ℕ). option_or (first_bad bad (take i xs)) (then_some (bad x) n) ≡ first_bad bad (take i xs ++ (x ∷ []))) e (one_more (take i xs) x))

-- a fault, or none, is the first where nothing comes after
pub no_other : (first : Option ℕ) → option_or first None ≡ first
no_other None = refl
no_other (Some p) = refl

-- ---- both kinds

module _ (readings words : List ℕ) where
  pub before_any : record { reading = None; correction = None } ≡ faults_after 0 readings words
  unfolding faults_after first_bad first_of
  before_any = refl

  pub one_further : (i : ℕ) (f g : Faults) → i < length readings → i < length words → f ≡ faults_after i readings words →
      g.reading ≡ option_or f.reading (then_some (bad_reading (get_or readings i 0)) i) → g.correction ≡ option_or f.correction (then_some (bad_correction (get_or words i 0)) i) →
      g ≡ faults_after (i + 1) readings words
  unfolding faults_after
  one_further i f g h k e p q =
      let p' : g.reading ≡ option_or (first_bad bad_reading (take i readings)) (then_some (bad_reading (get_or readings i 0)) i) = rw e at p in
      let q' : g.correction ≡ option_or (first_bad bad_correction (take i words)) (then_some (bad_correction (get_or words i 0)) i) = rw e at q in
      λ j. record { reading = (p' ∙ further bad_reading readings i h) j; correction = (q' ∙ further bad_correction words i k) j }

  -- after the last pixel of a plate
  module _ (same : length readings ≡ length words) where
    pub all_readings : (faults_after (min (length readings) (length words)) readings words).reading ≡ first_bad bad_reading readings
    unfolding faults_after
    all_readings = ap (first_bad bad_reading) (take_all (min (length readings) (length words)) readings (omega arith))

    pub all_corrections : (faults_after (min (length readings) (length words)) readings words).correction ≡ first_bad bad_correction words
    unfolding faults_after
    all_corrections = ap (first_bad bad_correction) (take_all (min (length readings) (length words)) words (omega arith))
