-- Laws of runs and lists that are held turned.
use Prim.Native.Nat.{ℕ, ◌≤◌}
use mathlib.Core.Path.{◌≡◌, sym, ap, ◌∙◌}
use mathlib.Core.Logic.{inl, inr}
use mathlib.Core.List.{List}
use native.Mathlib.Omega.{arith}
use lib.ListN.{length, get_or, get_or-eq_default}
use Rattle.basics.proofs.Numbers.{le_or_lt}
use Rattle.eights.specs.Turned.{turned, numbers}
use Rattle.eights.proofs.TurnedLaws.{numbers_length, numbers_at}
use Rattle.states.specs.Runs.{Between}

-- as many
pub same_many : (old new : List ℕ) → length (numbers new) ≡ length (numbers old) → length new ≡ length old
same_many old new e = sym (numbers_length new) ∙ e ∙ numbers_length old

-- a run that is filled
pub numbers_filled : (v w : ℕ) (old new : List ℕ) (lo hi : ℕ) → Between (λ (k : ℕ). v) old new lo hi → hi ≤ length old → turned v ≡ w →
    Between (λ (k : ℕ). w) (numbers old) (numbers new) lo hi
numbers_filled v w old new lo hi b fits e =
    record {
      inside = λ k l h. numbers_at new k (omega (arith, b.len)) ∙ ap turned (b.inside k l h) ∙ e;
      under = λ k h. same k (b.under k h);
      over = λ k h. same k (b.over k h);
      len = numbers_length new ∙ b.len ∙ sym (numbers_length old);
    }
  where
    same : (k : ℕ) → get_or new k 0 ≡ get_or old k 0 → get_or (numbers new) k 0 ≡ get_or (numbers old) k 0
    same k q =
        elim (le_or_lt (length old) k) [
          | inr l ↦ numbers_at new k (omega (arith, b.len)) ∙ ap turned q ∙ sym (numbers_at old k l)
          | inl l ↦
              get_or-eq_default (numbers new) 0 (omega (arith, numbers_length new, b.len))
              ∙ sym (get_or-eq_default (numbers old) 0 (omega (arith, numbers_length old)))
        ]
