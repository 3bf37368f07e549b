-- Laws of the loops: a run that grows by one store is a run.
use Prim.Native.Nat.{ℕ, ◌+◌, ◌≤◌, ◌<◌}
use mathlib.Core.Path.{◌≡◌, refl, sym, ◌∙◌, subst}
use mathlib.Core.Logic.{⊎_elim}
use mathlib.Core.List.{List}
use native.Mathlib.Nat.{eq-or-lt_of_le}
use native.Mathlib.Omega.{arith}
use lib.ListN.{length, get_or, set, length-set}
use lib.Seq.{get_or-set_same, get_or-set_other}
use Rattle.eights.specs.Turned.{turned, numbers}
use Rattle.states.specs.Runs.{Between}
use Rattle.eights.proofs.TurnedLaws.{numbers_length, numbers_set}

pub between_none : (f : ℕ → ℕ) (old : List ℕ) (lo hi : ℕ) → lo ≡ hi → Between f old old lo hi
between_none f old lo hi e = record { inside = λ k a b. omega arith; under = λ k h. refl; over = λ k h. refl; len = refl }

pub between_more :
    (f : ℕ → ℕ) (old new : List ℕ) (lo hi n v : ℕ) →
    Between f old new lo hi →
    lo ≤ hi →
    hi < length old →
    v ≡ f hi →
    n ≡ hi + 1 →
    Between f old (set new hi v) lo n
between_more f old new lo hi n v b o l e s =
    record {
      inside = λ k a h.
          ⊎_elim
          (λ q. subst (λ (j : ℕ). get_or (set new hi v) j 0 ≡ f j) (sym q) (get_or-set_same new hi v 0 (omega (arith, b.len)) ∙ e))
          (λ q. get_or-set_other new hi k v 0 (λ z. omega arith) ∙ b.inside k a q)
          (eq-or-lt_of_le (let g : k ≤ hi = omega arith in g));
      under = λ k h. get_or-set_other new hi k v 0 (λ z. omega arith) ∙ b.under k h;
      over = λ k h. get_or-set_other new hi k v 0 (λ z. omega arith) ∙ b.over k (omega arith);
      len = length-set new hi v ∙ b.len;
    }

-- the same where what is written is turned
pub numbers_more :
    (f : ℕ → ℕ) (old new : List ℕ) (lo hi n v : ℕ) →
    Between f (numbers old) (numbers new) lo hi →
    lo ≤ hi →
    hi < length old →
    turned v ≡ f hi →
    n ≡ hi + 1 →
    Between f (numbers old) (numbers (set new hi v)) lo n
numbers_more f old new lo hi n v b o l e s =
    subst (λ (xs : List ℕ). Between f (numbers old) xs lo n) (sym (numbers_set new hi v))
    (between_more f (numbers old) (numbers new) lo hi n (turned v) b o (omega (arith, numbers_length old)) e s)

pub between_ends : (f : ℕ → ℕ) (old new : List ℕ) (lo hi n : ℕ) → Between f old new lo hi → hi ≡ n → Between f old new lo n
between_ends f old new lo hi n b e = subst (λ (m : ℕ). Between f old new lo m) e b
