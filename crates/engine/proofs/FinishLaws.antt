-- The last pass over the result: the levels before x are finished, and the others are still what was gathered. An element is read from its bits
-- (plate/proofs/ReadLevels.antt).
use Prim.Native.Nat.{ℕ, ◌+◌, ◌≤◌, ◌<◌, min}
use mathlib.Core.Path.{◌≡◌, sym, subst, ◌∙◌}
use mathlib.Core.List.{List}
use mathlib.Core.Logic.{⊎_elim}
use native.Mathlib.Nat.{eq-or-lt_of_le}
use native.Mathlib.Omega.{arith}
use lib.ListN.{length, set}
use lib.Seq.{get_or-set_same, get_or-set_other}
use lib.IntN.{ℤ}
use lib.Signed.{mag}
use Rattle.plate.specs.Levels.{lowest}
use Rattle.plate.specs.Opening.{level_at}
use Rattle.frames.specs.Keys.{key_by, level_by}
use Rattle.theory.specs.BestWalks.{key_at}

-- ---- levels that are finished, one a turn

pub record FinishedTo (mode : ℕ) (plate old new : List ℤ) (past : ℕ) : Type 0 where
  pub small : (x : ℕ) → x < past → mag (level_at plate x) < 32768
  pub done : (x : ℕ) → x < past → level_at new x ≡ level_by mode (min (key_by mode (level_at plate x)) (key_at old x))
  pub rest : (x : ℕ) → past ≤ x → level_at new x ≡ level_at old x

pub finished_more : (mode : ℕ) (plate old new : List ℤ) (x past : ℕ) (v : ℤ) → FinishedTo mode plate old new x → x < length new → mag (level_at plate x) < 32768 →
    v ≡ level_by mode (min (key_by mode (level_at plate x)) (key_at old x)) → past ≡ x + 1 → FinishedTo mode plate old (set new x v) past
finished_more mode plate old new x past v b l m e s =
    record {
      small = λ y h.
          ⊎_elim (λ q. subst (λ (z : ℕ). mag (level_at plate z) < 32768) (sym q) m) (λ q. b.small y q)
          (eq-or-lt_of_le (let g : y ≤ x = omega arith in g));
      done = λ y h.
          ⊎_elim
          (λ q. subst (λ (z : ℕ). level_at (set new x v) z ≡ level_by mode (min (key_by mode (level_at plate z)) (key_at old z))) (sym q) (get_or-set_same new x v lowest l ∙ e))
          (λ q. get_or-set_other new x y v lowest (λ z. omega arith) ∙ b.done y q)
          (eq-or-lt_of_le (let g : y ≤ x = omega arith in g));
      rest = λ y h. get_or-set_other new x y v lowest (λ z. omega arith) ∙ b.rest y (omega arith);
    }
