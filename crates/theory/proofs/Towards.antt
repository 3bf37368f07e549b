-- The best walks from one pixel x, by a recursion that looks back from where they end: the number of a pixel q tells the best walk of m steps from
-- x to q. A walk back from q to x, turned round, is one from x, and each walk from x is found at its last pixel; so the best of these numbers, each no
-- higher than a walk may end at its pixel, is what `best_walk` tells at x.
use Prim.Native.Nat.{ℕ, ◌*◌, ◌≤◌, ◌<◌, min}
use mathlib.Core.Path.{◌≡◌, refl, subst}
use mathlib.Core.Bool.{Bool, true, false}
use mathlib.Core.List.{Memᴰ}
use mathlib.Core.Logic.{◌⊎◌, ⊎_elim}
use native.Mathlib.Omega.{arith}
use lib.Dec.{eqb}
use borrow.Author.Tests.{eqb-true, eq-eqb}
use Rattle.theory.specs.Walks.{around, opposite}
use Rattle.theory.specs.BestWalks.{ended, best_walk, best_walk_to}
use Rattle.basics.proofs.Numbers.{le_or_lt, known_below}
use Rattle.theory.proofs.Steps.{next_on}
use Rattle.theory.proofs.Reversal.{turn, turn_back, back_on}
use Rattle.theory.proofs.LevelSets.{reach_bound, reach_good, good_reach}
use Rattle.theory.proofs.WalksTo.{from_turned, turned_from}

-- the highest key at which a walk of m steps from x to q has at most j pixels below it, whether or not a path may end at q
abbrev pub towards : Bool → ℕ → ℕ → ℕ → (ℕ → ℕ) → ℕ → ℕ → ℕ → ℕ → ℕ
towards b W H bit g x m j q = best_walk_to 65535 (around (opposite b) W H bit) g (λ p. eqb p x) m j q

-- ---- a step of one side is a step of the other, turned round, and stays on the plate

pub turn_around : (b : Bool) (W H bit p q : ℕ) → Memᴰ q (around b W H bit p) → Memᴰ p (around (opposite b) W H bit q)
unfolding around
turn_around true W H bit p q i = turn_back W H bit p q i
turn_around false W H bit p q i = turn W H bit p q i

pub turn_opposite : (b : Bool) (W H bit p q : ℕ) → Memᴰ q (around (opposite b) W H bit p) → Memᴰ p (around b W H bit q)
unfolding around
turn_opposite true W H bit p q i = turn W H bit p q i
turn_opposite false W H bit p q i = turn_back W H bit p q i

pub around_on : (b : Bool) (W H bit p q : ℕ) → Memᴰ q (around b W H bit p) → (p < W * H) × (q < W * H)
unfolding around
around_on true W H bit p q i = back_on W H bit p q i
around_on false W H bit p q i = next_on W H bit p q i

-- ---- the numbers of all pixels against the one of x

module _ (slack : ℕ) (b : Bool) (W H bit : ℕ) (g : ℕ → ℕ) (bounded : (p : ℕ) → g p ≤ 65535) (x m j : ℕ) where
  -- the same where a path ends at q
  abbrev pub ended_towards : ℕ → ℕ
  ended_towards q = min (towards b W H bit g x m j q) (ended slack (g q))

  towards_known : (t q : ℕ) → 1 ≤ t → t ≤ ended_towards q → t ≤ best_walk slack (around b W H bit) g m j x
  towards_known t q positive h =
      let r = from_turned 65535 (around b W H bit) (around (opposite b) W H bit) g (λ p. eqb p x) t (turn_opposite b W H bit) positive m j q (omega arith) in
      let w = r.2 in
      subst (λ (z : ℕ). t ≤ best_walk slack (around b W H bit) g m j z) (eqb-true r.0 x r.1)
      (good_reach slack (around b W H bit) g t m j r.0
      (record { pixels = w.pixels; walk = w.walk; few = w.few; ends = rw w.last (let e : t ≤ ended slack (g q) = omega arith in e) }))

  -- no pixel tells more than x
  pub towards_below : (q : ℕ) → ended_towards q ≤ best_walk slack (around b W H bit) g m j x
  towards_below q = ⊎_elim (λ l. towards_known (ended_towards q) q l (omega arith)) (λ l. omega arith) (le_or_lt 1 (ended_towards q))

  -- and what x tells some pixel does, the last of the walk
  pub towards_find :
      slack ≤ 65535 → x < W * H → (t : ℕ) → 1 ≤ t → t ≤ best_walk slack (around b W H bit) g m j x → (q : ℕ) × (q < W * H) × (t ≤ ended_towards q)
  towards_find small on t positive h =
      let low : t ≤ 65535 = omega (arith, reach_bound slack (around b W H bit) g bounded small m j x) in
      let w = reach_good slack (around b W H bit) g t positive m j x h in
      let r =
      turned_from 65535 (around b W H bit) (around (opposite b) W H bit) g (λ p. eqb p x) t (turn_around b W H bit)
      (W * H) (λ p q i. (around_on b W H bit p q i).1) low m j x (eq-eqb x x refl) on w.walk w.few in
      let ends : t ≤ ended slack (g r.0) = rw r.1 w.ends in
      (r.0, r.2, omega (arith, r.3))

  -- so the greatest of them is the one of x
  pub towards_best :
      slack ≤ 65535 → x < W * H → (n : ℕ) → ((q : ℕ) → q < W * H → ended_towards q ≤ n) →
      (n ≡ 0) ⊎ ((q : ℕ) × (n ≡ ended_towards q)) → n ≡ best_walk slack (around b W H bit) g m j x
  towards_best small on n upper least = known_below n (best_walk slack (around b W H bit) g m j x)
      (λ t positive h. ⊎_elim (λ e. absurd (omega arith)) (λ s. omega (arith, s.1, towards_below s.0)) least)
      (λ t positive h. let r = towards_find small on t positive h in omega (arith, r.2, upper r.0 r.1))
