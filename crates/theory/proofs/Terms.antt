-- The opened key by its terms, for a program that visits them in any order and skips those that are 0: no term is above the value, and the value
-- is not above what no term is above. A direction in which no path crosses x adds nothing, and only the keys on the plate matter.
use Prim.Native.Nat.{ℕ, ◌-◌, ◌*◌, ◌≤◌, ◌<◌, min}
use mathlib.Core.Path.{◌≡◌, sym}
use mathlib.Core.List.{List, Memᴰ}
use mathlib.Core.Logic.{⊎_elim}
use native.Mathlib.Omega.{arith}
use Rattle.basics.proofs.Numbers.{le_or_lt, known_below}
use Rattle.plate.specs.Paths.{next}
use Rattle.theory.specs.Walks.{Walk, back}
use Rattle.theory.specs.BestWalks.{best_through, in_direction, value, term}
use Rattle.theory.proofs.Steps.{next_on}
use Rattle.theory.proofs.Reversal.{turn_back, back_on}
use Rattle.theory.proofs.Maxima.{best_keep, best_least, upto_keep, upto_least}
use Rattle.theory.proofs.LevelSets.{reach_same}
use Rattle.theory.proofs.Splitting.{unsplit}
use Rattle.theory.proofs.Decomposition.{across_find}

-- ---- one direction

module _ (slack W H bit m k : ℕ) (g : ℕ → ℕ) (x : ℕ) where
  pub across_term : (l i : ℕ) → l ≤ m → i ≤ k → term slack W H bit m k g x l i ≤ in_direction slack W H bit m k g x
  unfolding best_through
  across_term l i hl hi =
      upto_keep _ (term slack W H bit m k g x l i) m l hl (upto_keep (term slack W H bit m k g x l) (term slack W H bit m k g x l i) k i hi (omega arith))

  pub across_least : (b : ℕ) → ((l i : ℕ) → l ≤ m → i ≤ k → term slack W H bit m k g x l i ≤ b) → in_direction slack W H bit m k g x ≤ b
  unfolding best_through
  across_least b h = upto_least _ b m (λ l hl. upto_least (term slack W H bit m k g x l) b k (λ i hi. h l i hl hi))

  -- where no walk of m steps crosses x
  pub across_none : ((p : ℕ) (ps : List ℕ) → Walk (next W H bit) m p ps → Memᴰ x ps → ⊥) → in_direction slack W H bit m k g x ≡ 0
  across_none none = known_below (in_direction slack W H bit m k g x) 0
      (λ t positive h.
      let c = unsplit slack (next W H bit) (back W H bit) g t (turn_back W H bit) positive (across_find t m k x h) in
      absurd (none c.start c.pixels c.walk c.crosses))
      (λ t positive h. omega arith)

-- ---- all directions, and the key of x itself

module _ (slack W H : ℕ) (bits : List ℕ) (m k : ℕ) (g : ℕ → ℕ) (x : ℕ) where
  pub value_term : (bit l i : ℕ) → Memᴰ bit bits → l ≤ m → i ≤ k → min (g x) (term slack W H bit m k g x l i) ≤ value slack W H bits m k g x
  unfolding value
  value_term bit l i c hl hi =
      let a = across_term slack W H bit m k g x l i hl hi in
      omega (arith, best_keep (λ bit. in_direction slack W H bit m k g x) (term slack W H bit m k g x l i) bit c a)

  pub value_least : (b : ℕ) → ((bit l i : ℕ) → Memᴰ bit bits → l ≤ m → i ≤ k → min (g x) (term slack W H bit m k g x l i) ≤ b) →
      value slack W H bits m k g x ≤ b
  unfolding value
  value_least b h = ⊎_elim (λ a. omega arith)
      (λ a.
      let each : (bit : ℕ) → Memᴰ bit bits → in_direction slack W H bit m k g x ≤ b =
      λ bit c. across_least slack W H bit m k g x b (λ l i hl hi. omega (arith, h bit l i c hl hi)) in
      omega (arith, best_least (λ bit. in_direction slack W H bit m k g x) b bits each))
      (le_or_lt (g x) b)

-- ---- the keys on the plate say all

module _ (slack W H : ℕ) (bits : List ℕ) (m k : ℕ) (x : ℕ) (x-on : x < W * H) where
  value_below : (g h : ℕ → ℕ) → ((p : ℕ) → p < W * H → g p ≡ h p) → value slack W H bits m k g x ≤ value slack W H bits m k h x
  value_below g h same = value_least slack W H bits m k g x (value slack W H bits m k h x)
      (λ bit l i c hl hi.
      omega (
        arith,
        value_term slack W H bits m k h x bit l i c hl hi,
        same x x-on,
        reach_same slack (next W H bit) g h (W * H) (λ p q e. (next_on W H bit p q e).1) same (m - l) (k - i) x x-on,
        reach_same slack (back W H bit) g h (W * H) (λ p q e. (back_on W H bit p q e).1) same l i x x-on,
      ))

  pub value_same : (g h : ℕ → ℕ) → ((p : ℕ) → p < W * H → g p ≡ h p) → value slack W H bits m k g x ≡ value slack W H bits m k h x
  value_same g h same = omega (arith, value_below g h same, value_below h g (λ p on. sym (same p on)))
