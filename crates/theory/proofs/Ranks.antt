-- The rank of a pixel in a direction: how many lines it stands from where the direction's longest paths start. Every step raises it by at least one,
-- it stays below the span, and one step raises it by exactly one wherever it is not the highest. Shown in columns and
-- rows, direction by direction, and then said of places.
use Prim.Native.Nat.{ℕ, suc, ◌+◌, ◌-◌, ◌*◌, ◌/◌, ◌%◌, ◌^◌, ◌<◌}
use mathlib.Core.Path.{◌≡◌, refl}
use mathlib.Core.List.{List, [], ◌∷◌, map, Memᴰ}
use mathlib.Core.Logic.{⊎_elim}
use native.Mathlib.Nat.{div-add-mod'}
use native.Mathlib.Omega.{arith}
use lib.Arith.{digits_div, digits_mod}
use lib.IntN.{pos, negsuc}
use Rattle.basics.proofs.Numbers.{le_or_lt, below_four}
use Rattle.basics.proofs.Lists.{one_of_three}
use Rattle.plate.specs.Directions.{Step, Direction, table, steps_in, steps}
use Rattle.plate.specs.Paths.{next, span}
use Rattle.theory.specs.Walks.{back}
use Rattle.theory.specs.Ranks.{rank_at, rank}
use Rattle.theory.proofs.Steps.{column_below, row_below}
use Rattle.theory.proofs.Moves.{gain, loss, Move, reached_move, move_reached}
use Rattle.theory.proofs.Reversal.{turn}

-- ---- in columns and rows

-- a step of the direction that raises the rank by one
record Rise (W H bit c r d e : ℕ) : Type 0 where
  move : Move W H (steps bit) c r d e
  one_more : rank_at H bit d e ≡ rank_at H bit c r + 1

-- the four facts: the rank is below the span, every step raises it, and some step by one, both on from a pixel and to it
record RankedAt (W H bit : ℕ) : Type 0 where
  bound : (c r : ℕ) → c < W → r < H → rank_at H bit c r < span W H bit
  rises : (c r d e : ℕ) → Move W H (steps bit) c r d e → rank_at H bit c r < rank_at H bit d e
  onward : (c r : ℕ) → c < W → r < H → rank_at H bit c r + 1 < span W H bit → (d : ℕ) × (e : ℕ) × Rise W H bit c r d e
  backward : (c r : ℕ) → c < W → r < H → 0 < rank_at H bit c r → (d : ℕ) × (e : ℕ) × Rise W H bit d e c r

-- the steps that raise it by one
abbrev right : Step
right = record { column = pos 1; row = pos 0 }

abbrev up : Step
up = record { column = pos 0; row = negsuc 0 }

abbrev down : Step
down = record { column = pos 0; row = pos 1 }

module _ (W H bit : ℕ) where
  rise :
      {s : Step} → Memᴰ s (steps bit) → (c r d e : ℕ) → c + gain s.column ≡ d + loss s.column → r + gain s.row ≡ e + loss s.row →
      c < W → r < H → d < W → e < H → rank_at H bit d e ≡ rank_at H bit c r + 1 → Rise W H bit c r d e
  rise {s} i c r d e x y hc hr hd he o =
      record {
        move = record { step = s; is_step = i; columns = x; rows = y; from_column = hc; from_row = hr; to_column = hd; to_row = he };
        one_more = o;
      }

  -- what a step has to do; each of the three steps of a direction does it
  abbrev Raises : ℕ → ℕ → ℕ → ℕ → Step → Type 0
  Raises c r d e s =
      c + gain s.column ≡ d + loss s.column → r + gain s.row ≡ e + loss s.row → rank_at H bit c r < rank_at H bit d e

  raised :
      {s₀ s₁ s₂ : Step} (c r d e : ℕ) → Move W H (s₀ ∷ s₁ ∷ s₂ ∷ []) c r d e →
      Raises c r d e s₀ → Raises c r d e s₁ → Raises c r d e s₂ → rank_at H bit c r < rank_at H bit d e
  raised c r d e m a₀ a₁ a₂ = one_of_three (Raises c r d e) a₀ a₁ a₂ m.is_step m.columns m.rows

module _ (W H : ℕ) where
  north : RankedAt W H 1
  unfolding rank_at span table steps steps_in
  north =
      let u : Memᴰ up (steps 1) = mathlib.Core.List.Memᴰ.tail (mathlib.Core.List.Memᴰ.head refl) in
      record {
        bound = λ c r h k. omega arith;
        rises = λ c r d e m. raised W H 1 c r d e m (λ x y. omega arith) (λ x y. omega arith) (λ x y. omega arith);
        onward = λ c r h k l. (c, r - 1, rise W H 1 u c r c (r - 1) (omega arith) (omega arith) h k h (omega arith) (omega arith));
        backward = λ c r h k l. (c, r + 1, rise W H 1 u c (r + 1) c r (omega arith) (omega arith) h (omega arith) h k (omega arith));
      }

  east : RankedAt W H 2
  unfolding rank_at span table steps steps_in
  east =
      let i : Memᴰ right (steps 2) = mathlib.Core.List.Memᴰ.tail (mathlib.Core.List.Memᴰ.head refl) in
      record {
        bound = λ c r h k. omega arith;
        rises = λ c r d e m. raised W H 2 c r d e m (λ x y. omega arith) (λ x y. omega arith) (λ x y. omega arith);
        onward = λ c r h k l. (c + 1, r, rise W H 2 i c r (c + 1) r (omega arith) (omega arith) h k (omega arith) k (omega arith));
        backward = λ c r h k l. (c - 1, r, rise W H 2 i (c - 1) r c r (omega arith) (omega arith) (omega arith) k h k (omega arith));
      }

  -- on a diagonal two of the steps raise the rank by one; where the plate ends for one of them, the other is left
  north_east : RankedAt W H 4
  unfolding rank_at span table steps steps_in
  north_east =
      let i : Memᴰ right (steps 4) = mathlib.Core.List.Memᴰ.head refl in
      let u : Memᴰ up (steps 4) = mathlib.Core.List.Memᴰ.tail (mathlib.Core.List.Memᴰ.tail (mathlib.Core.List.Memᴰ.head refl)) in
      record {
        bound = λ c r h k. omega arith;
        rises = λ c r d e m. raised W H 4 c r d e m (λ x y. omega arith) (λ x y. omega arith) (λ x y. omega arith);
        onward = λ c r h k l.
            ⊎_elim (λ a. (c + 1, r, rise W H 4 i c r (c + 1) r (omega arith) (omega arith) h k a k (omega arith)))
            (λ a. (c, r - 1, rise W H 4 u c r c (r - 1) (omega arith) (omega arith) h k h (omega arith) (omega arith))) (le_or_lt (suc (c + 1)) W);
        backward = λ c r h k l.
            ⊎_elim (λ a. (c - 1, r, rise W H 4 i (c - 1) r c r (omega arith) (omega arith) (omega arith) k h k (omega arith)))
            (λ a. (c, r + 1, rise W H 4 u c (r + 1) c r (omega arith) (omega arith) h (omega arith) h k (omega arith))) (le_or_lt 1 c);
      }

  south_east : RankedAt W H 8
  unfolding rank_at span table steps steps_in
  south_east =
      let i : Memᴰ right (steps 8) = mathlib.Core.List.Memᴰ.head refl in
      let u : Memᴰ down (steps 8) = mathlib.Core.List.Memᴰ.tail (mathlib.Core.List.Memᴰ.tail (mathlib.Core.List.Memᴰ.head refl)) in
      record {
        bound = λ c r h k. omega arith;
        rises = λ c r d e m. raised W H 8 c r d e m (λ x y. omega arith) (λ x y. omega arith) (λ x y. omega arith);
        onward = λ c r h k l.
            ⊎_elim (λ a. (c + 1, r, rise W H 8 i c r (c + 1) r (omega arith) (omega arith) h k a k (omega arith)))
            (λ a. (c, r + 1, rise W H 8 u c r c (r + 1) (omega arith) (omega arith) h k h (omega arith) (omega arith))) (le_or_lt (suc (c + 1)) W);
        backward = λ c r h k l.
            ⊎_elim (λ a. (c - 1, r, rise W H 8 i (c - 1) r c r (omega arith) (omega arith) (omega arith) k h k (omega arith)))
            (λ a. (c, r - 1, rise W H 8 u c (r - 1) c r (omega arith) (omega arith) h (omega arith) h k (omega arith))) (le_or_lt 1 c);
      }

-- ---- of places

-- the same four facts; all that is said of the lengths of paths follows from them
pub record Ranked (W H bit : ℕ) : Type 0 where
  pub rank_bound : (p : ℕ) → p < W * H → rank W H bit p < span W H bit
  pub rank_up : (p q : ℕ) → Memᴰ q (next W H bit p) → rank W H bit p < rank W H bit q
  pub rank_next : (p : ℕ) → p < W * H → rank W H bit p + 1 < span W H bit → (q : ℕ) × Memᴰ q (next W H bit p) × (rank W H bit q ≡ rank W H bit p + 1)
  pub rank_back : (p : ℕ) → p < W * H → 0 < rank W H bit p → (q : ℕ) × Memᴰ q (back W H bit p) × (rank W H bit p ≡ rank W H bit q + 1)

module _ (W H bit : ℕ) where
  rise_from : (p : ℕ) {d e : ℕ} → Rise W H bit (p % W) (p / W) d e → (q : ℕ) × Memᴰ q (next W H bit p) × (rank W H bit q ≡ rank W H bit p + 1)
  unfolding rank next
  rise_from p {d} {e} o =
      let w = o.move.to_column in
      (e * W + d, rw (div-add-mod' p W) at (move_reached W H (steps bit) o.move), rw (digits_mod e w, digits_div e w) o.one_more)

  rise_to : (p : ℕ) {d e : ℕ} → Rise W H bit d e (p % W) (p / W) → (q : ℕ) × Memᴰ q (back W H bit p) × (rank W H bit p ≡ rank W H bit q + 1)
  unfolding rank next
  rise_to p {d} {e} o =
      let w = o.move.from_column in
      (e * W + d, turn W H bit (e * W + d) p (rw (div-add-mod' p W) at (move_reached W H (steps bit) o.move)), rw (digits_mod e w, digits_div e w) o.one_more)

  placed : RankedAt W H bit → Ranked W H bit
  unfolding rank next
  placed R =
      record {
        rank_bound = λ p h. R.bound (p % W) (p / W) (column_below W H p h) (row_below W H p h);
        rank_up = λ p q i. R.rises (p % W) (p / W) (q % W) (q / W) (reached_move W H (steps bit) p q i);
        rank_next = λ p h l. rise_from p (R.onward (p % W) (p / W) (column_below W H p h) (row_below W H p h) l).2;
        rank_back = λ p h l. rise_to p (R.backward (p % W) (p / W) (column_below W H p h) (row_below W H p h) l).2;
      }

-- the bits of the table's directions
abbrev pub bits : List ℕ
bits = map (λ (d : Direction). d.bit) table

-- the bit of the direction at an index of the table
pub bit_listed : (index : ℕ) → index < 4 → Memᴰ (2 ^ index) bits
unfolding table
bit_listed index h =
    below_four (λ (i : ℕ). Memᴰ (2 ^ i) bits) (mathlib.Core.List.Memᴰ.head refl) (mathlib.Core.List.Memᴰ.tail (mathlib.Core.List.Memᴰ.head refl))
    (mathlib.Core.List.Memᴰ.tail (mathlib.Core.List.Memᴰ.tail (mathlib.Core.List.Memᴰ.head refl))) (mathlib.Core.List.Memᴰ.tail (mathlib.Core.List.Memᴰ.tail (mathlib.Core.List.Memᴰ.tail (mathlib.Core.List.Memᴰ.head refl)))) index h

-- every direction of the table has ranks
pub ranked : (W H bit : ℕ) → Memᴰ bit bits → Ranked W H bit
unfolding table
ranked W H bit (mathlib.Core.List.Memᴰ.head e) = rw e (placed W H 1 (north W H))
ranked W H bit (mathlib.Core.List.Memᴰ.tail i) =
    one_of_three (Ranked W H) (placed W H 2 (east W H)) (placed W H 4 (north_east W H)) (placed W H 8 (south_east W H)) i
