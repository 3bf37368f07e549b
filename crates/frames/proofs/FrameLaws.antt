-- The frames of the four directions. Their three steps are read off the table, and are those of a straight or a diagonal frame in some order; their
-- ranks are lines and pixels counted from the end.
use Prim.Native.Nat.{ℕ, ◌+◌, ◌-◌, ◌^◌, ◌<◌, max}
use mathlib.Core.Path.{◌≡◌, refl, ◌∙◌}
use mathlib.Core.Bool.{Bool, true, false, cond}
use native.Mathlib.Nat.{add-zero}
use native.Mathlib.Omega.{arith}
use lib.Dec.{eqb, leb}
use Rattle.basics.proofs.Numbers.{below_four}
use Rattle.plate.specs.Directions.{table, step_at}
use Rattle.plate.specs.Paths.{span}
use Rattle.plate.specs.Sizes.{GoodSize}
use Rattle.frames.specs.Steps.{plus_one, biased, columns_on, rows_on}
use Rattle.frames.specs.Frames.{counted_from, spot, past, onward, Framed}
use Rattle.frames.specs.declared.frame.Frame.{Frame}
use Rattle.theory.specs.Ranks.{rank_at}
use Rattle.frames.proofs.PlateLines.{three, rows, rows_bounded, rows_on_lem, rows_whole, rows_near, rows_rank, columns, columns_bounded, columns_on_lem, columns_whole, columns_near, columns_rank}

-- how far a step goes on to the next line or pixel, plus one
abbrev beyond : Bool → ℕ
beyond true = 2
beyond false = 0

module _ (f : ℕ → ℕ) (r : Frame) (back : Bool) (i x : ℕ) where
  -- the spot d lines and e pixels on, plus one
  abbrev by : ℕ → ℕ → ℕ
  by d e = spot f r (i + d) (x + e)

  straight_onward : r.diagonal ≡ false → max (max (by (beyond back) 0) (by (beyond back) 1)) (by (beyond back) 2) ≡ onward f r back i x
  unfolding onward past
  straight_onward e = elim back as (λ b. max (max (by (beyond b) 0) (by (beyond b) 1)) (by (beyond b) 2) ≡ onward f r b i x) [
    | true ↦ simp (e, add-zero)
    | false ↦ simp (e, add-zero)
  ]

  diagonal_onward : r.diagonal ≡ true → max (max (by 1 (beyond back)) (by (beyond back) 1)) (by (beyond back) (beyond back)) ≡ onward f r back i x
  unfolding onward past
  diagonal_onward e = elim back as (λ b. max (max (by 1 (beyond b)) (by (beyond b) 1)) (by (beyond b) (beyond b)) ≡ onward f r b i x) [
    | true ↦ simp e
    | false ↦ simp (e, add-zero)
  ]

-- ---- what is left to show of a direction

-- the room that is left on one side, by the room on the other
room_left :
    (diagonal : Bool) (n m i x : ℕ) → i < n → x < m →
    n + cond diagonal (m - 1) 0 - 1 - (n - 1 - i + cond diagonal (m - 1 - x) 0) ≡ i + cond diagonal x 0
room_left true n m i x h k = omega arith
room_left false n m i x h k = omega arith

-- where the three steps of the direction at this index lead from the spot, by lines and pixels of the frame
module _ (W H : ℕ) (flipped mirrored diagonal : Bool) (index : ℕ) (f : ℕ → ℕ) (i x : ℕ) where
  abbrev RowsOnward : Bool → Type 0
  RowsOnward back =
      three (λ n. spot f (rows W H flipped mirrored diagonal) (i + counted_from flipped 3 (rows_on index n back)) (x + counted_from mirrored 3 (columns_on index n back)))
      ≡ onward f (rows W H flipped mirrored diagonal) back i x

  abbrev ColumnsOnward : Bool → Type 0
  ColumnsOnward back =
      three (λ n. spot f (columns W H flipped mirrored diagonal) (i + counted_from flipped 3 (columns_on index n back)) (x + counted_from mirrored 3 (rows_on index n back)))
      ≡ onward f (columns W H flipped mirrored diagonal) back i x

module _ (W H : ℕ) (sized : GoodSize W H) (flipped mirrored diagonal : Bool) (index : ℕ) (known : index < 4) where
  rows_framed :
      ((f : ℕ → ℕ) (back : Bool) (i x : ℕ) →
      three (λ n. spot f (rows W H flipped mirrored diagonal) (i + counted_from flipped 3 (rows_on index n back)) (x + counted_from mirrored 3 (columns_on index n back)))
      ≡ onward f (rows W H flipped mirrored diagonal) back i x) →
      ((i x : ℕ) → i < H → x < W → rank_at H (2 ^ index) (counted_from mirrored W x) (counted_from flipped H i) ≡ H - 1 - i + cond diagonal (W - 1 - x) 0) →
      span W H (2 ^ index) ≡ H + cond diagonal (W - 1) 0 → Framed (rows W H flipped mirrored diagonal) W H index
  rows_framed n back l =
      record {
        bounded = rows_bounded W H flipped mirrored diagonal sized;
        area = omega arith;
        lies = rows_on_lem W H flipped mirrored diagonal;
        whole = rows_whole W H flipped mirrored diagonal;
        near = λ f b i x h k. rows_near W H flipped mirrored diagonal index known f b i x h k ∙ n f b i x;
        room_on = λ i x h k. rw (rows_rank W H flipped mirrored diagonal (2 ^ index) i x h k, l, back i x h k) (room_left diagonal H W i x h k);
        room_back = λ i x h k. rows_rank W H flipped mirrored diagonal (2 ^ index) i x h k ∙ back i x h k;
        long = l;
      }

  columns_framed :
      ((f : ℕ → ℕ) (back : Bool) (i x : ℕ) →
      three (λ n. spot f (columns W H flipped mirrored diagonal) (i + counted_from flipped 3 (columns_on index n back)) (x + counted_from mirrored 3 (rows_on index n back)))
      ≡ onward f (columns W H flipped mirrored diagonal) back i x) →
      ((i x : ℕ) → i < W → x < H → rank_at H (2 ^ index) (counted_from flipped W i) (counted_from mirrored H x) ≡ W - 1 - i + cond diagonal (H - 1 - x) 0) →
      span W H (2 ^ index) ≡ W + cond diagonal (H - 1) 0 → Framed (columns W H flipped mirrored diagonal) W H index
  columns_framed n back l =
      record {
        bounded = columns_bounded W H flipped mirrored diagonal sized;
        area = refl;
        lies = columns_on_lem W H flipped mirrored diagonal;
        whole = columns_whole W H flipped mirrored diagonal;
        near = λ f b i x h k. columns_near W H flipped mirrored diagonal index known f b i x h k ∙ n f b i x;
        room_on = λ i x h k. rw (columns_rank W H flipped mirrored diagonal (2 ^ index) i x h k, l, back i x h k) (room_left diagonal W H i x h k);
        room_back = λ i x h k. columns_rank W H flipped mirrored diagonal (2 ^ index) i x h k ∙ back i x h k;
        long = l;
      }

-- ---- the six frames

module _ (W H : ℕ) (sized : GoodSize W H) where
  north_rows : Framed (rows W H false false false) W H 0
  unfolding counted_from columns_on rows_on biased plus_one step_at table rank_at span
  north_rows =
      rows_framed W H sized false false false 0 (omega arith)
      (λ f back i x. elim back as (RowsOnward W H false false false 0 f i x) [
        | true ↦ omega (arith, straight_onward f (rows W H false false false) true i x refl)
        | false ↦ omega (arith, straight_onward f (rows W H false false false) false i x refl)
      ])
      (λ i x h k. omega arith)
      (omega (arith, sized.wide))

  east_columns : Framed (columns W H true false false) W H 1
  unfolding counted_from columns_on rows_on biased plus_one step_at table rank_at span
  east_columns =
      columns_framed W H sized true false false 1 (omega arith)
      (λ f back i x. elim back as (ColumnsOnward W H true false false 1 f i x) [
        | true ↦ omega (arith, straight_onward f (columns W H true false false) true i x refl)
        | false ↦ omega (arith, straight_onward f (columns W H true false false) false i x refl)
      ])
      (λ i x h k. omega arith)
      (omega (arith, sized.high))

  north_east_rows : Framed (rows W H false true true) W H 2
  unfolding counted_from columns_on rows_on biased plus_one step_at table rank_at span
  north_east_rows =
      rows_framed W H sized false true true 2 (omega arith)
      (λ f back i x. elim back as (RowsOnward W H false true true 2 f i x) [
        | true ↦ omega (arith, diagonal_onward f (rows W H false true true) true i x refl)
        | false ↦ omega (arith, diagonal_onward f (rows W H false true true) false i x refl)
      ])
      (λ i x h k. omega arith)
      (omega (arith, sized.wide))

  north_east_columns : Framed (columns W H true false true) W H 2
  unfolding counted_from columns_on rows_on biased plus_one step_at table rank_at span
  north_east_columns =
      columns_framed W H sized true false true 2 (omega arith)
      (λ f back i x. elim back as (ColumnsOnward W H true false true 2 f i x) [
        | true ↦ omega (arith, diagonal_onward f (columns W H true false true) true i x refl)
        | false ↦ omega (arith, diagonal_onward f (columns W H true false true) false i x refl)
      ])
      (λ i x h k. omega arith)
      (omega (arith, sized.high))

  south_east_rows : Framed (rows W H true true true) W H 3
  unfolding counted_from columns_on rows_on biased plus_one step_at table rank_at span
  south_east_rows =
      rows_framed W H sized true true true 3 (omega arith)
      (λ f back i x. elim back as (RowsOnward W H true true true 3 f i x) [
        | true ↦ omega (arith, diagonal_onward f (rows W H true true true) true i x refl)
        | false ↦ omega (arith, diagonal_onward f (rows W H true true true) false i x refl)
      ])
      (λ i x h k. omega arith)
      (omega (arith, sized.wide))

  south_east_columns : Framed (columns W H true true true) W H 3
  unfolding counted_from columns_on rows_on biased plus_one step_at table rank_at span
  south_east_columns =
      columns_framed W H sized true true true 3 (omega arith)
      (λ f back i x. elim back as (ColumnsOnward W H true true true 3 f i x) [
        | true ↦ omega (arith, diagonal_onward f (columns W H true true true) true i x refl)
        | false ↦ omega (arith, diagonal_onward f (columns W H true true true) false i x refl)
      ])
      (λ i x h k. omega arith)
      (omega (arith, sized.high))

  -- ---- the frame of a direction, as `frame_of` makes it

  -- the lines are rows, but for east
  pub framed_rows : (index : ℕ) → index < 4 → (index ≡ 1 → ⊥) → Framed (rows W H (eqb index 3) (leb 2 index) (leb 2 index)) W H index
  framed_rows index =
      below_four (λ (n : ℕ). (n ≡ 1 → ⊥) → Framed (rows W H (eqb n 3) (leb 2 n) (leb 2 n)) W H n)
      (λ no. north_rows) (λ no. absurd (no refl)) (λ no. north_east_rows) (λ no. south_east_rows) index

  -- and columns, but for north
  pub framed_columns : (index : ℕ) → index < 4 → (index ≡ 0 → ⊥) → Framed (columns W H true (eqb index 3) (leb 2 index)) W H index
  framed_columns index =
      below_four (λ (n : ℕ). (n ≡ 0 → ⊥) → Framed (columns W H true (eqb n 3) (leb 2 n)) W H n)
      (λ no. absurd (no refl)) (λ no. east_columns) (λ no. north_east_columns) (λ no. south_east_columns) index
