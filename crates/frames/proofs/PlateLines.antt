-- The lines of a frame as rows, or columns, of the plate. A pixel of a frame has a row and a column; a step to a row and a column nearby is, line and
-- pixel turned, a step in the frame. The rank of a pixel follows from its row and column.
use Prim.Native.Nat.{ℕ, zero, suc, ◌+◌, ◌*◌, ◌/◌, ◌%◌, ◌^◌, ◌≤◌, ◌<◌, max}
use mathlib.Core.Path.{◌≡◌, ap, ◌∙◌}
use mathlib.Core.Bool.{Bool, true, false}
use native.Mathlib.Nat.{div-add-mod'}
use native.Mathlib.Omega.{arith}
use lib.Arith.{digits_lt, digits_div, digits_mod}
use lib.IntN.{ℤ, pos, negsuc}
use Rattle.plate.specs.Directions.{step_at}
use Rattle.plate.specs.Sizes.{GoodSize}
use Rattle.theory.proofs.Steps.{column_below, row_below}
use Rattle.frames.specs.Steps.{plus_one, biased, columns_on, rows_on}
use Rattle.frames.proofs.PlateSpots.{plate_spot}
use Rattle.frames.proofs.Bridge.{best_around}
use Rattle.frames.specs.Frames.{counted_from, place_in, spot, Bounded}
use Rattle.frames.specs.declared.frame.Frame.{Frame}
use Rattle.theory.specs.BestWalks.{best}
use Rattle.theory.specs.Ranks.{rank, rank_at}
use Rattle.theory.specs.Walks.{around}
use Rattle.frames.proofs.SpotLaws.{turned_below, turned_twice, turned_step, rows_frame, columns_frame, rows_place, columns_place, rows_spot, columns_spot}

-- ---- a place with its row and column

record Lies (W H p row column : ℕ) : Type 0 where
  is_row : p / W ≡ row
  is_column : p % W ≡ column
  on : p < W * H

lies_at : (W H p row column : ℕ) → p ≡ row * W + column → row < H → column < W → Lies W H p row column
lies_at W H p row column e h k =
    record {
      is_row = ap (λ (n : ℕ). n / W) e ∙ digits_div row k;
      is_column = ap (λ (n : ℕ). n % W) e ∙ digits_mod row k;
      on = omega (arith, digits_lt h k);
    }

-- its rank
ranked_at : (W H bit p row column : ℕ) → Lies W H p row column → rank W H bit p ≡ rank_at H bit column row
unfolding rank
ranked_at W H bit p row column l = rw (l.is_row, l.is_column)

-- ---- steps in a frame

near_plus : (d : ℤ) → plus_one d ≤ 2
unfolding plus_one
near_plus (pos zero) = omega arith
near_plus (pos (suc zero)) = omega arith
near_plus (pos (suc (suc n))) = omega arith
near_plus (negsuc n) = omega arith

near_biased : (back : Bool) (d : ℤ) → biased back d ≤ 2
unfolding biased
near_biased true d = omega arith
near_biased false d = near_plus d

near_across : (index number : ℕ) (back : Bool) → columns_on index number back ≤ 2
unfolding columns_on
near_across index number back = near_biased back (step_at index number).column

near_down : (index number : ℕ) (back : Bool) → rows_on index number back ≤ 2
unfolding rows_on
near_down index number back = near_biased back (step_at index number).row

near_turned : (b : Bool) (d : ℕ) → d ≤ 2 → counted_from b 3 d ≤ 2
unfolding counted_from
near_turned true d h = omega arith
near_turned false d h = h

-- the greatest of three
abbrev pub three : (ℕ → ℕ) → ℕ
three g = max (max (g 0) (g 1)) (g 2)

-- ---- lines that are rows

module _ (W H : ℕ) (flipped mirrored diagonal : Bool) where
  abbrev pub rows : Frame
  rows = rows_frame W H flipped mirrored diagonal

  rows_lies : (i x : ℕ) → i < H → x < W → Lies W H (place_in rows i x) (counted_from flipped H i) (counted_from mirrored W x)
  rows_lies i x h k =
      lies_at W H (place_in rows i x) (counted_from flipped H i) (counted_from mirrored W x) (rows_place W H flipped mirrored diagonal i x)
      (turned_below flipped H i h) (turned_below mirrored W x k)

  pub rows_bounded : GoodSize W H → Bounded rows
  rows_bounded s =
      record {
        some_lines = s.high;
        few_lines = s.low;
        some_across = s.wide;
        few_across = s.narrow;
        near_lines = s.narrow;
        near_pixels = omega arith;
        few_pixels = omega (arith, s.few);
      }

  pub rows_on_lem : (i x : ℕ) → i < H → x < W → place_in rows i x < W * H
  rows_on_lem i x h k = (rows_lies i x h k).on

  pub rows_whole : (p : ℕ) → p < W * H → (i : ℕ) × (x : ℕ) × (i < H) × (x < W) × (place_in rows i x ≡ p)
  rows_whole p h =
      let r< = row_below W H p h in
      let c< = column_below W H p h in (
        counted_from flipped H (p / W),
        counted_from mirrored W (p % W),
        turned_below flipped H (p / W) r<,
        turned_below mirrored W (p % W) c<,
        rows_place W H flipped mirrored diagonal (counted_from flipped H (p / W)) (counted_from mirrored W (p % W))
            ∙ rw (turned_twice flipped H (p / W) r<, turned_twice mirrored W (p % W) c<) (div-add-mod' p W),
      )

  -- the numbered step of a direction
  rows_step :
      (index number : ℕ) (f : ℕ → ℕ) (back : Bool) (i x : ℕ) → i < H → x < W →
      plate_spot f W H (place_in rows i x / W + rows_on index number back) (place_in rows i x % W + columns_on index number back)
      ≡ spot f rows (i + counted_from flipped 3 (rows_on index number back)) (x + counted_from mirrored 3 (columns_on index number back))
  rows_step index number f back i x h k =
      let l = rows_lies i x h k in
      let d = near_down index number back in
      let a = near_across index number back in
      rw (l.is_row, l.is_column, turned_step flipped H i (rows_on index number back) h d, turned_step mirrored W x (columns_on index number back) k a)
      (rows_spot W H flipped mirrored diagonal f (i + counted_from flipped 3 (rows_on index number back)) (x + counted_from mirrored 3 (columns_on index number back))
      (omega (arith, near_turned flipped (rows_on index number back) d)) (omega (arith, near_turned mirrored (columns_on index number back) a)))

  pub rows_near :
      (index : ℕ) → index < 4 → (f : ℕ → ℕ) (back : Bool) (i x : ℕ) → i < H → x < W →
      best f (around back W H (2 ^ index) (place_in rows i x))
      ≡ three (λ n. spot f rows (i + counted_from flipped 3 (rows_on index n back)) (x + counted_from mirrored 3 (columns_on index n back)))
  rows_near index known f back i x h k =
      best_around f W H index back (place_in rows i x) known (rows_lies i x h k).on
      ∙ rw (rows_step index 0 f back i x h k, rows_step index 1 f back i x h k, rows_step index 2 f back i x h k)

  pub rows_rank : (bit i x : ℕ) → i < H → x < W → rank W H bit (place_in rows i x) ≡ rank_at H bit (counted_from mirrored W x) (counted_from flipped H i)
  rows_rank bit i x h k =
      ranked_at W H bit (place_in rows i x) (counted_from flipped H i) (counted_from mirrored W x) (rows_lies i x h k)

-- ---- lines that are columns

module _ (W H : ℕ) (flipped mirrored diagonal : Bool) where
  abbrev pub columns : Frame
  columns = columns_frame W H flipped mirrored diagonal

  columns_lies : (i x : ℕ) → i < W → x < H → Lies W H (place_in columns i x) (counted_from mirrored H x) (counted_from flipped W i)
  columns_lies i x h k =
      lies_at W H (place_in columns i x) (counted_from mirrored H x) (counted_from flipped W i) (columns_place W H flipped mirrored diagonal i x)
      (turned_below mirrored H x k) (turned_below flipped W i h)

  pub columns_bounded : GoodSize W H → Bounded columns
  columns_bounded s =
      record {
        some_lines = s.wide;
        few_lines = s.narrow;
        some_across = s.high;
        few_across = s.low;
        near_lines = omega arith;
        near_pixels = s.narrow;
        few_pixels = s.few;
      }

  pub columns_on_lem : (i x : ℕ) → i < W → x < H → place_in columns i x < W * H
  columns_on_lem i x h k = (columns_lies i x h k).on

  pub columns_whole : (p : ℕ) → p < W * H → (i : ℕ) × (x : ℕ) × (i < W) × (x < H) × (place_in columns i x ≡ p)
  columns_whole p h =
      let r< = row_below W H p h in
      let c< = column_below W H p h in (
        counted_from flipped W (p % W),
        counted_from mirrored H (p / W),
        turned_below flipped W (p % W) c<,
        turned_below mirrored H (p / W) r<,
        columns_place W H flipped mirrored diagonal (counted_from flipped W (p % W)) (counted_from mirrored H (p / W))
            ∙ rw (turned_twice flipped W (p % W) c<, turned_twice mirrored H (p / W) r<) (div-add-mod' p W),
      )

  columns_step :
      (index number : ℕ) (f : ℕ → ℕ) (back : Bool) (i x : ℕ) → i < W → x < H →
      plate_spot f W H (place_in columns i x / W + rows_on index number back) (place_in columns i x % W + columns_on index number back)
      ≡ spot f columns (i + counted_from flipped 3 (columns_on index number back)) (x + counted_from mirrored 3 (rows_on index number back))
  columns_step index number f back i x h k =
      let l = columns_lies i x h k in
      let d = near_down index number back in
      let a = near_across index number back in
      rw (l.is_row, l.is_column, turned_step mirrored H x (rows_on index number back) k d, turned_step flipped W i (columns_on index number back) h a)
      (columns_spot W H flipped mirrored diagonal f (i + counted_from flipped 3 (columns_on index number back)) (x + counted_from mirrored 3 (rows_on index number back))
      (omega (arith, near_turned flipped (columns_on index number back) a)) (omega (arith, near_turned mirrored (rows_on index number back) d)))

  pub columns_near :
      (index : ℕ) → index < 4 → (f : ℕ → ℕ) (back : Bool) (i x : ℕ) → i < W → x < H →
      best f (around back W H (2 ^ index) (place_in columns i x))
      ≡ three (λ n. spot f columns (i + counted_from flipped 3 (columns_on index n back)) (x + counted_from mirrored 3 (rows_on index n back)))
  columns_near index known f back i x h k =
      best_around f W H index back (place_in columns i x) known (columns_lies i x h k).on
      ∙ rw (columns_step index 0 f back i x h k, columns_step index 1 f back i x h k, columns_step index 2 f back i x h k)

  pub columns_rank : (bit i x : ℕ) → i < W → x < H → rank W H bit (place_in columns i x) ≡ rank_at H bit (counted_from flipped W i) (counted_from mirrored H x)
  columns_rank bit i x h k =
      ranked_at W H bit (place_in columns i x) (counted_from mirrored H x) (counted_from flipped W i) (columns_lies i x h k)
