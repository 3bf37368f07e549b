-- What the step table says of the four directions: the frame that the middle step gives, and where the three steps find their numbers. The table has
-- four directions, and for each of them everything computes.
use Prim.Native.Nat.{ℕ, ◌≤◌, ◌<◌}
use mathlib.Core.Path.{◌≡◌, refl, sym, subst, ◌∙◌}
use mathlib.Core.Bool.{Bool, true, false, beq, cond, not, ◌&&◌, true≢false}
use native.Mathlib.Omega.{arith}
use lib.Dec.{leb, eqb}
use borrow.Author.Tests.{leb-true, leb-false, eq-eqb, ne_eqb}
use Rattle.basics.proofs.Numbers.{below_four}
use Rattle.plate.specs.Directions.{table, step_at}
use Rattle.plate.specs.Sizes.{GoodSize}
use Rattle.frames.specs.Steps.{plus_one, biased, columns_on, rows_on}
use Rattle.frames.specs.Frames.{Framed}
use Rattle.frames.specs.declared.frame.Frame.{Frame}
use Rattle.frames.proofs.PlateLines.{rows, columns}
use Rattle.frames.proofs.FrameLaws.{framed_rows, framed_columns}
use Rattle.plans.specs.declared.plan.Reach.{Reach}
use Rattle.directions.specs.Plans.{reach_by, reach_in, pixels_on, lines_on, row_by, by_rows, FrameOf, Oriented}
use Rattle.directions.specs.Doors.{frame_of}
use Rattle.directions.specs.declared.plan.Course.{Course}

-- what differs from whether it is backwards is turned once more where it is
pub turned_once : (turned back : Bool) → not (beq turned back) ≡ cond back (not turned) turned
turned_once true true = refl
turned_once true false = refl
turned_once false true = refl
turned_once false false = refl

-- ---- the frame

-- the middle step of a diagonal changes column and row
middle_diagonal : (index : ℕ) → index < 4 → (not (eqb (columns_on index 1 false) 1) && not (eqb (rows_on index 1 false) 1)) ≡ leb 2 index
unfolding columns_on rows_on biased plus_one step_at table
middle_diagonal =
    below_four (λ (n : ℕ). (not (eqb (columns_on n 1 false) 1) && not (eqb (rows_on n 1 false) 1)) ≡ leb 2 n) refl refl refl refl

module _ (W H : ℕ) (sized : GoodSize W H) where
  -- the frame whose lines are rows, and the one whose lines are columns, as the middle step gives them
  abbrev rows_by : ℕ → Frame
  rows_by n = rows W H (eqb (rows_on n 1 false) 2) (eqb (columns_on n 1 false) 2) (leb 2 n)

  abbrev columns_by : ℕ → Frame
  columns_by n = columns W H (eqb (columns_on n 1 false) 2) (eqb (rows_on n 1 false) 2) (leb 2 n)

  abbrev RowsFrame : ℕ → Type 0
  RowsFrame n = by_rows W H n ≡ true → Framed (rows_by n) W H n × FrameOf (rows_by n) W H n

  abbrev ColumnsFrame : ℕ → Type 0
  ColumnsFrame n = by_rows W H n ≡ false → Framed (columns_by n) W H n × FrameOf (columns_by n) W H n

  -- a diagonal is neither north nor east
  diagonal_frame : (r : Frame) (n : ℕ) → 2 ≤ n → r.diagonal ≡ leb 2 n → r.mirrored ≡ cond (by_rows W H n) (leb 2 n) (eqb n 3) → r.across ≤ r.lines →
      (by_rows W H n ≡ true → (r.lines ≡ H) × (r.across ≡ W) × (r.leap ≡ W) × (r.hop ≡ 1)) →
      (by_rows W H n ≡ false → (r.lines ≡ W) × (r.across ≡ H) × (r.leap ≡ 1) × (r.hop ≡ W)) → FrameOf r W H n
  diagonal_frame r n h d m k in_rows in-columns =
      record {
        is_diagonal = d;
        is_mirrored = m;
        north = λ z. absurd (omega arith);
        east = λ z. absurd (omega arith);
        slim = λ z. k;
        along_rows = in_rows;
        by_columns = in-columns;
      }

  rows_frame_lem : (index : ℕ) → index < 4 → RowsFrame index
  unfolding columns_on rows_on biased plus_one step_at table by_rows
  rows_frame_lem =
      below_four RowsFrame
      (λ e. (
        framed_rows W H sized 0 (omega arith) (λ z. absurd (omega arith)),
        record {
          is_diagonal = refl;
          is_mirrored = refl;
          north = λ z. refl;
          east = λ z. absurd (omega arith);
          slim = λ z. absurd (true≢false (sym z));
          along_rows = λ z. (refl, refl, refl, refl);
          by_columns = λ z. absurd (true≢false z);
        },
      ))
      (λ e. absurd (true≢false (sym e)))
      (λ e. (
        framed_rows W H sized 2 (omega arith) (λ z. absurd (omega arith)),
        diagonal_frame (rows_by 2) 2 (omega arith) refl (rw e) (leb-true W H e) (λ z. (refl, refl, refl, refl)) (λ z. absurd (true≢false (sym e ∙ z))),
      ))
      (λ e. (
        framed_rows W H sized 3 (omega arith) (λ z. absurd (omega arith)),
        diagonal_frame (rows_by 3) 3 (omega arith) refl (rw e) (leb-true W H e) (λ z. (refl, refl, refl, refl)) (λ z. absurd (true≢false (sym e ∙ z))),
      ))

  columns_frame_lem : (index : ℕ) → index < 4 → ColumnsFrame index
  unfolding columns_on rows_on biased plus_one step_at table by_rows
  columns_frame_lem =
      below_four ColumnsFrame
      (λ e. absurd (true≢false e))
      (λ e. (
        framed_columns W H sized 1 (omega arith) (λ z. absurd (omega arith)),
        record {
          is_diagonal = refl;
          is_mirrored = refl;
          north = λ z. absurd (omega arith);
          east = λ z. refl;
          slim = λ z. absurd (true≢false (sym z));
          along_rows = λ z. absurd (true≢false (sym z));
          by_columns = λ z. (refl, refl, refl, refl);
        },
      ))
      (λ e. (
        framed_columns W H sized 2 (omega arith) (λ z. absurd (omega arith)),
        diagonal_frame (columns_by 2) 2 (omega arith) refl (rw e) (omega (arith, leb-false W H e)) (λ z. absurd (true≢false (sym z ∙ e)))
            (λ z. (refl, refl, refl, refl)),
      ))
      (λ e. (
        framed_columns W H sized 3 (omega arith) (λ z. absurd (omega arith)),
        diagonal_frame (columns_by 3) 3 (omega arith) refl (rw e) (omega (arith, leb-false W H e)) (λ z. absurd (true≢false (sym z ∙ e)))
            (λ z. (refl, refl, refl, refl)),
      ))

  pub frame_known : (index : ℕ) → index < 4 → Framed (frame_of W H index) W H index × FrameOf (frame_of W H index) W H index
  unfolding frame_of
  frame_known index known = go (by_rows W H index) refl
    where
      go : (b : Bool) → by_rows W H index ≡ b → Framed (frame_of W H index) W H index × FrameOf (frame_of W H index) W H index
      go true e = rw (e, middle_diagonal index known) (rows_frame_lem index known e)
      go false e = rw (e, middle_diagonal index known) (columns_frame_lem index known e)

  -- the same of a frame that is it
  pub frame_told : (r : Frame) (index : ℕ) → index < 4 → r ≡ frame_of W H index → Framed r W H index × FrameOf r W H index
  frame_told r index known e = rw e (frame_known index known)

-- the frame by the numbers that the code has read
module _ (W H index column row : ℕ) (diagonal : Bool) (is_column : column ≡ columns_on index 1 false) (is_row : row ≡ rows_on index 1 false)
    (is_diagonal : diagonal ≡ (not (eqb column 1) && not (eqb row 1))) where
  pub frame_by_rows : by_rows W H index ≡ true → rows W H (eqb row 2) (eqb column 2) diagonal ≡ frame_of W H index
  unfolding frame_of
  frame_by_rows e = rw (e, is_diagonal, is_column, is_row) refl

  pub frame_by_columns : by_rows W H index ≡ false → columns W H (eqb column 2) (eqb row 2) diagonal ≡ frame_of W H index
  unfolding frame_of
  frame_by_columns e = rw (e, is_diagonal, is_column, is_row) refl

-- a step that changes both, as the code tests it
pub changes_both : (diagonal : Bool) (column row : ℕ) → (column ≡ 1 → ⊥) → diagonal ≡ not (eqb row 1) →
    diagonal ≡ (not (eqb column 1) && not (eqb row 1))
changes_both diagonal column row n e = rw (ne_eqb column 1 n) e

pub changes_one : (diagonal : Bool) (column row : ℕ) → column ≡ 1 → diagonal ≡ not (eqb column 1) →
    diagonal ≡ (not (eqb column 1) && not (eqb row 1))
changes_one diagonal column row n e = e ∙ rw (eq-eqb column 1 n)

-- ---- where the steps find their numbers

-- the reach as it is read off the table
abbrev pub reach_on : Frame → Course → Bool → Reach
reach_on r c ranked =
    reach_by (pixels_on r c 0) (row_by r c ranked 0) (pixels_on r c 1) (row_by r c ranked 1) (pixels_on r c 2) (row_by r c ranked 2)

abbrev in_course : ℕ → Bool → Bool → Course
in_course n along_rows back = record { index = n; rows = along_rows; back = back }

abbrev in_frame : Frame → ℕ → Bool → Frame
in_frame r n along_rows =
    record {
      lines = r.lines;
      across = r.across;
      leap = r.leap;
      hop = r.hop;
      flipped = r.flipped;
      mirrored = cond along_rows (leb 2 n) (eqb n 3);
      diagonal = leb 2 n;
    }

module _ (r : Frame) where
  abbrev Read : ℕ → Bool → Type 0
  Read n along_rows =
      (back ranked : Bool) → reach_on (in_frame r n along_rows) (in_course n along_rows back) ranked ≡ reach_in (in_frame r n along_rows) along_rows ranked back

  north_read : Read 0 true
  unfolding pixels_on lines_on row_by columns_on rows_on biased plus_one step_at table
  north_read true true = refl
  north_read true false = refl
  north_read false true = refl
  north_read false false = refl

  east_read : Read 1 false
  unfolding pixels_on lines_on row_by columns_on rows_on biased plus_one step_at table
  east_read true true = refl
  east_read true false = refl
  east_read false true = refl
  east_read false false = refl

  north_east_read : (along_rows : Bool) → Read 2 along_rows
  unfolding pixels_on lines_on row_by columns_on rows_on biased plus_one step_at table
  north_east_read true true true = refl
  north_east_read true true false = refl
  north_east_read true false true = refl
  north_east_read true false false = refl
  north_east_read false true true = refl
  north_east_read false true false = refl
  north_east_read false false true = refl
  north_east_read false false false = refl

  south_east_read : (along_rows : Bool) → Read 3 along_rows
  unfolding pixels_on lines_on row_by columns_on rows_on biased plus_one step_at table
  south_east_read true true true = refl
  south_east_read true true false = refl
  south_east_read true false true = refl
  south_east_read true false false = refl
  south_east_read false true true = refl
  south_east_read false true false = refl
  south_east_read false false true = refl
  south_east_read false false false = refl

  any_read : (index : ℕ) → index < 4 → (along_rows : Bool) → (index ≡ 0 → along_rows ≡ true) → (index ≡ 1 → along_rows ≡ false) → Read index along_rows
  any_read =
      below_four (λ (n : ℕ). (along_rows : Bool) → (n ≡ 0 → along_rows ≡ true) → (n ≡ 1 → along_rows ≡ false) → Read n along_rows)
      (λ along_rows h k. rw (h refl) north_read)
      (λ along_rows h k. rw (k refl) east_read)
      (λ along_rows h k. north_east_read along_rows)
      (λ along_rows h k. south_east_read along_rows)

  -- an oriented frame is one of these
  same_frame : (c : Course) → Oriented r c → in_frame r c.index c.rows ≡ r
  same_frame c o = λ j. record {
    lines = r.lines;
    across = r.across;
    leap = r.leap;
    hop = r.hop;
    flipped = r.flipped;
    mirrored = sym o.is_mirrored j;
    diagonal = sym o.is_diagonal j;
  }

  pub reach_read : (c : Course) (ranked : Bool) → Oriented r c → reach_on r c ranked ≡ reach_in r c.rows ranked c.back
  reach_read c ranked o =
      subst (λ (s : Frame). reach_on s c ranked ≡ reach_in s c.rows ranked c.back) (same_frame c o)
      (any_read c.index o.known c.rows o.north o.east c.back ranked)
