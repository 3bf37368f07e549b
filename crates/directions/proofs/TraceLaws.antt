-- Where a place of the plate stands in the frame, and the part of the frame on one side of it. The row and the column of a place are the two digits of
-- it, and a number turned twice is the number itself; the two sides of a spot are areas of the frame, by which the plans of a trace are chosen.
use Prim.Native.Nat.{ℕ, ◌+◌, ◌-◌, ◌*◌, ◌/◌, ◌%◌, ◌<◌, min}
use mathlib.Core.Path.{◌≡◌, refl, sym, subst}
use mathlib.Core.Bool.{Bool, true, false}
use native.Mathlib.Nat.{div-add-mod', mul-one}
use native.Mathlib.Omega.{arith}
use Rattle.plate.specs.Sizes.{GoodSize}
use Rattle.theory.proofs.Steps.{column_below, row_below}
use Rattle.frames.specs.Frames.{counted_from, place_in}
use Rattle.frames.specs.declared.frame.Frame.{Frame}
use Rattle.frames.proofs.SpotLaws.{turned_below, turned_twice}
use Rattle.directions.specs.Plans.{straight_plan, ranked_plan, by_rows, AreaOf, FrameOf}
use Rattle.directions.specs.Traces.{trace_area, trace_plan, trace_states, SpotOf}
use Rattle.directions.specs.Doors.{frame_of, spot_in, spot_of}
use Rattle.directions.specs.declared.plan.Area.{Area}
use Rattle.directions.specs.declared.frame.Spot.{Spot}
use Rattle.directions.proofs.TableLaws.{frame_known}

-- ---- the spot of a place

-- a spot by the numbers that are turned
spot_at : (r : Frame) (i x p : ℕ) → i < r.lines → x < r.across → i * r.leap + x * r.hop ≡ p → SpotOf r (spot_in r i x) p
unfolding place_in
spot_at r i x p h k e =
    record {
      on_line = turned_below r.flipped r.lines i h;
      on_pixel = turned_below r.mirrored r.across x k;
      is = rw (turned_twice r.flipped r.lines i h, turned_twice r.mirrored r.across x k) e;
    }

module _ (r : Frame) (W H index p : ℕ) (of : FrameOf r W H index) (on : p < W * H) where
  digits : p / W * W + p % W ≡ p
  digits = div-add-mod' p W

  module _ (along_rows : by_rows W H index ≡ true) where
    pub row_on : p / W < r.lines
    row_on = omega (arith, row_below W H p on, (of.along_rows along_rows).0)

    pub column_on : p % W < r.across
    column_on = omega (arith, column_below W H p on, (of.along_rows along_rows).1)

    pub spot_in_rows : SpotOf r (spot_in r (p / W) (p % W)) p
    spot_in_rows =
        let sizes = of.along_rows along_rows in spot_at r (p / W) (p % W) p row_on column_on (rw (sizes.2, sizes.3, mul-one (p % W)) digits)

  module _ (by_columns : by_rows W H index ≡ false) where
    pub line_on : p % W < r.lines
    line_on = omega (arith, column_below W H p on, (of.by_columns by_columns).0)

    pub pixel_on : p / W < r.across
    pixel_on = omega (arith, row_below W H p on, (of.by_columns by_columns).1)

    pub spot_in_columns : SpotOf r (spot_in r (p % W) (p / W)) p
    spot_in_columns =
        let sizes = of.by_columns by_columns in
        spot_at r (p % W) (p / W) p line_on pixel_on (rw (sizes.2, sizes.3, mul-one (p % W)) (omega (arith, digits)))

-- the spot by the numbers that the code has turned
module _ (W H index p line pixel : ℕ) (r : Frame) (is_frame : r ≡ frame_of W H index) where
  pub spot_by_rows : by_rows W H index ≡ true → line ≡ counted_from r.flipped r.lines (p / W) → pixel ≡ counted_from r.mirrored r.across (p % W) →
      record { line = line; pixel = pixel } ≡ spot_of W H index p
  unfolding spot_of
  spot_by_rows e is_line is-pixel = rw (e, is_line, is-pixel, is_frame) refl

  pub spot_by_columns : by_rows W H index ≡ false → line ≡ counted_from r.flipped r.lines (p % W) → pixel ≡ counted_from r.mirrored r.across (p / W) →
      record { line = line; pixel = pixel } ≡ spot_of W H index p
  unfolding spot_of
  spot_by_columns e is_line is-pixel = rw (e, is_line, is-pixel, is_frame) refl

pub spot_known : (W H index p : ℕ) → GoodSize W H → index < 4 → p < W * H → SpotOf (frame_of W H index) (spot_of W H index p) p
unfolding spot_of
spot_known W H index p size known on = go (by_rows W H index) refl
  where
    go : (b : Bool) → by_rows W H index ≡ b → SpotOf (frame_of W H index) (spot_of W H index p) p
    go true e = rw e (spot_in_rows (frame_of W H index) W H index p (frame_known W H size index known).1 on e)
    go false e = rw e (spot_in_columns (frame_of W H index) W H index p (frame_known W H size index known).1 on e)

-- ---- the sides of a spot

pub trace_area_lem : (r : Frame) (back : Bool) (s : Spot) → s.line < r.lines → s.pixel < r.across → AreaOf r (trace_area r back s)
trace_area_lem r true s h k = record { high = omega arith; low = omega arith; wide = omega arith; narrow = omega arith }
trace_area_lem r false s h k = record { high = omega arith; low = omega arith; wide = omega arith; narrow = omega arith }

module _ (r : Frame) (back : Bool) (s : Spot) (a : Area) (is : a ≡ trace_area r back s) where
  pub side_area : s.line < r.lines → s.pixel < r.across → AreaOf r a
  side_area h k = subst (AreaOf r) (sym is) (trace_area_lem r back s h k)

  module _ (L n : ℕ) where
    pub trace_ranked : r.diagonal ≡ true → n ≡ min L (a.right - a.left) → (along_rows : Bool) (planes : ℕ) →
        ranked_plan r along_rows back a n planes ≡ trace_plan r along_rows back L planes s
    unfolding trace_plan
    trace_ranked d e along_rows planes = rw (e, is, d)

    pub trace_straight : r.diagonal ≡ false → n ≡ min L (a.bottom - a.top) → (along_rows : Bool) (planes : ℕ) →
        straight_plan r back a n planes ≡ trace_plan r along_rows back L planes s
    unfolding trace_plan
    trace_straight d e along_rows planes = rw (e, is, d)

    pub states_ranked : r.diagonal ≡ true → n ≡ min L (a.bottom - a.top + (a.right - a.left) - 1) → n ≡ trace_states r back L s
    unfolding trace_states
    states_ranked d e = rw (e, is, d)

pub states_straight : (r : Frame) (back : Bool) (L : ℕ) (s : Spot) → r.diagonal ≡ false → 1 ≡ trace_states r back L s
unfolding trace_states
states_straight r back L s d = rw d
