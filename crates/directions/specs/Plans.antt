-- The plans of a direction's sweeps. These definitions serve contracts inside the engine only: no public contract cites them.
use Rattle.std.specs.Prelude.{ℕ, ◌+◌, ◌-◌, ◌*◌, ◌≤◌, ◌<◌, ◌≡◌, Bool, true, false, cond, not, ◌&&◌, leb, eqb}
use Rattle.frames.specs.declared.frame.Frame.{Frame}
use Rattle.plans.specs.declared.plan.Plan.{Plan}
use Rattle.plans.specs.declared.plan.Reach.{Reach}
use Rattle.directions.specs.declared.plan.Area.{Area}
use Rattle.directions.specs.declared.plan.Course.{Course}
use Rattle.frames.specs.Steps.{columns_on, rows_on}

-- ---- where the three steps find their numbers, in the table's order

abbrev pub reach_by : ℕ → ℕ → ℕ → ℕ → ℕ → ℕ → Reach
reach_by x0 y0 x1 y1 x2 y2 = record { x0 = x0; y0 = y0; x1 = x1; y1 = y1; x2 = x2; y2 = y2 }

-- a straight direction goes on from the row before of the same state, to either side or to none
abbrev pub straight_reach : Bool → Reach
straight_reach back = reach_by (cond back 2 0) 0 1 0 (cond back 0 2) 0

-- A diagonal one has a step along the line, one to the next line and one that does both, which the table has between the others. Where lines are rows
-- the step along the line comes first. On single lines (`ranked` false) the row before is of one step fewer; on ranks the state before is.
abbrev pub diagonal_reach : Bool → Bool → Bool → Reach
diagonal_reach rows ranked back =
    cond rows
    (reach_by (cond back 2 0) (cond ranked 2 0) (cond back 2 0) 1 1 (cond ranked 2 1))
    (reach_by 1 (cond ranked 2 1) (cond back 2 0) 1 (cond back 2 0) (cond ranked 2 0))

abbrev pub reach_in : Frame → Bool → Bool → Bool → Reach
reach_in r rows ranked back = cond r.diagonal (diagonal_reach rows ranked back) (straight_reach back)

-- the same as it is read off the table: by how many pixels of a line the numbered step goes, plus one; whether it goes to another line; and in which
-- row it finds its number
unfoldable pub pixels_on : Frame → Course → ℕ → ℕ
pixels_on r c number =
    let turned = cond c.back (not r.mirrored) r.mirrored in cond c.rows (columns_on c.index number turned) (rows_on c.index number turned)

unfoldable pub lines_on : Course → ℕ → Bool
lines_on c number = not (eqb (cond c.rows (rows_on c.index number false) (columns_on c.index number false)) 1)

unfoldable pub row_by : Frame → Course → Bool → ℕ → ℕ
row_by r c ranked number =
    cond r.diagonal (cond ranked (cond (lines_on c number && not (eqb (pixels_on r c number) 1)) 1 2) (cond (lines_on c number) 1 0)) 0

-- whether the lines of a direction are rows: by its middle step, and on the diagonals by the plate's sides
unfoldable pub by_rows : ℕ → ℕ → ℕ → Bool
by_rows W H index = cond (eqb (columns_on index 1 false) 1) true (cond (eqb (rows_on index 1 false) 1) false (leb W H))

-- what the frame of a direction is beside its places: which of both kinds, how it is turned, and that a diagonal has no longer lines than it has lines
pub record FrameOf (r : Frame) (W H index : ℕ) : Type 0 where
  pub is_diagonal : r.diagonal ≡ leb 2 index
  pub is_mirrored : r.mirrored ≡ cond (by_rows W H index) (leb 2 index) (eqb index 3)
  pub north : index ≡ 0 → by_rows W H index ≡ true
  pub east : index ≡ 1 → by_rows W H index ≡ false
  pub slim : r.diagonal ≡ true → r.across ≤ r.lines
  -- its lines are rows, or columns, of the plate
  pub along_rows : by_rows W H index ≡ true → (r.lines ≡ H) × (r.across ≡ W) × (r.leap ≡ W) × (r.hop ≡ 1)
  pub by_columns : by_rows W H index ≡ false → (r.lines ≡ W) × (r.across ≡ H) × (r.leap ≡ 1) × (r.hop ≡ W)

-- the frame is the one of this direction, its lines rows or columns
pub record Oriented (r : Frame) (c : Course) : Type 0 where
  pub known : c.index < 4
  pub is_diagonal : r.diagonal ≡ leb 2 c.index
  pub is_mirrored : r.mirrored ≡ cond c.rows (leb 2 c.index) (eqb c.index 3)
  pub north : c.index ≡ 0 → c.rows ≡ true
  pub east : c.index ≡ 1 → c.rows ≡ false

-- ---- the plans

-- rows of the lines, or ranks, of an area: what the three plans below have in common
abbrev pub area_plan : Frame → Course → Area → Bool → ℕ → ℕ → Plan
area_plan r c a ranked rows planes =
    record {
      planes = planes;
      lines = r.lines;
      across = r.across;
      rows = rows;
      orders = a.bottom - a.top;
      origin = cond c.back (a.bottom - 1) a.top;
      back = c.back;
      still = false;
      ranked = ranked;
      top = a.top;
      bottom = a.bottom;
      left = a.left;
      right = a.right;
      linked = r.diagonal;
      lone = a.lone;
      pixel = a.pixel;
      slack = a.slack;
      reach = reach_in r c.rows ranked c.back;
    }

-- windows of lines: state e is the lines from e on, row m those after m steps
abbrev pub straight_plan : Frame → Bool → Area → ℕ → ℕ → Plan
straight_plan r back a rows planes =
    record {
      planes = planes;
      lines = r.lines;
      across = r.across;
      rows = rows;
      orders = a.bottom - a.top;
      origin = cond back (a.bottom - 1) a.top;
      back = back;
      still = false;
      ranked = false;
      top = a.top;
      bottom = a.bottom;
      left = 0;
      right = r.across;
      linked = false;
      lone = a.lone;
      pixel = a.pixel;
      slack = a.slack;
      reach = straight_reach back;
    }

-- single lines: state e is line e, row m its walks of m steps
abbrev pub still_plan : Frame → Bool → Bool → ℕ → ℕ → ℕ → Plan
still_plan r along_rows back rows planes slack =
    record {
      planes = planes;
      lines = r.lines;
      across = r.across;
      rows = rows;
      orders = r.lines;
      origin = cond back (r.lines - 1) 0;
      back = back;
      still = true;
      ranked = false;
      top = 0;
      bottom = r.lines;
      left = 0;
      right = r.across;
      linked = true;
      lone = false;
      pixel = 0;
      slack = slack;
      reach = diagonal_reach along_rows false back;
    }

-- ranks: state e is the walks of e steps, row m those at rank e + m
abbrev pub ranked_plan : Frame → Bool → Bool → Area → ℕ → ℕ → Plan
ranked_plan r along_rows back a rows planes =
    record {
      planes = planes;
      lines = r.lines;
      across = r.across;
      rows = rows;
      orders = a.bottom - a.top + (a.right - a.left) - 1;
      origin = cond back (a.bottom + a.right - 2) (a.top + a.left);
      back = back;
      still = false;
      ranked = true;
      top = a.top;
      bottom = a.bottom;
      left = a.left;
      right = a.right;
      linked = true;
      lone = a.lone;
      pixel = a.pixel;
      slack = a.slack;
      reach = diagonal_reach along_rows true back;
    }

-- the whole frame, where a walk may start at every pixel, with a gap up to this key
abbrev pub whole_area : Frame → ℕ → Area
whole_area r slack = record { top = 0; bottom = r.lines; left = 0; right = r.across; lone = false; pixel = 0; slack = slack }

-- an area of the frame
pub record AreaOf (r : Frame) (a : Area) : Type 0 where
  pub high : a.top < a.bottom
  pub low : a.bottom ≤ r.lines
  pub wide : a.left < a.right
  pub narrow : a.right ≤ r.across

-- ---- the states of the filter's sweeps

-- how much longer than the path the direction's longest paths are
abbrev pub spare_of : Frame → ℕ → ℕ
spare_of r L = r.lines + cond r.diagonal (r.across - 1) 0 - L

-- whether a diagonal is swept by ranks: they find room and are not many more than the path has pixels
unfoldable pub by_ranks : Frame → ℕ → Bool
by_ranks r L = leb (spare_of r L + 1) r.lines && leb (4 * (spare_of r L + 1)) (5 * L)

unfoldable pub filter_plan : Frame → Bool → Bool → ℕ → ℕ → ℕ → Plan
filter_plan r along_rows back L planes slack =
    cond r.diagonal
    (cond (by_ranks r L) (ranked_plan r along_rows back (whole_area r slack) (spare_of r L + 1) planes) (still_plan r along_rows back L planes slack))
    (straight_plan r back (whole_area r slack) L planes)

unfoldable pub filter_states : Frame → ℕ → ℕ
filter_states r L = cond r.diagonal (cond (by_ranks r L) L r.lines) (spare_of r L + 1)
