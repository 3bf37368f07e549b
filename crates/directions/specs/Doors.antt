-- What the doors of this crate answer, whatever numbers they are asked with: each judges first, and these are its tests. These definitions serve
-- contracts inside the engine only: no public contract cites them.
use Rattle.std.specs.Prelude.{ℕ, ◌+◌, ◌*◌, ◌/◌, ◌%◌, Bool, false, cond, not, ◌&&◌, ◌||◌, List, leb, ltb, eqb, ℤ, Option, Some, None}
use Rattle.plate.specs.Limits.{max_length, max_gaps}
use Rattle.plate.specs.Sizes.{span_of}
use Rattle.plate.specs.declared.setting.Setting.{Setting}
use Rattle.frames.specs.Steps.{columns_on, rows_on}
use Rattle.frames.specs.Frames.{counted_from}
use Rattle.frames.specs.declared.frame.Frame.{Frame}
use Rattle.theory.specs.Walks.{opposite}
use Rattle.states.specs.Runs.{Between}
use Rattle.directions.specs.Plans.{by_rows}
use Rattle.directions.specs.Numbers.{place_kept, keys_by, SmallKept}
use Rattle.directions.specs.Traces.{trace_plan, trace_states}
use Rattle.directions.specs.declared.frame.Spot.{Spot}
use Rattle.directions.specs.declared.sight.Sight.{Sight}

-- the frame of the direction at this index, by its middle step in the table: its lines are rows or columns of the plate
unfoldable pub frame_of : ℕ → ℕ → ℕ → Frame
frame_of W H index =
    let column = columns_on index 1 false in
    let row = rows_on index 1 false in
    let diagonal = not (eqb column 1) && not (eqb row 1) in
    cond (by_rows W H index)
    (record { lines = H; across = W; leap = W; hop = 1; flipped = eqb row 2; mirrored = eqb column 2; diagonal = diagonal })
    (record { lines = W; across = H; leap = 1; hop = W; flipped = eqb column 2; mirrored = eqb row 2; diagonal = diagonal })

-- the pixel of a frame that has these numbers as the plate counts lines and pixels
abbrev pub spot_in : Frame → ℕ → ℕ → Spot
spot_in r i x = record { line = counted_from r.flipped r.lines i; pixel = counted_from r.mirrored r.across x }

-- where the pixel at a place stands in the frame
unfoldable pub spot_of : ℕ → ℕ → ℕ → ℕ → Spot
spot_of W H index p = cond (by_rows W H index) (spot_in (frame_of W H index) (p / W) (p % W)) (spot_in (frame_of W H index) (p % W) (p / W))

-- a plate of this size has paths of the setting's length in the direction at this index, and their length and gaps are within the limits
unfoldable pub fits : ℕ → ℕ → Setting → ℕ → Bool
fits W H s index = leb 1 s.length && leb s.length max_length && leb s.gaps max_gaps && leb s.length (span_of W H index)

-- the same, and the lengths of plate, result and work are those that are asked
unfoldable pub opens : ℕ → ℕ → Setting → ℕ → ℕ → ℕ → ℕ → Bool
opens W H s index plate result work =
    fits W H s index && eqb plate (W * H) && eqb result (W * H) && leb (4 * (s.gaps + 1) * (W * H)) work

-- there is such a direction on a plate of this size, and its keys can be kept by lines; or by ranks, where there are no fewer lines than a line has
-- pixels
unfoldable pub keeps : ℕ → ℕ → ℕ → Bool → Bool
keeps W H index ranked = leb 1 (span_of W H index) && (not ranked || leb (frame_of W H index).across (frame_of W H index).lines)

-- the same, and the lengths of plate and work are those that are asked
unfoldable pub lays : ℕ → ℕ → ℕ → Bool → ℕ → ℕ → Bool
lays W H index ranked plate work = keeps W H index ranked && eqb plate (W * H) && leb (W * H) work

-- every key of the plate stands in its place, and every level has 16 bits, as each was read
pub record Laid (W H index : ℕ) (ranked : Bool) (mode : ℕ) (plate : List ℤ) (old new : List ℕ) : Type 0 where
  pub keys : Between (λ (q : ℕ). keys_by mode plate (place_kept (frame_of W H index) ranked q)) old new 0 (W * H)
  pub small : SmallKept plate (frame_of W H index) ranked 0 (W * H)

-- the place whose key stands at q; 0 where there is none
unfoldable pub place_kept_by : ℕ → ℕ → ℕ → Bool → ℕ → ℕ
place_kept_by W H index ranked q = cond (keeps W H index ranked && ltb q (W * H)) (place_kept (frame_of W H index) ranked q) 0

-- the walks on from the pixel at a place, or back from it; none where the numbers do not fit. A number is made of those one step nearer to the pixel, so
-- the walks on are swept by the steps back.
unfoldable pub sight_of : ℕ → ℕ → Setting → ℕ → Bool → ℕ → Option Sight
sight_of W H s index backwards at =
    let r = frame_of W H index in
    let spot = spot_of W H index at in
    let back = opposite backwards in
    cond (fits W H s index && ltb at (W * H))
    (Some
    (record {
      frame = r;
      plan = trace_plan r (by_rows W H index) back s.length (s.gaps + 1) spot;
      states = trace_states r back s.length spot;
    }))
    None
