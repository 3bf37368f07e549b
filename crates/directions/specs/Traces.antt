-- The plans by which a trace looks for the best walks from one picked pixel: the part of the frame on one side of it, with walks that start there alone.
-- These definitions serve contracts inside the engine only: no public contract cites them.
use Rattle.std.specs.Prelude.{ℕ, ◌+◌, ◌-◌, ◌<◌, min, ◌≡◌, Bool, true, cond}
use Rattle.frames.specs.Frames.{place_in}
use Rattle.frames.specs.declared.frame.Frame.{Frame}
use Rattle.plans.specs.declared.plan.Plan.{Plan}
use Rattle.directions.specs.Plans.{straight_plan, ranked_plan}
use Rattle.directions.specs.declared.plan.Area.{Area}
use Rattle.directions.specs.declared.frame.Spot.{Spot}

-- the lines and pixels from the picked pixel on, or up to it. The picked pixel, where walks start, may be a gap whatever `ends` is: a path's ends are
-- where these walks end.
abbrev pub trace_area : Frame → Bool → Spot → Area
trace_area r back s =
    cond back
    (record { top = 0; bottom = s.line + 1; left = 0; right = s.pixel + 1; lone = true; pixel = s.pixel; slack = 65535 })
    (record { top = s.line; bottom = r.lines; left = s.pixel; right = r.across; lone = true; pixel = s.pixel; slack = 65535 })

-- on a straight direction one state, whose rows are the lines from the picked pixel's on; on a diagonal one a state for each number of steps, whose
-- rows are ranks
unfoldable pub trace_plan : Frame → Bool → Bool → ℕ → ℕ → Spot → Plan
trace_plan r along_rows back L planes s =
    let a = trace_area r back s in
    cond r.diagonal (ranked_plan r along_rows back a (min L (a.right - a.left)) planes) (straight_plan r back a (min L (a.bottom - a.top)) planes)

unfoldable pub trace_states : Frame → Bool → ℕ → Spot → ℕ
trace_states r back L s =
    let a = trace_area r back s in cond r.diagonal (min L (a.bottom - a.top + (a.right - a.left) - 1)) 1

-- the spot is the one of a place
pub record SpotOf (r : Frame) (s : Spot) (p : ℕ) : Type 0 where
  pub on_line : s.line < r.lines
  pub on_pixel : s.pixel < r.across
  pub is : place_in r s.line s.pixel ≡ p
