-- One side of a direction, as it is seen from the picked pixel. These definitions serve contracts inside the engine only: no public contract cites
-- them.
use Rattle.std.specs.Prelude.{ℕ, ◌+◌, ◌≡◌, Bool, List, eqb, ℤ}
use Rattle.frames.specs.Frames.{Framed}
use Rattle.directions.specs.Plans.{FrameOf, by_rows}
use Rattle.directions.specs.Traces.{SpotOf, trace_plan, trace_states}
use Rattle.directions.specs.Numbers.{number_at}
use Rattle.directions.specs.Doors.{frame_of}
use Rattle.directions.specs.declared.frame.Spot.{Spot}
use Rattle.tracing.specs.Scans.{bit_of, key_of}
use Rattle.tracing.specs.declared.scan.Scan.{Scan}
use Rattle.directions.specs.declared.sight.Sight.{Sight}
use Rattle.theory.specs.Walks.{around, opposite}

-- frame, plan and states of the walks from the pixel at x
pub record Seen (s : Scan) (backwards : Bool) (x : ℕ) (r : Sight) : Type 0 where
  pub is_frame : r.frame ≡ frame_of s.width s.height s.index
  pub framed : Framed r.frame s.width s.height s.index
  pub of : FrameOf r.frame s.width s.height s.index
  pub spot : Spot
  pub is_spot : SpotOf r.frame spot x
  pub is_plan : r.plan ≡ trace_plan r.frame (by_rows s.width s.height s.index) (opposite backwards) (s.steps + 1) (s.setting.gaps + 1) spot
  pub is_states : r.states ≡ trace_states r.frame (opposite backwards) (s.steps + 1) spot

-- the best walk from x to a pixel: of row m of state e with at most j gaps
abbrev pub seen_at : Scan → Bool → List ℤ → ℕ → Sight → ℕ → ℕ → ℕ → ℕ → ℕ
seen_at s backwards plate x r =
    number_at r.frame r.plan (around (opposite backwards) s.width s.height (bit_of s)) (key_of s plate) (λ p. eqb p x)
