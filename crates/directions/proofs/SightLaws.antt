-- The side of a direction that is seen from a pixel: what `sight_of` is, test by test, and that it is the plan of a trace.
use Prim.Native.Nat.{ℕ, ◌+◌, ◌*◌, ◌≤◌, ◌<◌}
use mathlib.Core.Path.{◌≡◌, refl, ap}
use mathlib.Core.Bool.{Bool, true, false, not}
use borrow.Author.Tests.{lt-ltb, le-ltb}
use Rattle.std.specs.Prelude.{Option, Some, None, IsSome, unwrap_or}
use Rattle.plate.specs.Sizes.{GoodSize}
use Rattle.plate.specs.declared.setting.Setting.{Setting}
use Rattle.frames.specs.declared.frame.Frame.{Frame}
use Rattle.theory.specs.Walks.{opposite}
use Rattle.plans.specs.declared.plan.Plan.{Plan}
use Rattle.directions.specs.Plans.{by_rows}
use Rattle.directions.specs.Traces.{trace_plan, trace_states, SpotOf}
use Rattle.directions.specs.Doors.{frame_of, spot_of, fits, sight_of}
use Rattle.directions.specs.declared.frame.Spot.{Spot}
use Rattle.directions.specs.declared.sight.Sight.{Sight}
use Rattle.directions.proofs.TraceLaws.{spot_known}

pub not_opposite : (b : Bool) → not b ≡ opposite b
not_opposite true = refl
not_opposite false = refl

-- the spot of a place, by the code's own frame
pub spot_told : (W H index p : ℕ) (r : Frame) (s : Spot) → r ≡ frame_of W H index → GoodSize W H → index < 4 → p < W * H → s ≡ spot_of W H index p →
    SpotOf r s p
spot_told W H index p r s e size known on is = rw (e, is) (spot_known W H index p size known on)

module _ (W H : ℕ) (s : Setting) (index : ℕ) (backwards : Bool) (at : ℕ) where
  pub sight_unfit : fits W H s index ≡ false → None ≡ sight_of W H s index backwards at
  unfolding sight_of
  sight_unfit a = rw a refl

  module _ (fit : fits W H s index ≡ true) where
    pub sight_off : W * H ≤ at → None ≡ sight_of W H s index backwards at
    unfolding sight_of
    sight_off h = rw (fit, le-ltb at (W * H) h) refl

    module _ (on : at < W * H) where
      pub sight_some : (r : Frame) (p : Plan) (n : ℕ) (spot : Spot) (rows back : Bool) → r ≡ frame_of W H index → rows ≡ by_rows W H index →
          spot ≡ spot_of W H index at → back ≡ opposite backwards → p ≡ trace_plan r rows back s.length (s.gaps + 1) spot →
          n ≡ trace_states r back s.length spot → Some (record { frame = r; plan = p; states = n }) ≡ sight_of W H s index backwards at
      unfolding sight_of
      sight_some r p n spot rows back is_frame is-rows is_spot is-back is_plan is_states =
          rw (fit, lt-ltb at (W * H) on, is_plan, is_states, is_spot, is-rows, is-back, is_frame) refl

      -- there is a sight
      pub sight_there : IsSome (sight_of W H s index backwards at)
      unfolding sight_of
      sight_there = rw (fit, lt-ltb at (W * H) on) refl

      pub sight_told : (v : Sight) → Some v ≡ sight_of W H s index backwards at →
          (v.frame ≡ frame_of W H index)
          × (v.plan ≡ trace_plan (frame_of W H index) (by_rows W H index) (opposite backwards) s.length (s.gaps + 1) (spot_of W H index at))
          × (v.states ≡ trace_states (frame_of W H index) (opposite backwards) s.length (spot_of W H index at))
      unfolding sight_of
      sight_told v e =
          let whole : ◌≡◌ {A = Option Sight} (Some v)
          (Some
          (record {
            frame = frame_of W H index;
            plan = trace_plan (frame_of W H index) (by_rows W H index) (opposite backwards) s.length (s.gaps + 1) (spot_of W H index at);
            states = trace_states (frame_of W H index) (opposite backwards) s.length (spot_of W H index at);
          })) = rw (fit, lt-ltb at (W * H) on) at e in
          let same = ap (λ (o : Option Sight). unwrap_or o v) whole in
          (ap (λ (u : Sight). u.frame) same, ap (λ (u : Sight). u.plan) same, ap (λ (u : Sight). u.states) same)
