-- The plan of the filter and the number of its states, case by case: straight, by ranks, and by single lines.
use Prim.Native.Nat.{ℕ, ◌+◌, ◌≤◌}
use mathlib.Core.Path.{◌≡◌, refl}
use mathlib.Core.Bool.{Bool, true, false, cond}
use native.Mathlib.Omega.{arith}
use Rattle.frames.specs.declared.frame.Frame.{Frame}
use Rattle.plans.specs.declared.plan.Plan.{Plan}
use Rattle.directions.specs.Plans.{straight_plan, ranked_plan, still_plan, whole_area, AreaOf, spare_of, by_ranks, filter_plan, filter_states}

-- the whole frame is an area of it
pub whole_area_lem : (r : Frame) (slack : ℕ) → 1 ≤ r.lines → 1 ≤ r.across → AreaOf r (whole_area r slack)
whole_area_lem r slack h k = record { high = omega arith; low = omega arith; wide = omega arith; narrow = omega arith }

module _ (r : Frame) (L : ℕ) where
  module _ (along_rows back : Bool) (planes slack : ℕ) where
    pub plan_straight : r.diagonal ≡ false → straight_plan r back (whole_area r slack) L planes ≡ filter_plan r along_rows back L planes slack
    unfolding filter_plan
    plan_straight d = rw d

    module _ (d : r.diagonal ≡ true) where
      pub plan_ranked : (spare : ℕ) → spare ≡ spare_of r L → by_ranks r L ≡ true →
          ranked_plan r along_rows back (whole_area r slack) (spare + 1) planes ≡ filter_plan r along_rows back L planes slack
      unfolding filter_plan
      plan_ranked spare e b = rw (b, e, d)

      pub plan_still : by_ranks r L ≡ false → still_plan r along_rows back L planes slack ≡ filter_plan r along_rows back L planes slack
      unfolding filter_plan
      plan_still b = rw (b, d)

-- ---- all three at once

-- what is told of all three kinds is told of the one that two tests choose
choice : (P : (Bool → Plan) → ℕ → Type 0) (d k : Bool) (a b c : Bool → Plan) (x y z : ℕ) →
    (d ≡ true → k ≡ true → P a x) → (d ≡ true → k ≡ false → P b y) → (d ≡ false → P c z) →
    P (λ (back : Bool). cond d (cond k (a back) (b back)) (c back)) (cond d (cond k x y) z)
choice P true true a b c x y z ranked still straight = ranked refl refl
choice P true false a b c x y z ranked still straight = still refl refl
choice P false k a b c x y z ranked still straight = straight refl

-- what holds of the three kinds of plans, on either side, holds of the filter's
module _ (r : Frame) (L : ℕ) where
  module _ (along_rows : Bool) (planes slack : ℕ) where
    pub filter_choice : (P : (Bool → Plan) → ℕ → Type 0) →
        (r.diagonal ≡ true → by_ranks r L ≡ true → P (λ (back : Bool). ranked_plan r along_rows back (whole_area r slack) (spare_of r L + 1) planes) L) →
        (r.diagonal ≡ true → by_ranks r L ≡ false → P (λ (back : Bool). still_plan r along_rows back L planes slack) r.lines) →
        (r.diagonal ≡ false → P (λ (back : Bool). straight_plan r back (whole_area r slack) L planes) (spare_of r L + 1)) →
        P (λ (back : Bool). filter_plan r along_rows back L planes slack) (filter_states r L)
    unfolding filter_plan filter_states
    filter_choice P ranked still straight = choice P r.diagonal (by_ranks r L) _ _ _ _ _ _ ranked still straight
