-- The plans of the filter's sweeps are well-formed, and one side of a direction is the other with its rows counted from the other end, so that both have
-- as many states.
use Prim.Native.Nat.{ℕ, ◌+◌, ◌-◌, ◌*◌, ◌≤◌, ◌<◌}
use mathlib.Core.Path.{◌≡◌, refl, sym}
use mathlib.Core.Bool.{Bool, true, false, cond, true≢false}
use mathlib.Core.Logic.{◌⊎◌, inl, inr}
use native.Mathlib.Omega.{arith}
use lib.Dec.{leb}
use borrow.Author.Tests.{leb-true, leb-false}
use Rattle.basics.proofs.Numbers.{le_or_lt}
use Rattle.basics.proofs.Tests.{true_or_false}
use Rattle.frames.specs.Frames.{Bounded, Framed}
use Rattle.frames.specs.declared.frame.Frame.{Frame}
use Rattle.plans.specs.Forms.{well_formed}
use Rattle.sweeps.specs.Doors.{states_of, other_end}
use Rattle.plans.specs.declared.plan.Plan.{Plan}
use Rattle.directions.specs.Plans.{filter_plan, filter_states, reach_in, by_ranks, spare_of, whole_area, FrameOf}
use Rattle.directions.proofs.ChoiceLaws.{whole_area_lem, filter_choice}
use Rattle.directions.proofs.PlanForms.{straight_formed, still_formed, ranked_formed}

-- ---- which plan it is

module _ (r : Frame) (L : ℕ) where
  pub spare_diagonal : r.diagonal ≡ true → spare_of r L ≡ r.lines + (r.across - 1) - L
  spare_diagonal d = rw d refl

  pub spare_straight : r.diagonal ≡ false → spare_of r L ≡ r.lines - L
  spare_straight d = rw d (omega arith)

  pub ranks_fit : by_ranks r L ≡ true → spare_of r L + 1 ≤ r.lines
  unfolding by_ranks
  ranks_fit k =
      elim (true_or_false (leb (spare_of r L + 1) r.lines)) [
        | inl e ↦ leb-true _ _ e
        | inr e ↦ absurd (true≢false (sym (rw e at k)))
      ]

  -- ranks are left where they find no room, or are many more than the path has pixels
  pub ranks_left : by_ranks r L ≡ false → (r.lines < spare_of r L + 1) ⊎ (5 * L < 4 * (spare_of r L + 1))
  unfolding by_ranks
  ranks_left k =
      elim (true_or_false (leb (spare_of r L + 1) r.lines)) [
        | inl e ↦ inr (leb-false _ _ (rw e at k))
        | inr e ↦ inl (leb-false _ _ e)
      ]

-- ---- the plans of the filter

module _ (r : Frame) {W H index : ℕ} (L : ℕ) (framed : Framed r W H index) (of : FrameOf r W H index) (some : 1 ≤ L) (few : L ≤ 1024)
    (fit : L ≤ r.lines + cond r.diagonal (r.across - 1) 0) where
  pub straight_few : r.diagonal ≡ false → L ≤ r.lines
  straight_few d = let h = rw d at fit in omega arith

  fit_diagonal : r.diagonal ≡ true → L + (spare_of r L + 1) ≡ r.lines + r.across
  fit_diagonal d =
      let h : L ≤ r.lines + (r.across - 1) = rw d at fit in
      let b = framed.bounded.some_across in
      omega (arith, spare_diagonal r L d)

  -- no plan has more rows than the frame has lines
  pub still_few : r.diagonal ≡ true → by_ranks r L ≡ false → L ≤ r.lines
  still_few d k =
      let s = fit_diagonal d in
      let slim = of.slim d in
      elim (ranks_left r L k) [
        | inl h ↦ omega arith
        | inr h ↦ elim (le_or_lt L r.lines) [ inl l ↦ l | inr l ↦ absurd (omega arith) ]
      ]

  pub filter_states_few : filter_states r L ≤ 1024
  filter_states_few =
      filter_choice r L true 1 0 (λ (p : Bool → Plan) (n : ℕ). n ≤ 1024)
      (λ d k. few)
      (λ d k. framed.bounded.few_lines)
      (λ d. omega (arith, spare_straight r L d, straight_few d, framed.bounded))

  module _ (along_rows : Bool) (planes slack : ℕ) where
    pub filter_formed : (back : Bool) → 1 ≤ planes → planes ≤ 9 → well_formed (filter_plan r along_rows back L planes slack) ≡ true
    filter_formed back some_planes few_planes =
        let b : Bounded r = framed.bounded in
        filter_choice r L along_rows planes slack (λ (p : Bool → Plan) (n : ℕ). well_formed (p back) ≡ true)
        (λ d k. ranked_formed r along_rows back (whole_area r slack) (spare_of r L + 1) planes b (whole_area_lem r slack b.some_lines b.some_across) (of.slim d) (omega arith)
        (omega (arith, ranks_fit r L k)) some_planes few_planes)
        (λ d k. still_formed r along_rows back L planes slack b some few some_planes few_planes)
        (λ d. straight_formed r back (whole_area r slack) L planes b (whole_area_lem r slack b.some_lines b.some_across) some few some_planes few_planes)

    -- the other side has the same rows, counted from the other end
    pub filter_other :
        other_end (filter_plan r along_rows false L planes slack) (reach_in r along_rows (filter_plan r along_rows false L planes slack).ranked true)
        ≡ filter_plan r along_rows true L planes slack
    filter_other =
        filter_choice r L along_rows planes slack
        (λ (p : Bool → Plan) (n : ℕ). other_end (p false) (reach_in r along_rows (p false).ranked true) ≡ p true)
        (λ d k. rw d)
        (λ d k. rw d)
        (λ d. rw d)

    pub filter_count : states_of (filter_plan r along_rows false L planes slack) ≡ filter_states r L
    unfolding states_of
    filter_count =
        let b : Bounded r = framed.bounded in
        filter_choice r L along_rows planes slack (λ (p : Bool → Plan) (n : ℕ). states_of (p false) ≡ n)
        (λ d k. omega (arith, fit_diagonal d, b.some_lines, b.some_across))
        (λ d k. refl)
        (λ d. omega (arith, spare_straight r L d, straight_few d))
