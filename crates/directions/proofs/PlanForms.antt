-- The plans of a direction are well-formed, all three kinds: the sizes are those of the frame, rows are counted through an area of it, and the steps
-- lead no further than one line or rank, and one pixel.
use Prim.Native.Nat.{ℕ, ◌-◌, ◌≤◌, ◌<◌}
use mathlib.Core.Path.{◌≡◌, refl}
use mathlib.Core.Bool.{Bool, true, false}
use native.Mathlib.Omega.{arith}
use borrow.Author.Tests.{lt-ltb, le-leb, eq-eqb}
use Rattle.frames.specs.Frames.{Bounded}
use Rattle.frames.specs.declared.frame.Frame.{Frame}
use Rattle.plans.specs.Forms.{among, in_limits, in_frame, orders_of, origin_of, is_counted, is_shaped, step_on_lines, step_on_ranks, step_held, steps_held, well_formed}
use Rattle.plans.specs.declared.plan.Plan.{Plan}
use Rattle.directions.specs.Plans.{straight_plan, still_plan, ranked_plan, AreaOf}
use Rattle.directions.specs.declared.plan.Area.{Area}

among_both : (lo hi n : ℕ) → lo ≤ n → n ≤ hi → among lo hi n ≡ true
unfolding among
among_both lo hi n h k = rw (le-leb lo n h, le-leb n hi k) refl

-- ---- a plan of a frame, whose rows are counted as the form asks

module _ (r : Frame) (p : Plan) (b : Bounded r) (is-lines : p.lines ≡ r.lines) (is-across : p.across ≡ r.across) where
  in_limits_lem : 1 ≤ p.planes → p.planes ≤ 9 → 1 ≤ p.rows → p.rows ≤ 1024 → in_limits p ≡ true
  unfolding in_limits
  in_limits_lem some_planes few_planes some_rows few_rows =
      rw (
        is-lines,
        is-across,
        among_both 1 9 p.planes some_planes few_planes,
        among_both 1 1024 r.lines b.some_lines b.few_lines,
        among_both 1 1024 r.across b.some_across b.few_across,
        among_both 1 1024 p.rows some_rows few_rows,
        le-leb _ 65536 b.few_pixels,
      )
      refl

  in_frame_lem : p.top < p.bottom → p.bottom ≤ r.lines → p.left < p.right → p.right ≤ r.across → in_frame p ≡ true
  unfolding in_frame
  in_frame_lem high low wide narrow =
      rw (is-lines, is-across, lt-ltb p.top p.bottom high, le-leb p.bottom _ low, lt-ltb p.left p.right wide, le-leb p.right _ narrow) refl

  formed :
      1 ≤ p.planes → p.planes ≤ 9 → 1 ≤ p.rows → p.rows ≤ 1024 → p.top < p.bottom → p.bottom ≤ r.lines → p.left < p.right →
      p.right ≤ r.across → p.orders ≡ orders_of p → p.origin ≡ origin_of p → is_shaped p ≡ true → steps_held p ≡ true → well_formed p ≡ true
  unfolding well_formed is_counted
  formed some_planes few_planes some_rows few_rows high low wide narrow orders origin shaped held =
      rw (
        in_limits_lem some_planes few_planes some_rows few_rows,
        in_frame_lem high low wide narrow,
        eq-eqb p.orders (orders_of p) orders,
        eq-eqb p.origin (origin_of p) origin,
        shaped,
        held,
      )
      refl

-- ---- windows of lines

module _ (r : Frame) (back : Bool) (a : Area) (rows planes : ℕ) where
  straight_held : (b : Bool) → steps_held (straight_plan r b a rows planes) ≡ true
  unfolding steps_held step_held step_on_lines
  straight_held true = refl
  straight_held false = refl

  straight_shaped : is_shaped (straight_plan r back a rows planes) ≡ true
  unfolding is_shaped
  straight_shaped = eq-eqb r.across r.across refl

  pub straight_formed : Bounded r → AreaOf r a → 1 ≤ rows → rows ≤ 1024 → 1 ≤ planes → planes ≤ 9 → well_formed (straight_plan r back a rows planes) ≡ true
  unfolding orders_of origin_of
  straight_formed b area some few some_planes few_planes =
      formed r (straight_plan r back a rows planes) b refl refl some_planes few_planes some few area.high area.low b.some_across (omega arith) refl
      refl straight_shaped (straight_held back)

-- ---- single lines

module _ (r : Frame) (along_rows back : Bool) (rows planes slack : ℕ) where
  still_held : (c b : Bool) → steps_held (still_plan r c b rows planes slack) ≡ true
  unfolding steps_held step_held step_on_lines
  still_held true true = refl
  still_held true false = refl
  still_held false true = refl
  still_held false false = refl

  still_shaped : is_shaped (still_plan r along_rows back rows planes slack) ≡ true
  unfolding is_shaped
  still_shaped = eq-eqb r.across r.across refl

  pub still_formed : Bounded r → 1 ≤ rows → rows ≤ 1024 → 1 ≤ planes → planes ≤ 9 → well_formed (still_plan r along_rows back rows planes slack) ≡ true
  unfolding orders_of origin_of
  still_formed b some few some_planes few_planes =
      formed r (still_plan r along_rows back rows planes slack) b refl refl some_planes few_planes some few b.some_lines (omega arith) b.some_across (omega arith)
      (let e : r.lines ≡ r.lines - 0 = omega arith in e)
      refl still_shaped (still_held along_rows back)

-- ---- ranks

module _ (r : Frame) (along_rows back : Bool) (a : Area) (rows planes : ℕ) where
  ranked_held : (c b : Bool) → steps_held (ranked_plan r c b a rows planes) ≡ true
  unfolding steps_held step_held step_on_ranks among
  ranked_held true true = refl
  ranked_held true false = refl
  ranked_held false true = refl
  ranked_held false false = refl

  ranked_shaped : r.across ≤ r.lines → is_shaped (ranked_plan r along_rows back a rows planes) ≡ true
  unfolding is_shaped
  ranked_shaped slim = le-leb r.across r.lines slim

  pub ranked_formed :
      Bounded r → AreaOf r a → r.across ≤ r.lines → 1 ≤ rows → rows ≤ 1024 → 1 ≤ planes → planes ≤ 9 →
      well_formed (ranked_plan r along_rows back a rows planes) ≡ true
  unfolding orders_of origin_of
  ranked_formed b area slim some few some_planes few_planes =
      formed r (ranked_plan r along_rows back a rows planes) b refl refl some_planes few_planes some few area.high area.low area.wide area.narrow
      refl refl (ranked_shaped slim) (ranked_held along_rows back)
