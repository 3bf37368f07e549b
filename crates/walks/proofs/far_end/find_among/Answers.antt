-- `find_among` meets its contract: the rows that were passed have no such pixel, and in the next one the first is looked for.
use Prim.Native.Nat.{ℕ, ◌+◌, ◌*◌, ◌≤◌, ◌<◌}
use mathlib.Core.Path.{◌≡◌}
use lib.ListN.{length}
use native.Mathlib.Omega.{arith}
use Rattle.plans.specs.Plans.{rows_in, row_lo, row_hi, row_at, row_size, state_size, RowFits}
use Rattle.plans.proofs.FormLaws.{well_formed_sound}
use Rattle.plans.proofs.PlanSizes.{part_fits}
use Rattle.states.proofs.SizeLaws.{row_within}
use Rattle.walks.proofs.Picking.{missed_none, missed_more, missed_picked, row_picked}
use Rattle.walks.proofs.far_end.find_among.Goals as goal
use Rattle.walks.proofs.far_end.find_among.Goals.{After-row-r}

-- what is known of the row that is looked at
module _ (c : After-row-r) where
  abbrev here : ℕ
  here = c.loop-row.row

  below : here < rows_in c.args.followed.plan c.args.rows.state
  below = omega (arith, c.requires.2, c.loop-row-test.true)

  told : let p = c.args.followed.plan in
      (c.row-r.result.lo ≡ row_lo p c.args.rows.state here) × (c.row-r.result.hi ≡ row_hi p c.args.rows.state here) × (c.row-r.result.at ≡ row_at p c.args.rows.state here)
  told = c.row-r.ensures.inside c.requires.0 below

  fits : RowFits c.args.followed.plan c.args.rows.state here
  fits = (well_formed_sound c.args.followed.plan c.args.followed.formed).fits c.args.rows.state here below c.requires.0

  in_state : here * row_size c.args.followed.plan + row_size c.args.followed.plan ≤ state_size c.args.followed.plan
  in_state = row_within c.args.followed.plan c.args.rows.state here below

  in_row : c.args.gaps * c.args.followed.plan.across + c.args.followed.plan.across ≤ row_size c.args.followed.plan
  in_row = part_fits c.args.followed.plan c.args.gaps c.requires.3

  numbers_end : c.args.base + here * row_size c.args.followed.plan + c.args.gaps * c.args.followed.plan.across + c.row-r.result.hi ≤ length c.args.work.now
  numbers_end = omega (arith, c.requires.4, in_state, in_row, fits.wide, told.1)

  keys_end : c.row-r.result.at + c.row-r.result.hi ≤ length c.args.work.now
  keys_end = omega (arith, c.requires.5, fits.keyed, fits.wide, told.1, told.2)

  ordered : c.row-r.result.lo ≤ c.row-r.result.hi
  ordered = omega (arith, fits.ordered, told.0, told.1)

pub loop-row-init : goal.loop-row-init
loop-row-init c = missed_none _ _ _ _ _ _ _ _

pub overflow_mul-plane-in-loop-row : goal.overflow_mul-plane-in-loop-row
overflow_mul-plane-in-loop-row c = omega (arith, c.well_formed, numbers_end (goal.at.overflow_mul-plane-in-loop-row c).After-row-r)

pub overflow_add-plane : goal.overflow_add-plane
overflow_add-plane c = omega (arith, c.well_formed, numbers_end (goal.at.overflow_add-plane c).After-row-r)

pub overflow_add-plane-in-loop-row : goal.overflow_add-plane-in-loop-row
overflow_add-plane-in-loop-row c = omega (arith, c.well_formed, numbers_end (goal.at.overflow_add-plane-in-loop-row c).After-row-r)

pub overflow_add-numbers : goal.overflow_add-numbers
overflow_add-numbers c =
    let f = (goal.at.overflow_add-numbers c).After-row-r in omega (arith, c.well_formed, numbers_end f, ordered f)

pub overflow_add-numbers-in-loop-row : goal.overflow_add-numbers-in-loop-row
overflow_add-numbers-in-loop-row c = omega (arith, c.well_formed, numbers_end (goal.at.overflow_add-numbers-in-loop-row c).After-row-r)

pub offset_bounds-work-plane : goal.offset_bounds-work-plane
offset_bounds-work-plane c =
    let f = (goal.at.offset_bounds-work-plane c).After-row-r in omega (arith, c.well_formed, numbers_end f, ordered f)

pub slice_bounds-numbers-end : goal.slice_bounds-numbers-end
slice_bounds-numbers-end c = omega (arith, numbers_end (goal.at.slice_bounds-numbers-end c).After-row-r)

pub returns-in-Some : goal.returns-in-Some
returns-in-Some c =
    let a = c.args in
    let f = (goal.at.returns-in-Some c).After-row-r in
    let o = told f in
    row_picked a.work.now a.slack a.base a.followed.plan a.rows.state a.gaps a.t c.loop-row.row c.row-r.result.lo c.row-r.result.hi
    c.row-r.result.at o.0 o.1 o.2 (numbers_end f) (keys_end f) a.rows.first a.rows.past c.in-Some.x c.loop-row.auto.row c.loop-row-test.true (below f)
    (omega (arith, o.1, (fits f).wide)) c.in-Some.ensures

pub loop-row-preserved : goal.loop-row-preserved
loop-row-preserved c =
    let a = c.args in
    let f = (goal.at.loop-row-preserved c).After-row-r in
    let o = told f in
    missed_more a.work.now a.slack a.base a.followed.plan a.rows.state a.gaps a.t c.loop-row.row c.row-r.result.lo c.row-r.result.hi
    c.row-r.result.at o.0 o.1 o.2 (numbers_end f) (keys_end f) a.rows.first c.loop-row.invariant c.in_default.ensures

pub returns : goal.returns
returns c = missed_picked _ _ _ _ _ _ _ _ _ _ c.loop-row-test.false c.loop-row.invariant
