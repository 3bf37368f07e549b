-- `looked` meets its contract: the row has the pixel or not, and its number is read at its place.
use Prim.Native.Nat.{◌+◌, ◌*◌, ◌≤◌}
use mathlib.Core.Path.{◌≡◌, refl}
use native.Mathlib.Omega.{arith}
use lib.ListN.{length}
use Rattle.plans.specs.Plans.{row_lo, row_hi, row_at, row_size}
use Rattle.plans.proofs.FormLaws.{well_formed_sound}
use Rattle.plans.proofs.PlanSizes.{part_fits}
use Rattle.states.proofs.DoorTests.{row_few}
use Rattle.states.proofs.SizeLaws.{row_within}
use Rattle.walks.proofs.Picking.{looked_under, looked_over, looked_low, looked_high}
use Rattle.walks.proofs.step.looked.Goals as goal
use Rattle.walks.proofs.step.looked.Goals.{After-row-r}

-- the row is the plan's, and its numbers with so many gaps stand in the work buffer
module _ (c : After-row-r) where
  told : let p = c.args.followed.plan in
      (c.row-r.result.lo ≡ row_lo p c.args.state c.args.row) × (c.row-r.result.hi ≡ row_hi p c.args.state c.args.row) × (c.row-r.result.at ≡ row_at p c.args.state c.args.row)
  told = c.row-r.ensures.inside c.requires.0 c.requires.1

  there : c.args.base + c.args.row * row_size c.args.followed.plan + c.args.gaps * c.args.followed.plan.across + c.row-r.result.hi ≤ length c.args.work.now
  there =
      omega (
        arith,
        row_within c.args.followed.plan c.args.state c.args.row c.requires.1,
        part_fits c.args.followed.plan c.args.gaps c.requires.2,
        c.requires.3,
        ((well_formed_sound c.args.followed.plan c.args.followed.formed).fits c.args.state c.args.row c.requires.1 c.requires.0).wide,
        told.1,
      )

pub returns-then-past-r : goal.returns-then-past-r
returns-then-past-r c =
    let a = c.args in
    let o = told (goal.at.returns-then-past-r c).After-row-r in
    looked_under a.work.now a.base a.followed.plan a.state a.row a.past a.gaps a.t _ _ o.0 o.1 c.if-past-r.true

pub returns-then-past-r-2 : goal.returns-then-past-r-2
returns-then-past-r-2 c =
    let a = c.args in
    let o = told (goal.at.returns-then-past-r-2 c).After-row-r in
    looked_over a.work.now a.base a.followed.plan a.state a.row a.past a.gaps a.t _ _ o.0 o.1 c.if-past-r-2.true

pub overflow_mul-at : goal.overflow_mul-at
overflow_mul-at c = omega (arith, row_few c.args.followed.plan c.args.followed.formed)

pub overflow_mul-at-2 : goal.overflow_mul-at-2
overflow_mul-at-2 c = omega (arith, c.well_formed, there (goal.at.overflow_mul-at-2 c).After-row-r)

pub overflow_mul-at-3 : goal.overflow_mul-at-3
overflow_mul-at-3 c = omega (arith, c.well_formed, there (goal.at.overflow_mul-at-3 c).After-row-r)

pub overflow_add-at : goal.overflow_add-at
overflow_add-at c = omega (arith, c.well_formed, there (goal.at.overflow_add-at c).After-row-r)

pub overflow_add-at-2 : goal.overflow_add-at-2
overflow_add-at-2 c = omega (arith, c.well_formed, there (goal.at.overflow_add-at-2 c).After-row-r)

pub overflow_add-at-3 : goal.overflow_add-at-3
overflow_add-at-3 c = omega (arith, c.well_formed, there (goal.at.overflow_add-at-3 c).After-row-r)

pub offset_bounds-work-at : goal.offset_bounds-work-at
offset_bounds-work-at c = omega (arith, c.well_formed, there (goal.at.offset_bounds-work-at c).After-row-r)

pub bounds-work-at : goal.bounds-work-at
bounds-work-at c = omega (arith, there (goal.at.bounds-work-at c).After-row-r)

pub returns-then-work-at : goal.returns-then-work-at
returns-then-work-at c =
    let a = c.args in
    let o = told (goal.at.returns-then-work-at c).After-row-r in
    looked_low a.work.now a.base a.followed.plan a.state a.row a.past a.gaps a.t _ _ o.0 o.1 _ _ refl refl c.if-past-r.false c.if-work-at.true

pub returns : goal.returns
returns c =
    let a = c.args in
    let o = told (goal.at.returns c).After-row-r in
    looked_high a.work.now a.base a.followed.plan a.state a.row a.past a.gaps a.t _ _ o.0 o.1 _ _ refl refl c.if-past-r.false _ refl refl refl refl
    c.requires.1 c.if-past-r-2.false (omega (arith, o.1, ((well_formed_sound c.args.followed.plan c.args.followed.formed).fits a.state a.row c.requires.1 c.requires.0).wide)) c.if-work-at.false
