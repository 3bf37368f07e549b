-- `note_state` meets its contract: the notes rise to one row a turn, each by the steps of its walks.
use Prim.Native.Nat.{◌+◌, ◌*◌, ◌≤◌, ◌<◌}
use mathlib.Core.Path.{◌≡◌, refl, ◌∙◌}
use native.Mathlib.Omega.{arith}
use lib.ListN.{length}
use Rattle.plans.specs.Plans.{rows_in, row_lo, row_hi, row_at, row_size, state_size}
use Rattle.plans.proofs.FormLaws.{well_formed_sound}
use Rattle.states.proofs.SizeLaws.{row_within}
use Rattle.stacks.proofs.StackLaws.{state_below}
use Rattle.walks.specs.Endings.{ended_in}
use Rattle.walks.proofs.Noting.{steps_fit, state_lifted_none, state_lifted_more, row_in_state}
use Rattle.walks.proofs.notes.note_state.Goals as goal
use Rattle.walks.proofs.notes.note_state.Goals.{After-row-row}

pub loop-m-init : goal.loop-m-init
loop-m-init c = (refl, state_lifted_none _ _ _ _)

-- what is known of the row that is noted
module _ (c : After-row-row) where
  below : c.loop-m.m < rows_in c.args.followed.plan c.args.e
  below = omega (arith, c.loop-m-test.true, c.rows_in-rows.ensures)

  in_state : c.loop-m.m * row_size c.args.followed.plan + row_size c.args.followed.plan ≤ state_size c.args.followed.plan
  in_state = row_within c.args.followed.plan c.args.e c.loop-m.m below

  noted : c.steps_in-steps.result * c.args.followed.plan.planes + c.args.followed.plan.planes ≤ length c.args.notes.now
  noted =
      steps_fit c.args.followed.plan c.args.e (length c.args.notes.now) c.loop-m.m c.steps_in-steps.result c.requires.4
      c.steps_in-steps.ensures below

  told : let p = c.args.followed.plan in
      (c.row-row.result.lo ≡ row_lo p c.args.e c.loop-m.m) × (c.row-row.result.hi ≡ row_hi p c.args.e c.loop-m.m) × (c.row-row.result.at ≡ row_at p c.args.e c.loop-m.m)
  told = c.row-row.ensures.inside c.requires.0 below

pub overflow_mul-at-in-loop-m : goal.overflow_mul-at-in-loop-m
overflow_mul-at-in-loop-m c =
    omega (arith, in_state (goal.at.overflow_mul-at-in-loop-m c).After-row-row, state_below c.args.followed.plan (well_formed_sound c.args.followed.plan c.args.followed.formed))

pub overflow_add-at : goal.overflow_add-at
overflow_add-at c =
    omega (arith, c.requires.1, in_state (goal.at.overflow_add-at c).After-row-row, state_below c.args.followed.plan (well_formed_sound c.args.followed.plan c.args.followed.formed))

pub overflow_mul-steps : goal.overflow_mul-steps
overflow_mul-steps c = omega (arith, noted (goal.at.overflow_mul-steps c).After-row-row, c.well_formed)

pub note_row-requires-clause-at_bound : goal.note_row-requires-clause-at_bound
note_row-requires-clause-at_bound c =
    let a = c.args in
    let f = (goal.at.note_row-requires-clause-at_bound c).After-row-row in
    let fits = (well_formed_sound c.args.followed.plan c.args.followed.formed).fits a.e c.loop-m.m (below f) c.requires.0 in (
      omega (arith, in_state f, c.requires.1, state_below a.followed.plan (well_formed_sound c.args.followed.plan c.args.followed.formed)),
      omega (arith, in_state f, c.requires.2),
      omega (arith, noted f, c.loop-m.invariant.0),
      omega (arith, (told f).2, fits.keyed, c.requires.1, c.requires.3),
      omega (arith, (told f).2, fits.keyed, c.requires.2, c.requires.3),
    )

pub loop-m-preserved : goal.loop-m-preserved
loop-m-preserved c =
    let a = c.args in
    let o = told (goal.at.loop-m-preserved c).After-row-row in (
      c.note_row.auto.notes ∙ c.loop-m.invariant.0,
      state_lifted_more a.followed.plan (ended_in a.work.now a.slack a.base a.followed.plan a.e) a.e c.loop-m.m a.notes.now c.loop-m.notes _ c.loop-m.invariant.1
          (row_in_state a.followed.plan a.slack a.e c.loop-m.m _ a.base _ _ _ _ a.work.now c.loop-m.notes _ refl o.0 o.1 o.2
          c.steps_in-steps.ensures c.note_row.ensures),
    )

pub returns : goal.returns
returns c =
    let all : c.loop-m.m ≡ rows_in c.args.followed.plan c.args.e = omega (arith, c.loop-m-test.false, c.loop-m.auto.m-end, c.rows_in-rows.ensures) in
    rw all at c.loop-m.invariant.1
