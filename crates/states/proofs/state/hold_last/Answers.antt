-- `hold_last` meets its contract: the slot is filled with zeros where there is no last state, and with its row m otherwise. Where states are not
-- linked nothing is asked of it.
use Prim.Native.Nat.{◌-◌, ◌<◌}
use mathlib.Core.Path.{◌≡◌, refl}
use native.Mathlib.Omega.{arith}
use borrow.Author.Tests.{not-true, not-false}
use Rattle.plans.specs.Plans.{block_of, half_of}
use Rattle.eights.proofs.TurnedLaws.{turned_high}
use Rattle.plans.proofs.FollowedSizes.{row_bound}
use Rattle.plans.proofs.FormLaws.{well_formed_sound}
use Rattle.states.proofs.TurnedLaws.{numbers_filled}
use Rattle.states.proofs.SizeLaws.{row_before_lem, row_within, row_fits, half_linked}
use Rattle.states.proofs.PlaneLaws.{apart_none, apart_run}
use Rattle.states.proofs.HoldingLaws.{last_none, last_some, last_unlinked, apart_of}
use Rattle.states.proofs.state.hold_last.Goals as goal
use Rattle.states.proofs.state.hold_last.Goals.{Else-not-followed}

-- the slot has room for a row
room : (e : Else-not-followed) → let a = e.args in half_of a.followed.plan - block_of a.followed.plan ≡ block_of a.followed.plan
room e = omega (arith, half_linked e.args.followed.plan (not-false _ e.if-not-followed.false))

pub returns-then-not-followed : goal.returns-then-not-followed
returns-then-not-followed c = record { last_row = last_unlinked _ _ _ _ _ _ _ (not-true _ c.if-not-followed.true); apart = apart_none _ _ _ }

pub fill_run-requires : goal.fill_run-requires
fill_run-requires c = omega (arith, c.block_size.ensures.0, room (goal.at.fill_run-requires c).Else-not-followed, c.requires.e_bound.2)

pub overflow_mul-at : goal.overflow_mul-at
overflow_mul-at c = omega (arith, row_bound c.args.followed.plan c.args.followed.formed)

pub overflow_mul-at-else-e-eq0 : goal.overflow_mul-at-else-e-eq0
overflow_mul-at-else-e-eq0 c =
    let a = c.args in
    omega (arith, c.requires.e_bound, row_within a.followed.plan a.e a.m c.requires.e_bound.1)

pub overflow_add-at : goal.overflow_add-at
overflow_add-at c =
    let a = c.args in
    omega (arith, c.requires.e_bound, row_within a.followed.plan a.e a.m c.requires.e_bound.1)

pub load_row-requires : goal.load_row-requires
load_row-requires c =
    let a = c.args in
    let row = row_before_lem a.followed.plan a.e (a.e - 1) a.m (well_formed_sound _ c.args.followed.formed) (omega arith) c.requires.e_bound.1 in
    let near : a.e - 1 < 65536 = omega (arith, c.requires.e_bound) in
    let r = c.row-row.ensures.inside near row in (
      row_fits a.followed.plan _ a.m c.row-row.result (well_formed_sound _ c.args.followed.formed) near row r.0 r.1,
      omega (arith, room (goal.at.load_row-requires c).Else-not-followed, c.requires.e_bound.2),
      omega (arith, c.requires.e_bound, row_within a.followed.plan a.e a.m c.requires.e_bound.1),
    )

pub returns-then-e-eq0 : goal.returns-then-e-eq0
returns-then-e-eq0 c =
    let r = numbers_filled _ _ _ _ _ _ (rw c.block_size.ensures.0 at c.fill_run.ensures) (omega (arith, room (goal.at.returns-then-e-eq0 c).Else-not-followed, c.requires.e_bound.2)) (turned_high 32768 (omega arith)) in record { last_row = last_none _ _ _ _ _ _ _ _ _ r refl c.if-e-eq0.true; apart = apart_of _ _ _ _ _ (room (goal.at.returns-then-e-eq0 c).Else-not-followed) (apart_run _ _ _ _ _ _ _ r (omega arith) (omega arith)) }

pub returns-else-e-eq0 : goal.returns-else-e-eq0
returns-else-e-eq0 c =
    let r = c.row-row.ensures.inside (omega (arith, c.requires.e_bound)) (row_before_lem _ c.args.e _ c.args.m (well_formed_sound _ c.args.followed.formed) (omega arith) c.requires.e_bound.1) in record { last_row = last_some _ _ _ _ _ _ _ (well_formed_sound _ c.args.followed.formed) _ _ _ (c.args.e - 1) (omega arith) c.requires.e_bound.1 r.0 r.1 refl c.load_row.ensures.row_held; apart = apart_of _ _ _ _ _ (room (goal.at.returns-else-e-eq0 c).Else-not-followed) c.load_row.ensures.apart }
