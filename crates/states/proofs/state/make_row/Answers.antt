-- `make_row` meets its contract: the new row comes to its place, the walks of no steps, or what the three steps lead on, which read what the last
-- number's half and the last state's row m hold.
use Prim.Native.Nat.{ℕ, ◌+◌, ◌≤◌, ◌<◌}
use mathlib.Core.Path.{◌≡◌, sym, ◌∙◌}
use native.Mathlib.Omega.{arith}
use lib.ListN.{length}
use Rattle.plans.specs.Plans.{row_lo, row_hi, row_at}
use Rattle.states.specs.Rows.{RowOf}
use Rattle.eights.proofs.TurnedLaws.{numbers_length}
use Rattle.plans.proofs.FormLaws.{well_formed_sound}
use Rattle.states.proofs.SizeLaws.{half_room, row_fits, row_keyed}
use Rattle.states.proofs.HoldingLaws.{TapsAt, slotted_same, slots_within, taps_fit, made_started, made_blended}
use Rattle.states.proofs.state.make_row.Goals as goal
use Rattle.states.proofs.state.make_row.Goals.{After-row-row, After-tap-3, Start}

-- ---- the call, and the row that is told
abbrev start : (r : After-row-row) → Start
start r = (goal.at.After-row-row r).Start

row_same : (r : After-row-row) → let p = r.args.followed.plan in
    (r.row-row.result.lo ≡ row_lo p r.args.e r.args.m) × (r.row-row.result.hi ≡ row_hi p r.args.e r.args.m) × (r.row-row.result.at ≡ row_at p r.args.e r.args.m)
row_same r = r.row-row.ensures.inside r.requires.e_bound.0 r.requires.e_bound.1

row_told : (r : After-row-row) → RowOf r.args.followed.plan r.row-row.result
row_told r =
    row_fits _ _ _ _ (well_formed_sound _ r.args.followed.formed) r.requires.e_bound.0 r.requires.e_bound.1 (row_same r).0 (row_same r).1

keyed : (r : After-row-row) → r.row-row.result.at + r.args.followed.plan.across ≤ length r.args.work.now
keyed r =
    omega (arith, row_keyed _ _ _ _ (well_formed_sound _ r.args.followed.formed) r.requires.e_bound.0 r.requires.e_bound.1 (row_same r).2, r.requires.e_bound)

-- ---- the needs
pub start_row-requires : goal.start_row-requires
start_row-requires c =
    (row_told (goal.at.start_row-requires c).After-row-row, omega (arith, half_room c.args.followed.plan, c.requires.slotted.now_fits), keyed (goal.at.start_row-requires c).After-row-row)

pub returns-then-starts_at : goal.returns-then-starts_at
returns-then-starts_at c =
    let e = c.row-row.ensures.inside c.requires.e_bound.0 c.requires.e_bound.1 in
    let starting = sym c.starts_at.ensures ∙ c.if-starts_at.true in
    made_started _ _ _ _ _ _ _ c.start_row.ensures.apart c.requires.e_bound.1 starting _ _ _ e.0 e.1 e.2 c.start_row.ensures.row_held

-- where the three steps look is near
nears : (s : Start) → let r = s.args.followed.plan.reach in (r.x0 ≤ 2) × (r.x1 ≤ 2) × (r.x2 ≤ 2)
nears s =
    (((well_formed_sound _ s.args.followed.formed).first _ _ s.requires.e_bound.1 s.requires.e_bound.0).near, ((well_formed_sound _ s.args.followed.formed).second _ _ s.requires.e_bound.1 s.requires.e_bound.0).near, ((well_formed_sound _ s.args.followed.formed).third _ _ s.requires.e_bound.1 s.requires.e_bound.0).near)

tap_told : (s : Start) (x : ℕ) → let a = s.args in x ≤ 2 →
    (a.slots.was < 40000) × (a.slots.now < 40000) × (x ≤ 2)
tap_told s x near =
    let within = slots_within _ _ _ (well_formed_sound _ s.args.followed.formed) s.requires.slotted in
    (within.0, within.1, near)

pub tap-requires : goal.tap-requires
tap-requires c = tap_told (goal.at.tap-requires c).Start _ (omega (arith, nears (goal.at.tap-requires c).Start))

pub tap-requires-2 : goal.tap-requires-2
tap-requires-2 c = tap_told (goal.at.tap-requires-2 c).Start _ (omega (arith, nears (goal.at.tap-requires-2 c).Start))

pub tap-requires-3 : goal.tap-requires-3
tap-requires-3 c = tap_told (goal.at.tap-requires-3 c).Start _ (omega (arith, nears (goal.at.tap-requires-3 c).Start))

taps : (t : After-tap-3) → let a = t.args in
    TapsAt a.followed.plan a.slots t.tap.result t.tap-2.result t.tap-3.result
taps t =
    record { first = t.tap.ensures; second = t.tap-2.ensures; third = t.tap-3.ensures }

pub blend_row-requires : goal.blend_row-requires
blend_row-requires c =
    record { row_of = (row_told (goal.at.blend_row-requires c).After-row-row, taps_fit _ _ _ _ _ _ _ _ (well_formed_sound _ c.args.followed.formed) c.requires.slotted c.requires.e_bound.0 c.requires.e_bound.1 (taps (goal.at.blend_row-requires c).After-tap-3)); across_in_bounds = (keyed (goal.at.blend_row-requires c).After-row-row, c.requires.slotted.small) }

pub returns : goal.returns
returns c =
    let e = c.row-row.ensures.inside c.requires.e_bound.0 c.requires.e_bound.1 in
    let later = sym c.starts_at.ensures ∙ c.if-starts_at.false in
    made_blended _ _ _ _ _ _ _ (well_formed_sound _ c.args.followed.formed) (slotted_same _ _ _ _ c.requires.slotted (numbers_length c.args.held.now)) c.requires.e_bound.0 c.requires.e_bound.1 later
    _ _ _ _ _ _ _ e.0 e.1 e.2 (taps (goal.at.returns c).After-tap-3) (omega arith) c.blend_row.ensures.row_held c.blend_row.ensures.apart
