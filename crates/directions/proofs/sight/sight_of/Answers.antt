-- `sight_of` meets its contract: what is asked of frame, spot, plan and states is what they ensure.
use mathlib.Core.Path.{sym, ◌∙◌}
use native.Mathlib.Omega.{arith}
use Rattle.directions.proofs.DoorLaws.{fitting}
use Rattle.directions.proofs.TableLaws.{frame_told}
use Rattle.directions.proofs.OpeningLaws.{oriented}
use Rattle.directions.proofs.SightLaws.{not_opposite, spot_told, sight_unfit, sight_off, sight_some}
use Rattle.directions.proofs.sight.sight_of.Goals as goal

pub returns-then-not-fits_plate : goal.returns-then-not-fits_plate
returns-then-not-fits_plate c = sight_unfit _ _ _ _ _ _ (sym c.fits_plate.ensures ∙ c.if-not-fits_plate.true)

pub overflow_mul-width : goal.overflow_mul-width
overflow_mul-width c = omega (arith, (fitting _ _ _ _ (sym c.fits_plate.ensures ∙ c.if-not-fits_plate.false)).size.few)

pub returns-then-at-width : goal.returns-then-at-width
returns-then-at-width c = sight_off _ _ _ _ _ _ (sym c.fits_plate.ensures ∙ c.if-not-fits_plate.false) c.if-at-width.true

pub spot_of-spot-requires : goal.spot_of-spot-requires
spot_of-spot-requires c =
    let f = fitting _ _ _ _ (sym c.fits_plate.ensures ∙ c.if-not-fits_plate.false) in (f.size, f.known, c.if-at-width.false)

pub overflow_add-setting : goal.overflow_add-setting
overflow_add-setting c = omega (arith, (fitting _ _ _ _ (sym c.fits_plate.ensures ∙ c.if-not-fits_plate.false)).few_gaps)

pub invariant_of-side : goal.invariant_of-side
invariant_of-side c =
    let f = fitting _ _ _ _ (sym c.fits_plate.ensures ∙ c.if-not-fits_plate.false) in
    let known = frame_told _ _ f.size _ _ f.known c.frame-frame.ensures in
    record { oriented = oriented _ _ _ _ known.0 known.1 f.known _ _ c.by_rows.ensures; bounded = known.0.bounded }

pub trace_plan-plan-requires : goal.trace_plan-plan-requires
trace_plan-plan-requires c =
    let f = fitting _ _ _ _ (sym c.fits_plate.ensures ∙ c.if-not-fits_plate.false) in
    let at = spot_told _ _ _ _ _ _ c.frame-frame.ensures f.size f.known c.if-at-width.false c.spot_of-spot.ensures in
    (at.on_line, at.on_pixel)

pub trace_states-states-requires : goal.trace_states-states-requires
trace_states-states-requires c =
    let f = fitting _ _ _ _ (sym c.fits_plate.ensures ∙ c.if-not-fits_plate.false) in
    let at = spot_told _ _ _ _ _ _ c.frame-frame.ensures f.size f.known c.if-at-width.false c.spot_of-spot.ensures in
    (at.on_line, at.on_pixel)

pub returns : goal.returns
returns c =
    let a = c.args in
    sight_some a.width a.height a.setting a.index a.backwards a.at (sym c.fits_plate.ensures ∙ c.if-not-fits_plate.false) c.if-at-width.false _ _ _ _ _ _
    c.frame-frame.ensures c.by_rows.ensures c.spot_of-spot.ensures (not_opposite a.backwards) c.trace_plan-plan.ensures c.trace_states-states.ensures
