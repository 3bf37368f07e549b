-- `raise_all` meets its contract: the plan is the filter's, so the sweep is taken, and what is joined raises the levels to the best walks.
use Prim.Native.Nat.{◌+◌}
use mathlib.Core.Path.{refl, sym, ◌∙◌}
use mathlib.Core.Bool.{true, false}
use native.Mathlib.Omega.{arith}
use Rattle.basics.proofs.Lists.{replicate_default}
use Rattle.theory.specs.BestWalks.{gap_end}
use Rattle.directions.proofs.OpeningLaws.{Opening, opening, oriented, long_enough}
use Rattle.directions.proofs.DoorLaws.{openable}
use Rattle.directions.proofs.TableLaws.{frame_told}
use Rattle.directions.proofs.direction.raise_all.Goals as goal
use Rattle.directions.proofs.direction.raise_all.Goals.{After-reach_of-reach}

-- what is known of the plan and of the frame that it sweeps
ready : (c : After-reach_of-reach) →
    let a = c.args in
    Opening c.frame-frame.result a.way.width a.way.height a.way.index a.setting.length a.setting.gaps (gap_end a.setting.ends) c.filter_plan-plan.result c.reach_of-reach.result
ready c =
    let a = c.args in
    let o = (openable _ _ _ _ _ _ _ c.requires).fitting in
    let known = frame_told _ _ o.size _ _ o.known c.frame-frame.ensures in
    opening c.frame-frame.result a.way.width a.way.height a.way.index known.0 known.1 o.known a.setting.length o.some o.few o.long
    c.by_rows.result (a.setting.gaps + 1) (gap_end a.setting.ends) a.setting.gaps refl o.few_gaps c.filter_plan-plan.result c.reach_of-reach.result
    c.filter_plan-plan.ensures c.reach_of-reach.ensures

pub overflow_add-setting : goal.overflow_add-setting
overflow_add-setting c = omega (arith, (openable _ _ _ _ _ _ _ c.requires).fitting.few_gaps)

pub invariant_of-on : goal.invariant_of-on
invariant_of-on c =
    let o = (openable _ _ _ _ _ _ _ c.requires).fitting in
    let known = frame_told _ _ o.size _ _ o.known c.frame-frame.ensures in
    record { oriented = oriented _ _ _ _ known.0 known.1 o.known _ false c.by_rows.ensures; bounded = known.0.bounded }

pub invariant_of-back : goal.invariant_of-back
invariant_of-back c =
    let o = (openable _ _ _ _ _ _ _ c.requires).fitting in
    let known = frame_told _ _ o.size _ _ o.known c.frame-frame.ensures in
    record { oriented = oriented _ _ _ _ known.0 known.1 o.known _ true c.by_rows.ensures; bounded = known.0.bounded }

pub filter_plan-plan-requires : goal.filter_plan-plan-requires
filter_plan-plan-requires c =
    let o = (openable _ _ _ _ _ _ _ c.requires).fitting in
    let known = frame_told _ _ o.size _ _ o.known c.frame-frame.ensures in
    (o.some, o.few, long_enough _ _ _ _ known.0 known.1 o.known _ o.long)

pub invariant_of-kept : goal.invariant_of-kept
invariant_of-kept c = record { kept_on = (ready (goal.at.invariant_of-kept c).After-reach_of-reach).kept }

pub fill_keys-requires : goal.fill_keys-requires
fill_keys-requires c =
    let o = openable _ _ _ _ _ _ _ c.requires in
    let known = frame_told _ _ o.fitting.size _ _ o.fitting.known c.frame-frame.ensures in ((ready (goal.at.fill_keys-requires c).After-reach_of-reach).keys_fit _ o.work_size, o.plate_size ∙ sym known.0.area)

pub raise-requires : goal.raise-requires
raise-requires c =
    let o = openable _ _ _ _ _ _ _ c.requires in
    let known = frame_told _ _ o.fitting.size _ _ o.fitting.known c.frame-frame.ensures in (omega (arith, known.0.bounded.few_pixels, c.sweep.auto.best), o.result_size ∙ sym known.0.area)

pub returns : goal.returns
returns c =
    let o = openable _ _ _ _ _ _ _ c.requires in
    let taken = c.sweep.ensures.value ∙ (ready (goal.at.returns c).After-reach_of-reach).taken _ (omega (arith, c.fill_keys.ensures.between.len, o.work_size)) in
    (ready (goal.at.returns c).After-reach_of-reach).raised _ _ _ _ _ _ _ _ c.fill_keys.ensures.between (rw taken at c.sweep.ensures.either) (λ q. replicate_default 65536 q 0) c.raise.ensures o.result_size
