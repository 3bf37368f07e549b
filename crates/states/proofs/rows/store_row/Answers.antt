-- `store_row` meets its contract: plane by plane, the numbers of the held row come to the state.
use Prim.Native.Nat.{ℕ, ◌+◌, ◌-◌, ◌*◌}
use mathlib.Core.Path.{◌≡◌, ap}
use native.Mathlib.Omega.{arith}
use lib.ListN.{get_or}
use Rattle.plans.specs.Plans.{pitch_of}
use Rattle.plans.proofs.PlanSizes.{part_fits, plane_fits}
use Rattle.eights.specs.Turned.{numbers}
use Rattle.states.proofs.PlaneLaws.{planes_none, planes_ends, copied_more}
use Rattle.states.proofs.RowLaws.{row_stored}
use Rattle.states.proofs.PartLaws.{part_stored}
use Rattle.states.proofs.rows.store_row.Goals as goal

pub loop-j-init : goal.loop-j-init
loop-j-init c = planes_none _ _ _ _ _

pub loop-j-preserved : goal.loop-j-preserved
loop-j-preserved c =
    let p = c.args.plan in
    let k = numbers c.args.held.now in
    let j = c.loop-j.j in
    let plane = plane_fits p j (omega arith) in
    let part = part_fits p j (omega arith) in
    let to = c.args.at + j * p.across + c.args.row.lo in
    let from = c.args.slot + j * pitch_of p + 1 + c.args.row.lo in
    let n = c.args.row.hi - c.args.row.lo in
    let run = part_stored c.args.held.now c.loop-j.work c.turn_run.new.to to from (to + n - to) (from + n - from) (to + n) (omega arith) (omega (arith, c.requires, c.loop-j.invariant.apart.len, part)) (omega (arith, c.turn_run.auto.to)) (omega arith) (omega (arith, c.requires, plane)) c.turn_run.ensures.stored in
    copied_more k _ _ _ _ _ _ _ _ _ _ _ _ c.loop-j.invariant run (omega arith) (omega (arith, c.requires.0)) (omega (arith, c.requires.0)) (λ X a b. ap (λ (q : ℕ). get_or k q 0) (omega arith))

pub returns : goal.returns
returns c =
    let p = c.args.plan in
    let all = planes_ends _ _ _ _ _ _ _ _ c.loop-j.invariant (let e : c.loop-j.j ≡ p.planes = omega arith in e) in record { by_index = row_stored (numbers c.args.held.now) _ _ c.args.slot _ (pitch_of p) _ _ _ _ all; apart = all.apart }
