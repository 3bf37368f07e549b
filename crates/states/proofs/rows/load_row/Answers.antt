-- `load_row` meets its contract: plane by plane, the numbers of the row are put, and `guard` makes it a held one.
use Prim.Native.Nat.{ℕ, ◌+◌, ◌-◌, ◌*◌}
use mathlib.Core.Path.{◌≡◌, ap}
use native.Mathlib.Omega.{arith}
use lib.ListN.{get_or}
use Rattle.plans.specs.Plans.{pitch_of}
use Rattle.plans.proofs.PlanSizes.{part_fits, plane_fits}
use Rattle.states.proofs.PlaneLaws.{planes_none, planes_ends, copied_more, apart_then}
use Rattle.states.proofs.RowLaws.{row_put}
use Rattle.states.proofs.PartLaws.{part_held}
use Rattle.states.proofs.rows.load_row.Goals as goal

pub loop-j-init : goal.loop-j-init
loop-j-init c = planes_none _ _ _ _ _

pub loop-j-preserved : goal.loop-j-preserved
loop-j-preserved c =
    let p = c.args.plan in
    let k = c.args.work.now in
    let j = c.loop-j.j in
    let plane = plane_fits p j (omega arith) in
    let part = part_fits p j (omega arith) in
    let to = c.args.slot + j * pitch_of p + 1 + c.args.row.lo in
    let from = c.args.at + j * p.across + c.args.row.lo in
    let n = c.args.row.hi - c.args.row.lo in
    let run = part_held k c.loop-j.held c.turn_run.new.to to from (to + n - to) (from + n - from) (to + n) (omega arith) (omega (arith, c.requires, c.loop-j.auto.held, plane)) (omega (arith, c.turn_run.auto.to)) (omega arith) (omega (arith, c.requires, part)) c.turn_run.ensures.held in
    copied_more k _ _ _ _ _ _ _ _ _ _ _ _ c.loop-j.invariant run (omega arith) (omega (arith, c.requires.0)) (omega (arith, c.requires.0)) (λ X a b. ap (λ (q : ℕ). get_or k q 0) (omega arith))

pub returns : goal.returns
returns c =
    let p = c.args.plan in
    let all = planes_ends _ _ _ _ _ _ _ _ c.loop-j.invariant (let e : c.loop-j.j ≡ p.planes = omega arith in e) in
    let read : ℕ → ℕ → ℕ = λ j x. get_or c.args.work.now (c.args.at + (j * p.across + x)) 0 in record { row_held = c.guard.ensures.by_index _ (row_put read _ _ _ _ _ _ _ _ all (omega arith)); apart = apart_then _ _ _ _ _ all.apart c.guard.ensures.apart }
