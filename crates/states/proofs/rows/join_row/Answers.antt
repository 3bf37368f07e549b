-- `join_row` meets its contract: turn by turn, one plane more of either row is joined.
use Prim.Native.Nat.{ℕ, ◌+◌, ◌-◌, ◌*◌}
use mathlib.Core.Path.{◌≡◌, subst}
use native.Mathlib.Omega.{arith}
use Rattle.plans.specs.Plans.{pitch_of}
use Rattle.plans.proofs.PlanSizes.{plane_fits, part_fits}
use Rattle.eights.specs.Turned.{numbers}
use Rattle.states.proofs.PartLaws.{part_folded}
use Rattle.states.proofs.JoinLaws.{Folded, lower, folded_none, joined_more, row_joined}
use Rattle.states.proofs.rows.join_row.Goals as goal

pub loop-j-init : goal.loop-j-init
loop-j-init c = folded_none _ _ _ _ _

pub loop-j-preserved : goal.loop-j-preserved
loop-j-preserved c =
    let a = c.args in
    let p = a.plan in
    let j = c.loop-j.j in
    let plane = plane_fits p j (omega arith) in
    let part = part_fits p (p.planes - 1 - j) (omega arith) in
    let to = a.row.at + a.row.lo in
    let h = a.slot + j * pitch_of p + 1 + a.row.lo in
    let w = a.at + (p.planes - 1 - j) * p.across + a.row.lo in
    let n = a.row.hi - a.row.lo in
    let run = part_folded a.held.now a.work.now c.loop-j.best c.fold_run.new.best to h w (to + n - to) (h + n - h) (w + n - w) (to + n) (omega arith) (omega (arith, c.requires, c.loop-j.auto.best))
    (omega (arith, c.fold_run.auto.best)) (omega arith) (omega arith) (omega (arith, c.requires, plane)) (omega (arith, c.requires, part)) c.fold_run.ensures in
    joined_more (numbers a.held.now) a.work.now a.slot a.at p.planes (pitch_of p) p.across _ _ _ a.row.at j a.row.lo a.row.hi to h w n c.loop-j.invariant run (omega arith) (omega (arith, c.requires.0.ordered)) (omega arith) (omega arith)

pub returns : goal.returns
returns c =
    let a = c.args in
    let p = a.plan in
    let all = subst (λ (k : ℕ). Folded (lower (numbers a.held.now) a.work.now a.slot a.at p.planes (pitch_of p) p.across) a.best.now c.loop-j.best a.row.at k a.row.lo a.row.hi) (let e : c.loop-j.j ≡ p.planes = omega arith in e) c.loop-j.invariant in
    row_joined (numbers a.held.now) a.work.now a.slot a.at p.planes (pitch_of p) p.across _ _ _ _ _ all
