-- `start_run` meets its contract: the keys stand in plane 0, and plane by plane, raised to the slack, in the others. The loop begins with plane 0
-- made, so that its invariant speaks of every list of which that was made.
use Prim.Native.Nat.{ℕ, ◌+◌, ◌-◌, ◌*◌}
use mathlib.Core.Path.{◌≡◌, refl, ◌∙◌}
use native.Mathlib.Omega.{arith}
use lib.ListN.{length, get_or}
use Rattle.plans.specs.Plans.{pitch_of}
use Rattle.eights.specs.Turned.{numbers}
use Rattle.plans.proofs.PlanSizes.{plane_fits}
use Rattle.states.proofs.PlaneLaws.{planes_ends}
use borrow.Rule.Slice.PartMut.{put_mid}
use Rattle.states.proofs.PartLaws.{part_length, part_held, part_raised}
use Rattle.states.proofs.RowLaws.{started_first, started_later, row_started}
use Rattle.states.proofs.rows.start_run.Goals as goal
use Rattle.states.proofs.rows.start_run.Goals.{After-turn_run}

-- the first run leaves the list as long as it was
first_long : (r : After-turn_run) → let a = r.args in
    length (put_mid (a.slot + 1 + a.first) (a.slot + 1 + a.first + (a.past - a.first) - (a.slot + 1 + a.first)) a.held.now r.turn_run.new.to) ≡ length a.held.now
first_long r =
    let a = r.args in
    let low = a.slot + 1 + a.first in
    part_length a.held.now r.turn_run.new.to low (low + (a.past - a.first) - low) (omega (arith, r.requires, plane_fits r.args.plan 0 (omega (arith, r.requires)))) (omega (arith, r.turn_run.auto.to))

pub loop-j-init : goal.loop-j-init
loop-j-init c = λ old s. s

pub loop-j-preserved : goal.loop-j-preserved
loop-j-preserved c =
    let a = c.args in
    let p = a.plan in
    let v = c.loop-j.invariant in
    let j = c.loop-j.j in
    let plane = plane_fits p j (omega arith) in
    let to = a.slot + 1 + a.first + j * pitch_of p in
    let n = a.past - a.first in
    let long = first_long (goal.at.loop-j-preserved c).After-turn_run in
    let run = part_raised a.keys.now c.loop-j.held c.raise_run.new.to to (a.at + a.first) (to + n - to) (a.at + a.past - (a.at + a.first)) (to + n) (omega arith) (omega (arith, c.requires, c.loop-j.auto.held, long, plane)) (omega (arith, c.raise_run.auto.to)) (omega (arith, c.requires)) (omega (arith, c.requires)) p.slack c.raise_run.ensures in
    λ old made. started_later p a.keys.now a.slot a.at _ _ c.requires.le_planes.4 _ _ _ _ _ _ _ _ (v old made) run refl (omega arith) (omega arith) refl (omega (arith, c.requires))

pub shape_of-held : goal.shape_of-held
shape_of-held c = c.loop-j.auto.held ∙ first_long (goal.at.shape_of-held c).After-turn_run

pub returns : goal.returns
returns c =
    let a = c.args in
    let p = a.plan in
    let k = a.keys.now in
    let entry = numbers a.held.now in
    let low = a.slot + 1 + a.first in
    let n = a.past - a.first in
    let run = part_held k a.held.now c.turn_run.new.to low (a.at + a.first) (low + n - low) (a.at + a.past - (a.at + a.first)) (low + n) (omega arith) (omega (arith, c.requires, plane_fits p 0 (omega (arith, c.requires)))) (omega (arith, c.turn_run.auto.to)) (omega (arith, c.requires)) (omega (arith, c.requires)) c.turn_run.ensures.held in
    let made = started_first p k a.slot a.at a.first a.past c.requires.le_planes.4 entry _ _ _ _ run (omega arith) refl (omega (arith, c.requires)) in
    let all = planes_ends _ _ _ _ _ _ _ _ (c.loop-j.invariant entry made) (let e : c.loop-j.j ≡ p.planes = omega (arith, c.requires) in e) in
    row_started _ _ (λ (x : ℕ). get_or k (a.at + x) 0) _ _ _ _ (omega (arith, c.requires)) all
