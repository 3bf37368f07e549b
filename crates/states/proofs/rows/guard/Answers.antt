-- `guard` meets its contract: plane by plane, the two zeros stand.
use mathlib.Core.Path.{◌≡◌}
use mathlib.Core.Logic.{inl, inr}
use native.Mathlib.Omega.{arith}
use Rattle.plans.proofs.PlanSizes.{plane_fits}
use Rattle.eights.proofs.TurnedLaws.{turned_high}
use Rattle.states.proofs.PlaneLaws.{planes_none, planes_more, planes_ends, turned_pair}
use Rattle.states.proofs.RowLaws.{guarded}
use Rattle.states.proofs.rows.guard.Goals as goal

pub loop-j-init : goal.loop-j-init
loop-j-init c = planes_none _ _ _ _ _

pub loop-j-preserved : goal.loop-j-preserved
loop-j-preserved c =
    planes_more _ _ _ _ _ _ _ _ (λ X o. elim o [ inl e ↦ omega arith | inr e ↦ omega arith ]) c.loop-j.invariant
    (turned_pair c.loop-j.held _ _ _ _ _ _ _ 32768 _ (turned_high 32768 (omega arith)) (omega arith) (omega arith) (omega arith) (omega arith) (omega (arith, c.requires, c.loop-j.auto.held, plane_fits c.args.plan c.loop-j.j (omega arith))))

pub returns : goal.returns
returns c =
    let all = planes_ends _ _ _ _ _ _ _ _ c.loop-j.invariant (let e : c.loop-j.j ≡ c.args.plan.planes = omega arith in e) in record { by_index = guarded _ _ _ _ _ _ _ (omega arith) all; apart = all.apart }
