-- `can_read` asks the questions of `can_read` in their order.
use mathlib.Core.Path.{ap, sym, ◌∙◌}
use Rattle.plans.specs.Forms.{well_formed}
use Rattle.plans.specs.declared.plan.Plan.{Plan}
use Rattle.states.specs.Doors.{state_fits}
use Rattle.walks.proofs.DoorTests.{read_1, read_2}
use Rattle.walks.proofs.doors.can_read.Goals as goal

pub returns-in_default : goal.returns-in_default
returns-in_default c = read_1 _ _ _ c.in_default.ensures

pub returns : goal.returns
returns c =
    let is = c.in-Some.ensures in
    c.state_fits.ensures
    ∙ ap (λ (p : Plan). state_fits p c.args.base c.args.work) is
    ∙ read_2 _ _ _ (sym (ap well_formed is) ∙ c.in-Some.followed.formed)
