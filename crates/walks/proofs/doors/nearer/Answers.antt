-- `nearer` meets its contract: what was judged is what a step asks for.
use mathlib.Core.Path.{refl, sym, ◌∙◌}
use Rattle.walks.proofs.DoorTests.{step_facts}
use Rattle.walks.proofs.doors.nearer.Goals as goal

pub returns-then-not-can_step : goal.returns-then-not-can_step
returns-then-not-can_step c = rw (sym c.can_step.ensures ∙ c.if-not-can_step.true) refl

pub invariant_of-nearer : goal.invariant_of-nearer
invariant_of-nearer c = record { formed = (step_facts _ _ _ _ (sym c.can_step.ensures ∙ c.if-not-can_step.false)).0.form }

pub nearer-requires : goal.nearer-requires
nearer-requires c =
    let a = step_facts _ _ _ _ (sym c.can_step.ensures ∙ c.if-not-can_step.false) in
    (a.1, a.0.within)

pub returns : goal.returns
returns c = rw (sym c.can_step.ensures ∙ c.if-not-can_step.false) c.nearer.ensures
