-- `can_advance` asks the questions of `advances` in their order.
use mathlib.Core.Path.{◌≡◌, sym, ◌∙◌}
use mathlib.Core.Bool.{true}
use Rattle.states.specs.Doors.{can_make, state_fits}
use Rattle.states.proofs.DoorTests.{advances_1, advances_2, advances_3, advances_4}
use Rattle.states.proofs.doors.can_advance.Goals as goal
use Rattle.states.proofs.doors.can_advance.Goals.{Else-not-can_make, Else-not-state_fits}

makes : (e : Else-not-can_make) → let a = e.args in can_make a.followed.plan a.states a.held ≡ true
makes e = sym e.can_make.ensures ∙ e.if-not-can_make.false

source : (e : Else-not-state_fits) → let a = e.args in state_fits a.followed.plan a.from a.work ≡ true
source e = sym e.state_fits.ensures ∙ e.if-not-state_fits.false

pub returns-then-not-can_make : goal.returns-then-not-can_make
returns-then-not-can_make c = advances_1 _ _ _ _ _ _ (sym c.can_make.ensures ∙ c.if-not-can_make.true)

pub returns-then-not-state_fits : goal.returns-then-not-state_fits
returns-then-not-state_fits c =
    advances_2 _ _ _ _ _ _ (makes (goal.at.returns-then-not-state_fits c).Else-not-can_make) (sym c.state_fits.ensures ∙ c.if-not-state_fits.true)

pub returns-then-not-state_fits-2 : goal.returns-then-not-state_fits-2
returns-then-not-state_fits-2 c =
    advances_3 _ _ _ _ _ _ (makes (goal.at.returns-then-not-state_fits-2 c).Else-not-can_make) (source (goal.at.returns-then-not-state_fits-2 c).Else-not-state_fits) (sym c.state_fits-2.ensures ∙ c.if-not-state_fits-2.true)

pub returns : goal.returns
returns c =
    c.same_or_apart.ensures
    ∙ advances_4 _ _ _ _ _ _ (makes (goal.at.returns c).Else-not-can_make) (source (goal.at.returns c).Else-not-state_fits) (sym c.state_fits-2.ensures ∙ c.if-not-state_fits-2.false)
