-- `can_join` asks the questions of `joins` in their order.
use mathlib.Core.Path.{◌≡◌, sym, ◌∙◌}
use mathlib.Core.Bool.{true}
use native.Mathlib.Omega.{arith}
use Rattle.states.specs.Doors.{can_make, state_fits}
use Rattle.states.proofs.DoorTests.{Makes, make_facts, joins_1, joins_2, joins_3, joins_4, joins_5}
use Rattle.states.proofs.doors.can_join.Goals as goal
use Rattle.states.proofs.doors.can_join.Goals.{Else-not-can_make, Else-not-state_fits}

makes : (e : Else-not-can_make) → let a = e.args in can_make a.followed.plan a.states a.held ≡ true
makes e = sym e.can_make.ensures ∙ e.if-not-can_make.false

made : (e : Else-not-can_make) → let a = e.args in Makes a.followed.plan a.states a.held
made e = make_facts _ _ _ (makes e)

source : (e : Else-not-state_fits) → let a = e.args in state_fits a.followed.plan a.from a.work ≡ true
source e = sym e.state_fits.ensures ∙ e.if-not-state_fits.false

pub returns-then-not-can_make : goal.returns-then-not-can_make
returns-then-not-can_make c = joins_1 _ _ _ _ _ _ _ (sym c.can_make.ensures ∙ c.if-not-can_make.true)

pub overflow_sub-states : goal.overflow_sub-states
overflow_sub-states c = omega (arith, (made (goal.at.overflow_sub-states c).Else-not-can_make).some)

pub returns-then-rows_in-followed : goal.returns-then-rows_in-followed
returns-then-rows_in-followed c = joins_2 _ _ _ _ _ _ _ (makes (goal.at.returns-then-rows_in-followed c).Else-not-can_make) _ c.rows_in.ensures c.if-rows_in-followed.true

pub returns-then-not-state_fits : goal.returns-then-not-state_fits
returns-then-not-state_fits c =
    joins_3 _ _ _ _ _ _ _ (makes (goal.at.returns-then-not-state_fits c).Else-not-can_make) _ c.rows_in.ensures c.if-rows_in-followed.false
    (sym c.state_fits.ensures ∙ c.if-not-state_fits.true)

pub returns-then-not-state_fits-2 : goal.returns-then-not-state_fits-2
returns-then-not-state_fits-2 c =
    joins_4 _ _ _ _ _ _ _ (makes (goal.at.returns-then-not-state_fits-2 c).Else-not-can_make) _ c.rows_in.ensures c.if-rows_in-followed.false (source (goal.at.returns-then-not-state_fits-2 c).Else-not-state_fits)
    (sym c.state_fits-2.ensures ∙ c.if-not-state_fits-2.true)

pub returns : goal.returns
returns c =
    rw c.keys_size.ensures.0
    (joins_5 _ _ _ _ _ _ _ (makes (goal.at.returns c).Else-not-can_make) _ c.rows_in.ensures c.if-rows_in-followed.false (source (goal.at.returns c).Else-not-state_fits)
    (sym c.state_fits-2.ensures ∙ c.if-not-state_fits-2.false))
