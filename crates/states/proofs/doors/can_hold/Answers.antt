-- `can_hold` asks the two questions of `can_hold` in their order.
use mathlib.Core.Path.{sym, ◌∙◌}
use native.Mathlib.Omega.{arith}
use Rattle.states.proofs.DoorTests.{hold_1, hold_2}
use Rattle.states.proofs.doors.can_hold.Goals as goal

pub returns-then-not-is_well_formed : goal.returns-then-not-is_well_formed
returns-then-not-is_well_formed c = hold_1 _ _ (sym c.is_well_formed.ensures ∙ c.if-not-is_well_formed.true)

pub held_fits-requires : goal.held_fits-requires
held_fits-requires c = omega arith

pub returns : goal.returns
returns c = c.held_fits.ensures ∙ hold_2 _ _ (sym c.is_well_formed.ensures ∙ c.if-not-is_well_formed.false)
