-- `held_fits` asks the questions of `held_fits` in their order.
use Rattle.states.proofs.DoorTests.{held_1, held_2}
use Rattle.states.proofs.doors.held_fits.Goals as goal

pub half_with-half-requires : goal.half_with-half-requires
half_with-half-requires c = c.requires

pub returns-then-half-held : goal.returns-then-half-held
returns-then-half-held c = held_1 _ _ _ _ c.half_with-half.ensures.0 c.if-half-held.true

pub returns : goal.returns
returns c = held_2 _ _ _ _ c.half_with-half.ensures.0 c.if-half-held.false
