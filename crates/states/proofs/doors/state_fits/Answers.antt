-- `state_fits` asks the two questions of `state_fits` in their order.
use Rattle.states.proofs.DoorTests.{state_1, state_2}
use native.Mathlib.Omega.{arith}
use mathlib.Core.Path.{◌∙◌}
use Rattle.states.proofs.doors.state_fits.Goals as goal

pub returns-then-keys_size-at : goal.returns-then-keys_size-at
returns-then-keys_size-at c = state_1 _ _ _ (omega (arith, c.keys_size.ensures, c.if-keys_size-at.true))

pub returns : goal.returns
returns c = (rw c.state_size.ensures.0 at c.lies_in.ensures) ∙ state_2 _ _ _ (omega (arith, c.keys_size.ensures, c.if-keys_size-at.false))
