-- `lies_in` meets its contract: the difference is formed only where it exists.
use Rattle.states.proofs.DoorTests.{lies_not, lies_if}
use Rattle.states.proofs.doors.lies_in.Goals as goal

pub returns-then-n-len : goal.returns-then-n-len
returns-then-n-len c = lies_not _ _ _ c.if-n-len.true

pub returns : goal.returns
returns c = lies_if _ _ _ c.if-n-len.false
