-- `nearer` meets its contract: what is asked of it is what the door judges.
use Rattle.walks.proofs.DoorTests.{step_if}
use Rattle.tracing.proofs.taken.nearer.Goals as goal

pub returns : goal.returns
returns c =
    let taken = step_if _ _ _ _ (record { form = c.args.followed.formed; behind = c.requires.1; within = c.requires.2 }) c.requires.0 in rw taken at c.nearer.ensures
