-- `find_end` meets its contract: what is asked of it is what the door judges.
use Rattle.walks.proofs.DoorTests.{end_if}
use Rattle.tracing.proofs.taken.find_end.Goals as goal

pub returns : goal.returns
returns c =
    let taken =
    end_if _ _ _ _ _
    (record { read = record { form = c.args.followed.formed; behind = c.requires.3; within = c.requires.4 }; few = c.requires.2; near = c.requires.0; on_lines = c.requires.1 }) in
    rw taken at c.find_end.ensures
