-- `note_state` meets its contract: what is asked of it is what the door judges.
use mathlib.Core.Path.{◌∙◌}
use Rattle.walks.proofs.DoorTests.{note_if}
use Rattle.tracing.proofs.taken.note_state.Goals as goal

pub returns : goal.returns
returns c =
    let taken =
    c.note_state.ensures.value
    ∙ note_if _ _ _ _ _
    (record { read = record { form = c.args.followed.formed; behind = c.requires.3; within = c.requires.2 }; few = c.requires.0; near = c.requires.1; room = c.requires.4 }) in
    rw taken at c.note_state.ensures.either
