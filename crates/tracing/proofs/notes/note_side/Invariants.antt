use mathlib.Core.Path.{◌≡◌}
use lib.ListN.{length}
use Rattle.walks.proofs.NotedStates.{SideNoted}
use Rattle.tracing.proofs.notes.note_side.Given as goal

abbrev pub invariant-loop-e : goal.invariant-loop-e
invariant-loop-e l =
    (length l.work ≡ length l.initial.work)
    × (length l.held ≡ 18720)
    × (length l.notes ≡ length l.initial.notes)
    × SideNoted l.followed.plan l.scan.slack l.e-end l.base l.e l.initial.work l.work l.initial.notes l.notes
