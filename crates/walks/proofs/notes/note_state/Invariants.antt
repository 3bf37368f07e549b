use mathlib.Core.Path.{◌≡◌}
use lib.ListN.{length}
use Rattle.walks.specs.Noting.{Lifted, FromState}
use Rattle.walks.specs.Endings.{ended_in}
use Rattle.walks.proofs.notes.note_state.Given as goal

abbrev pub invariant-loop-m : goal.invariant-loop-m
invariant-loop-m l =
    (length l.notes ≡ length l.initial.notes)
    × Lifted (FromState l.followed.plan (ended_in l.work l.slack l.base l.followed.plan l.e) l.e l.m) l.initial.notes l.notes
