use mathlib.Core.Path.{◌≡◌}
use lib.ListN.{length}
use Rattle.walks.specs.Noting.{Lifted, FromRow, row_ended}
use Rattle.walks.proofs.notes.note_row.Given as goal

abbrev pub invariant-loop-j : goal.invariant-loop-j
invariant-loop-j l =
    (length l.notes ≡ length l.initial.notes)
    × Lifted (FromRow (row_ended l.work l.slack l.row.at l.at l.plan.across) l.row.lo l.row.hi l.to l.j) l.initial.notes l.notes
