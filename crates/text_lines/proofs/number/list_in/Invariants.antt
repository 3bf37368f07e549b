use mathlib.Core.Path.{◌≡◌}
use lib.ListN.{length}
use Rattle.text_lines.proofs.Parts.{Filling}
use Rattle.text_lines.proofs.number.list_in.Given as goal

abbrev pub invariant-loop-place : goal.invariant-loop-place
invariant-loop-place l = (length l.yielded ≡ l.place-index) × Filling l.s l.initial.out l.out l.place-index
