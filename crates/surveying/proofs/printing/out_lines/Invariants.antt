use mathlib.Core.Path.{◌≡◌}
use mathlib.Core.List.{flat_map}
use Rattle.survey_text.specs.Printing.{rows, out_line}
use Rattle.surveying.proofs.OutLines.{Lined}
use Rattle.surveying.proofs.printing.out_lines.Given as goal

abbrev pub invariant-loop-row : goal.invariant-loop-row
invariant-loop-row l = (l.row-iterator.size ≡ l.width) × Lined l.width (flat_map out_line (rows l.width l.height l.levels)) l.row-iterator.rest.now l.initial.w l.w
