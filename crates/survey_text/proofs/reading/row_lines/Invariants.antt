use Rattle.survey_text.specs.Cursors.{rest_of}
use Rattle.survey_text.proofs.Rows.{Rows}
use Rattle.survey_text.proofs.reading.row_lines.Given as goal

abbrev pub invariant-loop-i : goal.invariant-loop-i
invariant-loop-i l = Rows l.name l.width l.height l.out (rest_of l.initial.here) (rest_of l.here) l.i
