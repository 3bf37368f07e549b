-- `size_lines` reads two lines and has the size judged: the definition step by step.
use mathlib.Core.Path.{sym}
use Rattle.std.proofs.lemmas.Result.{err_from_is_err_and}
use Rattle.plate.proofs.Verdicts.{clear_accepted, accepted_clear, refused_same}
use Rattle.survey_text.specs.Reading.{size_judged, size_lines}
use Rattle.survey_text.proofs.reading.size_lines.Goals as goal

pub returns-in_err-judge_size : goal.returns-in_err-judge_size
unfolding size_lines size_judged
returns-in_err-judge_size c =
    let p = err_from_is_err_and c.from_residual-in_err-judge_size.result c.from_residual-in_err-judge_size.ensures.1 in
    rw (p.1, p.2, ← c.in_ok-width.ensures, ← c.in_ok-height.ensures) (sym (refused_same tt _ _ _ _ (sym c.in_err-judge_size.ensures)))

pub returns : goal.returns
unfolding size_lines size_judged
returns c =
    rw (← c.in_ok-width.ensures, ← c.in_ok-height.ensures) (sym (clear_accepted _ _ (accepted_clear _ tt tt (sym c.in_ok-judge_size.ensures)).1))
