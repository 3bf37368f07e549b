-- `open` judges the length of the text.
use Rattle.std.proofs.lemmas.Result.{err_from_is_err_and}
use mathlib.Core.Path.{sym}
use Rattle.plate.proofs.Verdicts.{clear_accepted, accepted_clear, refused_same}
use Rattle.survey_text.specs.Reading.{opening}
use Rattle.survey_text.proofs.reading.open.Goals as goal

pub returns-in_err-refuse_if : goal.returns-in_err-refuse_if
unfolding opening
returns-in_err-refuse_if c =
    let p = err_from_is_err_and c.from_residual.result c.from_residual.ensures.1 in
    rw (p.1, p.2) (sym (refused_same tt _ _ _ _ (sym c.in_err-refuse_if.ensures)))

pub returns : goal.returns
unfolding opening
returns c = sym (clear_accepted _ _ (accepted_clear _ _ _ (sym c.in_ok-refuse_if.ensures)).1)
