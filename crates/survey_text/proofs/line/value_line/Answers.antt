-- `value_line` finds the line's value: each return is a law of the next line.
use mathlib.Core.Path.{sym, ◌∙◌}
use Rattle.std.proofs.lemmas.Result.{err_from_is_err_and}
use Rattle.survey_text.proofs.NextLine.{next_no_name, next_bytes}
use Rattle.survey_text.proofs.Verdicts.{got, missed}
use Rattle.survey_text.proofs.line.value_line.Goals as goal

pub returns-in_err-value : goal.returns-in_err-value
returns-in_err-value c =
    let p = err_from_is_err_and c.from_residual.result c.from_residual.ensures.1 in
    let m = missed _ _ _ (sym c.ok_or.ensures.value ∙ c.in_err-value.was) in
    rw (p.1, p.2, m.1, c.refusal.ensures) (next_no_name _ _ _ (rw m.0 at c.value_at.ensures.result_value))

pub returns : goal.returns
returns c =
    let g = got _ _ _ (sym c.ok_or.ensures.value ∙ c.in_ok-value.was) in
    next_bytes _ _ _ _ (rw g at c.value_at.ensures.result_value)
