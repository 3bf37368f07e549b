-- `form_line` reads the line's value by its form: each return is a law of the next line.
use mathlib.Core.Path.{refl, sym, ◌∙◌}
use Rattle.std.proofs.lemmas.Result.{err_from_is_err_and}
use Rattle.std.proofs.lemmas.Fn.{says_at}
use Rattle.survey_text.proofs.NextLine.{next_refused, next_no_value, next_value}
use Rattle.survey_text.proofs.Verdicts.{got, missed}
use Rattle.survey_text.proofs.line.form_line.Goals as goal

pub returns-in_err-value : goal.returns-in_err-value
returns-in_err-value g c =
    λ form reads. let p = err_from_is_err_and c.from_residual.result c.from_residual.ensures.1 in
    rw (p.1, p.2) (next_refused _ form _ _ _ c.in_err-value.ensures)

pub returns-in_err-found : goal.returns-in_err-found
returns-in_err-found g c =
    λ form reads. let p = err_from_is_err_and c.from_residual-in_err-found.result c.from_residual-in_err-found.ensures.1 in
    let m = missed _ _ _ (sym c.ok_or.ensures.value ∙ c.in_err-found.was) in
    let r = reads _ _ (says_at g.F.Fn c.read.ensures refl) in
    rw (p.1, p.2, m.1, c.refusal.ensures) (next_no_value _ form _ _ _ c.in_ok-value.ensures (rw m.0 at r))

pub returns : goal.returns
returns g c =
    λ form reads. let k = got _ _ _ (sym c.ok_or.ensures.value ∙ c.in_ok-found.was) in
    let r = reads _ _ (says_at g.F.Fn c.read.ensures refl) in
    next_value _ form _ _ _ c.in_ok-value.ensures (rw k at r)
