-- `checked` runs the checks of a setting in the table's order: the first that refuses decides.
use mathlib.Core.Path.{sym, ◌∙◌}
use mathlib.Core.List.{[], ◌∷◌}
use Rattle.std.proofs.lemmas.Result.{err_from_is_err_and}
use Rattle.plate.specs.Refusals.{setting_verdict, judged}
use Rattle.plate.proofs.Verdicts.{check_passes, check_refuses}
use Rattle.plate.proofs.setting.Setting.checked.Goals as goal

pub returns-in_err-refuse_if : goal.returns-in_err-refuse_if
unfolding setting_verdict
returns-in_err-refuse_if c =
    let p = err_from_is_err_and c.from_residual.result c.from_residual.ensures.1 in
    rw (p.1, p.2) (check_refuses _ ([]) _ _ tt (rw c.bad_length.ensures at c.in_err-refuse_if.ensures))

pub returns-in_err-refuse_if-2 : goal.returns-in_err-refuse_if-2
unfolding setting_verdict
returns-in_err-refuse_if-2 c =
    let p = err_from_is_err_and c.from_residual-in_err-refuse_if-2.result c.from_residual-in_err-refuse_if-2.ensures.1 in
    rw (p.1, p.2) (check_refuses _ (_ ∷ []) _ _ (sym c.bad_length.ensures ∙ check_passes _ c.in_ok-refuse_if.ensures, tt) (rw c.bad_gaps.ensures at c.in_err-refuse_if-2.ensures))

pub returns-in_err-refuse_if-3 : goal.returns-in_err-refuse_if-3
unfolding setting_verdict
returns-in_err-refuse_if-3 c =
    let p = err_from_is_err_and c.from_residual-in_err-refuse_if-3.result c.from_residual-in_err-refuse_if-3.ensures.1 in
    rw (p.1, p.2) (check_refuses _ (_ ∷ _ ∷ []) _ _ (sym c.bad_length.ensures ∙ check_passes _ c.in_ok-refuse_if.ensures, (sym c.bad_gaps.ensures ∙ check_passes _ c.in_ok-refuse_if-2.ensures, tt)) (rw c.bad_directions.ensures at c.in_err-refuse_if-3.ensures))

pub returns-in_err-refuse_if-4 : goal.returns-in_err-refuse_if-4
unfolding setting_verdict
returns-in_err-refuse_if-4 c =
    let p = err_from_is_err_and c.from_residual-in_err-refuse_if-4.result c.from_residual-in_err-refuse_if-4.ensures.1 in
    rw (p.1, p.2) (check_refuses _ (_ ∷ _ ∷ _ ∷ []) _ _ (sym c.bad_length.ensures ∙ check_passes _ c.in_ok-refuse_if.ensures, (sym c.bad_gaps.ensures ∙ check_passes _ c.in_ok-refuse_if-2.ensures, (sym c.bad_directions.ensures ∙ check_passes _ c.in_ok-refuse_if-3.ensures, tt))) (rw c.bad_mode.ensures at c.in_err-refuse_if-4.ensures))

pub returns-in_err-refuse_if-5 : goal.returns-in_err-refuse_if-5
unfolding setting_verdict
returns-in_err-refuse_if-5 c =
    let p = err_from_is_err_and c.from_residual-in_err-refuse_if-5.result c.from_residual-in_err-refuse_if-5.ensures.1 in
    rw (p.1, p.2) (check_refuses _ (_ ∷ _ ∷ _ ∷ _ ∷ []) _ _ (sym c.bad_length.ensures ∙ check_passes _ c.in_ok-refuse_if.ensures, (sym c.bad_gaps.ensures ∙ check_passes _ c.in_ok-refuse_if-2.ensures, (sym c.bad_directions.ensures ∙ check_passes _ c.in_ok-refuse_if-3.ensures, (sym c.bad_mode.ensures ∙ check_passes _ c.in_ok-refuse_if-4.ensures, tt)))) (rw c.bad_ends.ensures at c.in_err-refuse_if-5.ensures))

pub returns : goal.returns
unfolding setting_verdict judged
returns c =
    simp (sym c.bad_length.ensures ∙ check_passes _ c.in_ok-refuse_if.ensures, sym c.bad_gaps.ensures ∙ check_passes _ c.in_ok-refuse_if-2.ensures, sym c.bad_directions.ensures ∙ check_passes _ c.in_ok-refuse_if-3.ensures, sym c.bad_mode.ensures ∙ check_passes _ c.in_ok-refuse_if-4.ensures, sym c.bad_ends.ensures ∙ check_passes _ c.in_ok-refuse_if-5.ensures)
