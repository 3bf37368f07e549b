-- `judge_size` follows the two checks of the definition: the first that refuses decides.
use native.Mathlib.Omega.{arith}
use mathlib.Core.Path.{◌≡◌, sym, ◌∙◌}
use mathlib.Core.Bool.{false}
use mathlib.Core.List.{[], ◌∷◌}
use Rattle.std.proofs.lemmas.Result.{err_from_is_err_and}
use Rattle.plate.specs.Refusals.{bad_size, size_check}
use Rattle.plate.proofs.Sizes.{good_size}
use Rattle.plate.proofs.Verdicts.{accepted_clear, refused_first, passed_first}
use Rattle.survey_text.proofs.reading.judge_size.Goals as goal
use Rattle.survey_text.proofs.reading.judge_size.Goals.{In_ok-refuse_if}

pub returns-in_err-refuse_if : goal.returns-in_err-refuse_if
returns-in_err-refuse_if c =
    let p = err_from_is_err_and c.from_residual.result c.from_residual.ensures.1 in
    let e = rw c.bad_size.ensures at c.in_err-refuse_if.ensures in
    rw (p.1, p.2) (sym (refused_first tt tt (size_check c.args.width c.args.height ∷ []) _ _ _ (sym e)))

-- the size is good behind the first check
good : (c : In_ok-refuse_if) → bad_size c.args.width c.args.height ≡ false
good c = sym c.bad_size.ensures ∙ (accepted_clear _ tt tt (sym c.in_ok-refuse_if.ensures)).1.0

pub overflow_mul-width : goal.overflow_mul-width
overflow_mul-width c = record { fits = omega (arith, (good_size _ _ (good (goal.at.overflow_mul-width c).In_ok-refuse_if)).few) }

pub returns : goal.returns
returns c =
    c.refuse_if-2.ensures ∙ sym (passed_first tt (size_check c.args.width c.args.height ∷ []) _ (good (goal.at.returns c).In_ok-refuse_if, tt))
