-- `judge` runs checks 1 to 8 in the table's order: the first that refuses decides.
use Prim.Native.Nat.{◌+◌, ◌*◌, ◌≤◌}
use mathlib.Core.Path.{◌≡◌, sym, ◌∙◌}
use mathlib.Core.Bool.{false}
use mathlib.Core.List.{[], ◌∷◌}
use native.Mathlib.Nat.{mul-le-mul}
use native.Mathlib.Omega.{arith}
use Rattle.std.proofs.lemmas.Result.{err_from_is_err_and}
use Rattle.plate.specs.Refusals.{judged, Clear, bad_size, size_check, setting_checks}
use Rattle.plate.specs.Answers.{call_verdict}
use Rattle.plate.proofs.Sizes.{good_size}
use Rattle.plate.proofs.Verdicts.{passed_first, check_passes, check_refuses}
use Rattle.plate.proofs.Calls.{buffers, setting_decides, buffers_decide, setting_clear, few_gaps}
use Rattle.plate.proofs.call.judge.Goals as goal
use Rattle.plate.proofs.call.judge.Goals.{In_ok-refuse_if, In_ok-checked}

-- the size is good, and then the setting
good : (c : In_ok-refuse_if) → bad_size c.args.width c.args.height ≡ false
good c = sym c.bad_size.ensures ∙ check_passes _ c.in_ok-refuse_if.ensures

module _ (c : In_ok-checked) where
  clear : let a = c.args in Clear (size_check a.width a.height ∷ setting_checks a.setting)
  clear = (good (goal.at.In_ok-checked c).In_ok-refuse_if, setting_clear _ _ c.in_ok-checked.ensures)

  decides : let a = c.args in call_verdict a.width a.height a.setting a.lent ≡ judged (buffers a.width a.height a.setting a.lent) tt
  decides = buffers_decide _ _ _ _ clear

  few : c.args.setting.gaps ≤ 8
  few = few_gaps _ clear.1

pub returns-in_err-refuse_if : goal.returns-in_err-refuse_if
unfolding call_verdict
returns-in_err-refuse_if c =
    let p = err_from_is_err_and c.from_residual.result c.from_residual.ensures.1 in
    rw (p.1, p.2) (check_refuses _ [] _ _ tt (rw c.bad_size.ensures at c.in_err-refuse_if.ensures))

pub returns-in_err-checked : goal.returns-in_err-checked
returns-in_err-checked c =
    let p = err_from_is_err_and c.from_residual-in_err-checked.result c.from_residual-in_err-checked.ensures.1 in
    rw (p.1, p.2) (setting_decides _ _ _ _ (good (goal.at.returns-in_err-checked c).In_ok-refuse_if) c.in_err-checked.ensures)

pub overflow_mul-pixels : goal.overflow_mul-pixels
overflow_mul-pixels c = omega (arith, (good_size _ _ (clear c).0).few)

pub overflow_add-at_least : goal.overflow_add-at_least
overflow_add-at_least c = omega (arith, few (goal.at.overflow_add-at_least c).In_ok-checked)

pub overflow_mul-at_least : goal.overflow_mul-at_least
overflow_mul-at_least c = omega (arith, few (goal.at.overflow_mul-at_least c).In_ok-checked)

pub overflow_mul-at_least-2 : goal.overflow_mul-at_least-2
overflow_mul-at_least-2 c =
    let a = c.args in
    let k = few (goal.at.overflow_mul-at_least-2 c).In_ok-checked in
    omega (arith, mul-le-mul {n₁ = 4 * (a.setting.gaps + 1)} {m₁ = a.width * a.height} {n₂ = 36} {m₂ = 65536} (omega arith) (good_size _ _ (clear (goal.at.overflow_mul-at_least-2 c).In_ok-checked).0).few)

pub returns-in_err-refuse_if-2 : goal.returns-in_err-refuse_if-2
returns-in_err-refuse_if-2 c =
    let p = err_from_is_err_and c.from_residual-in_err-refuse_if-2.result c.from_residual-in_err-refuse_if-2.ensures.1 in
    rw (p.1, p.2, decides (goal.at.returns-in_err-refuse_if-2 c).In_ok-checked) (check_refuses _ [] _ _ tt c.in_err-refuse_if-2.ensures)

pub returns-in_err-refuse_if-3 : goal.returns-in_err-refuse_if-3
returns-in_err-refuse_if-3 c =
    let p = err_from_is_err_and c.from_residual-in_err-refuse_if-3.result c.from_residual-in_err-refuse_if-3.ensures.1 in
    rw (p.1, p.2, decides (goal.at.returns-in_err-refuse_if-3 c).In_ok-checked)
    (check_refuses _ (_ ∷ []) _ _ (check_passes _ c.in_ok-refuse_if-2.ensures, tt) (rw c.wanted-exactly.ensures at c.in_err-refuse_if-3.ensures))

pub returns : goal.returns
returns c =
    c.refuse_if-4.ensures
    ∙ sym (
    decides (goal.at.returns c).In_ok-checked
    ∙ passed_first tt (_ ∷ _ ∷ []) _ (check_passes _ c.in_ok-refuse_if-2.ensures, (check_passes _ (rw c.wanted-exactly.ensures at c.in_ok-refuse_if-3.ensures), tt))
    )
