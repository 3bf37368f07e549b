-- `first_direction` meets its contract: `judge` decides on checks 1 to 8, then the place and the directions are asked.
use mathlib.Core.Path.{◌≡◌}
use native.Mathlib.Omega.{arith}
use borrow.Author.Tests.{leb-false}
use Rattle.std.proofs.lemmas.Result.{err_from_is_err_and}
use Rattle.plate.specs.Refusals.{Verdict.accepted}
use Rattle.plate.specs.Answers.{call_verdict}
use Rattle.plate.specs.Calls.{Passed}
use Rattle.plate.proofs.Verdicts.{check_passes}
use Rattle.tracing.proofs.Refusing.{lent, refused_call, passed_eight, refused_place, path_decides}
use Rattle.tracing.proofs.checks.first_direction.Goals as goal
use Rattle.tracing.proofs.checks.first_direction.Goals.{In_ok-judge}

-- past the first refusal checks 1 to 8 have passed
module _ (c : In_ok-judge) where
  call : let a = c.args in accepted tt ≡ call_verdict a.width a.height a.setting (lent a.width a.height a.setting a.input a.at a.filled a.work)
  call = c.in_ok-judge.ensures

  eight : let a = c.args in Passed a.width a.height a.setting a.input a.setting.length a.filled a.work
  eight = passed_eight _ _ _ _ c.args.at _ _ call

pub returns-in_err-judge : goal.returns-in_err-judge
returns-in_err-judge c =
    let p = err_from_is_err_and c.from_residual.result c.from_residual.ensures.1 in
    rw (p.1, p.2) (refused_call _ _ _ _ _ _ _ c.in_err-judge.ensures)

pub returns-in_err-refuse_if : goal.returns-in_err-refuse_if
returns-in_err-refuse_if c =
    let p = err_from_is_err_and c.from_residual-in_err-refuse_if.result c.from_residual-in_err-refuse_if.ensures.1 in
    let f = (goal.at.returns-in_err-refuse_if c).In_ok-judge in
    rw (p.1, p.2) (refused_place _ _ _ _ _ _ _ (call f) (eight f).plate_size c.in_err-refuse_if.ensures)

pub returns : goal.returns
returns c =
    let f = (goal.at.returns c).In_ok-judge in
    let passes = leb-false _ _ (check_passes _ c.in_ok-refuse_if.ensures) in
    path_decides _ _ _ _ _ _ _ (call f) (omega (arith, passes, (eight f).plate_size)) _ c.first_usable.ensures _ c.ok_or.ensures.value
