-- `fill` writes nothing where `judge` refuses; where it does not, the correction is accepted, and what it writes are the levels.
use borrow.Author.Rules.{rules}
use native.Mathlib.Omega.{arith}
use mathlib.Core.Path.{◌≡◌, refl, ◌∙◌}
use Prim.Native.Nat.{◌*◌, ◌≤◌}
use lib.ListN.{length}
use lib.Seq.{length-take-le}
use Rattle.std.proofs.lemmas.Result.{err_from_is_err_and}
use Rattle.survey_text.proofs.Requests.{outcome_refused, not_refused, filled}
use Rattle.survey_text.proofs.asking.fill.Goals as goal
use Rattle.survey_text.proofs.asking.fill.Goals.{Start}

-- the front of the levels is as long as the plate
fits : (b : Start) → b.args.head.width * b.args.head.height ≤ length b.args.levels.now
fits b = let many : length b.args.levels.now ≡ 512 = search rules in omega (arith, b.requires, many)

-- what it leaves comes before its number
pub returns-in_err-judge : goal.returns-in_err-judge
returns-in_err-judge c =
    let p = err_from_is_err_and c.from_residual.result c.from_residual.ensures.1 in
    let is = outcome_refused _ _ _ c.in_err-judge.ensures in
    rw (p.1, p.2) (record { levels_after = rw is refl; result_after = rw is refl })

pub returns-in_err-correct : goal.returns-in_err-correct
returns-in_err-correct c =
    let e = length-take-le _ _ (fits (goal.at.returns-in_err-correct c).Start) in
    not_refused c.args.head _ _ c.in_ok-judge.ensures _ _ (rw e at c.in_err-correct.ensures.result_value)

pub returns : goal.returns
returns c =
    let e = length-take-le _ _ (fits (goal.at.returns c).Start) in
    let r = filled c.args.head _ _ c.in_ok-judge.ensures _ c.args.levels.now c.in_ok-correct.ensures.res_after (c.correct.auto.res ∙ e) in
    record { result_after = r.0; levels_after = r.1 }
