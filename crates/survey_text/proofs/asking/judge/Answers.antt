-- `judge` follows the definition: each return is a law of it, at what the two calls answered.
use borrow.Author.Rules.{rules}
use native.Mathlib.Omega.{arith}
use mathlib.Core.Path.{◌≡◌}
use Prim.Native.Nat.{◌*◌}
use lib.ListN.{length, take}
use lib.Seq.{length-take-le}
use Rattle.std.proofs.lemmas.Result.{err_from_is_err_and}
use Rattle.survey_text.specs.Reading.{PlateText}
use Rattle.survey_text.specs.Within.{with_lists}
use Rattle.survey_text.proofs.Requests.{not_corrected, not_set, passed}
use Rattle.survey_text.proofs.asking.judge.Goals as goal
use Rattle.survey_text.proofs.asking.judge.Goals.{Start}

abbrev read : Start → PlateText
read b = with_lists b.args.head b.args.readings.now b.args.words.now

-- the front of the array that is thrown away
long : (b : Start) → let n = b.args.head.width * b.args.head.height in length (take n b.args.tried.now) ≡ n
long b = length-take-le _ _ (let many : length b.args.tried.now ≡ 512 = search rules in omega (arith, b.requires, many))

pub returns-in_err-correct : goal.returns-in_err-correct
returns-in_err-correct c =
    let b = (goal.at.returns-in_err-correct c).Start in
    let p = err_from_is_err_and c.from_residual.result c.from_residual.ensures.1 in
    rw (p.1, p.2, not_corrected (read b) _ _ (rw (long b) at c.in_err-correct.ensures.result_value))

pub returns-in_err-checked : goal.returns-in_err-checked
returns-in_err-checked c =
    let b = (goal.at.returns-in_err-checked c).Start in
    let p = err_from_is_err_and c.from_residual-in_err-checked.result c.from_residual-in_err-checked.ensures.1 in
    rw (p.1, p.2, not_set (read b) (rw (long b) at c.in_ok-correct.ensures.result_value) _ _ c.in_err-checked.ensures)

pub returns : goal.returns
returns c =
    let b = (goal.at.returns c).Start in
    rw (passed (read b) (rw (long b) at c.in_ok-correct.ensures.result_value) _ c.in_ok-checked.ensures)
