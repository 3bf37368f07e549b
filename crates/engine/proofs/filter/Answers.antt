-- `filter` meets its contract: `judge` has decided on checks 1 to 8 before the first store, so a refusal leaves both lent buffers as they were; and
-- once all have passed the sweep makes the filtered plate.
use mathlib.Core.Path.{refl}
use Rattle.std.proofs.lemmas.Result.{err_from_is_err_and}
use Rattle.plate.specs.Refusals.{filter_verdict}
use Rattle.plate.specs.Answers.{call_verdict}
use Rattle.plate.proofs.Calls.{call_passed}
use Rattle.engine.proofs.filter.Goals as goal

pub returns-in_err-judge : goal.returns-in_err-judge
unfolding call_verdict filter_verdict
returns-in_err-judge c =
    let p = err_from_is_err_and c.from_residual.result c.from_residual.ensures.1 in
    rw (p.1, p.2) (record { result_value = c.in_err-judge.ensures; res_after = refl; work_after = refl })

pub sweep-requires : goal.sweep-requires
sweep-requires c = call_passed _ _ _ _ c.in_ok-judge.ensures

pub returns : goal.returns
unfolding call_verdict filter_verdict
returns c = record { result_value = c.in_ok-judge.ensures; res_after = c.sweep.ensures; work_after = tt }
