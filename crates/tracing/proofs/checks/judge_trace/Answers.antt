-- `judge_trace` meets its contract: past all checks there is a direction to look in.
use mathlib.Core.Path.{sym}
use Rattle.std.proofs.lemmas.Result.{err_from_is_err_and}
use Rattle.plate.proofs.Verdicts.{clear_accepted}
use Rattle.tracing.proofs.checks.judge_trace.Goals as goal

pub returns-in_err-first_direction : goal.returns-in_err-first_direction
returns-in_err-first_direction c =
    let p = err_from_is_err_and c.from_residual.result c.from_residual.ensures.1 in rw (p.1, p.2) c.in_err-first_direction.ensures

pub returns : goal.returns
returns c = sym (clear_accepted _ tt c.in_ok-first_direction.ensures.0)
