-- `judge_entering` meets its contract: what the trace's checks refuse is refused, and where they pass the book's decide.
use mathlib.Core.Path.{◌∙◌}
use Rattle.std.proofs.lemmas.Result.{err_from_is_err_and}
use Rattle.entering.proofs.Deciding.{trace_refuses, book_decides}
use Rattle.entering.proofs.checks.judge_entering.Goals as goal

pub returns-in_err-judge_trace : goal.returns-in_err-judge_trace
returns-in_err-judge_trace c =
    let p = err_from_is_err_and c.from_residual.result c.from_residual.ensures.1 in
    rw (p.1, p.2) (trace_refuses _ _ _ _ _ _ _ _ c.in_err-judge_trace.ensures)

pub returns : goal.returns
returns c = rw c.key_of.ensures at c.judge.ensures ∙ book_decides _ _ _ _ _ _ _ _ c.in_ok-judge_trace.ensures
