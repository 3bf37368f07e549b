-- `trace` meets its contract: `first_direction` has decided before the first store, so that a refusal leaves both lent buffers as they were; and once all
-- checks have passed there is a direction to look in, and a path is shown.
use mathlib.Core.Path.{refl, ap, ◌∙◌}
use Rattle.std.proofs.lemmas.Result.{err_from_is_err_and}
use Rattle.plate.specs.Refusals.{Verdict.accepted}
use Rattle.tracing.proofs.Refusing.{trace_refused, trace_accepted}
use Rattle.tracing.proofs.trace.Goals as goal

pub returns-in_err-first : goal.returns-in_err-first
returns-in_err-first c =
    let p = err_from_is_err_and c.from_residual.result c.from_residual.ensures.1 in
    rw (p.1, p.2) (record { result_value = trace_refused _ _ _ _ _ _ _ c.in_err-first.ensures; trace_after = (refl, refl) })

pub returns : goal.returns
returns c =
    record {
      result_value = ap accepted c.find_and_draw.ensures.level ∙ trace_accepted _ _ _ _ _ _ _ c.in_ok-first.ensures.0;
      trace_after = c.find_and_draw.ensures.shows;
    }
