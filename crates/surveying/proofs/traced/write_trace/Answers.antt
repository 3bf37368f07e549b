-- `write_trace` hands the trace's answer on, with the front of the path buffer as the path.
use native.Mathlib.Omega.{arith}
use Prim.Native.Nat.{◌≤◌}
use mathlib.Core.Path.{◌≡◌, sym, ◌∙◌}
use lib.ListN.{length}
use lib.Seq.{length-take-le}
use Rattle.survey_text.specs.Survey.{Survey}
use Rattle.surveying.specs.Steps.{asked}
use Rattle.surveying.proofs.Judged.{length_few, trace_judged}
use Rattle.surveying.proofs.Traces.{on_plate, trace_lines}
use Rattle.surveying.proofs.traced.write_trace.Goals as goal
use Rattle.surveying.proofs.traced.write_trace.Goals.{After-trace-traced, Start}

abbrev of : (b : Start) → Survey
of b = asked b.args.head b.args.levels.now

-- the front of the path buffer is as long as the path, before the trace and after it
fits : (b : Start) → b.args.head.setting.length ≤ length b.args.path.now
fits b = omega (arith, length_few (of b) b.requires.ready, b.requires.max_length_in_bounds)

after_long : (t : After-trace-traced) → length t.trace-traced.new.path ≡ t.args.head.setting.length
after_long t = t.trace-traced.auto.path ∙ length-take-le _ _ (fits (goal.at.After-trace-traced t).Start)

pub slice_bounds-path-end : goal.slice_bounds-path-end
slice_bounds-path-end c = fits (goal.at.slice_bounds-path-end c).Start

pub slice_bounds-path-end-2 : goal.slice_bounds-path-end-2
slice_bounds-path-end-2 c = sym (length-take-le _ _ (fits (goal.at.slice_bounds-path-end-2 c).Start))

pub write_traced-requires : goal.write_traced-requires
write_traced-requires c =
    let b = (goal.at.write_traced-requires c).Start in
    record {
      path_len_bound = omega (arith, after_long (goal.at.write_traced-requires c).After-trace-traced, length_few (of b) c.requires.ready);
      on_plate = on_plate (of b) c.requires.ready c.trace-traced.result _ _ _ _ c.trace-traced.ensures.trace_after;
      max_trace_in_bounds = c.requires.max_trace_in_bounds;
    }

pub returns : goal.returns
returns c =
    let b = (goal.at.returns c).Start in
    trace_lines (of b) c.trace-traced.result _ _ _ _
    (c.trace-traced.ensures.result_value ∙ trace_judged (of b) c.requires.ready _ _ (length-take-le _ _ (fits b)) c.requires.max_work_in_bounds)
    c.trace-traced.ensures.trace_after c.write_traced.ensures
