-- `write_answer` filters into the front of the result buffer, prints it, and traces: the filter is accepted, so that the front is the filtered plate.
use native.Mathlib.Omega.{arith}
use native.Mathlib.Nat.{mul_comm}
use Prim.Native.Nat.{◌*◌, ◌≤◌}
use mathlib.Core.Path.{◌≡◌, sym, ◌∙◌}
use Rattle.plate.specs.Refusals.{Verdict.accepted}
use Rattle.plate.specs.Answers.{answered}
use Rattle.plate.proofs.Sizes.{good_size}
use Rattle.theory.proofs.Mirror.{filtered_length}
use Rattle.survey_text.specs.Survey.{Survey, filtered_plate}
use Rattle.survey_text.proofs.Verdicts.{done_result}
use Rattle.survey_text.specs.Printing.{out_text}
use Rattle.surveying.specs.Steps.{max_out, Fitting, asked}
use Rattle.surveying.proofs.Filtered.{filtered_bits}
use Rattle.surveying.proofs.Judged.{filter_accepted}
use Rattle.surveying.proofs.Answers.{plate_short, short_room, short_after, survey_lines}
use Rattle.surveying.specs.Buffers.{Written}
use lib.ListN.{length}
use lib.Seq.{length-take-le}
use Rattle.surveying.proofs.write_answer.Goals as goal
use Rattle.surveying.proofs.write_answer.Goals.{After-filter, After-print_plate, Start}

abbrev of : (b : Start) → Survey
of b = asked b.args.head b.args.levels.now

-- the front of the result buffer is as long as the plate
fits : (b : Start) → b.args.head.width * b.args.head.height ≤ length b.args.res.now
fits b = omega (arith, b.requires.ready.fitting.small, b.requires.max_plate_in_bounds)

pub slice_bounds-res-end : goal.slice_bounds-res-end
slice_bounds-res-end c = fits (goal.at.slice_bounds-res-end c).Start

pub slice_bounds-res-end-2 : goal.slice_bounds-res-end-2
slice_bounds-res-end-2 c = sym (length-take-le _ _ (fits (goal.at.slice_bounds-res-end-2 c).Start))

-- the filter is accepted
is_done : (f : After-filter) → answered f.filter.result ≡ accepted tt
is_done f =
    let b = (goal.at.After-filter f).Start in
    f.filter.ensures.result_value ∙ filter_accepted (of b) f.requires.ready _ _ _ f.requires.ready.fitting.whole (length-take-le _ _ (fits b)) f.requires.max_work_in_bounds

-- so that the front is the filtered plate
plate_is : (f : After-filter) → f.filter.new.res ≡ filtered_plate (of (goal.at.After-filter f).Start)
plate_is f = f.filter.ensures.res_after ∙ done_result f.filter.result _ _ (is_done f)

-- the filtered plate's lines are short
fitted : (b : Start) → Fitting b.args.head.width b.args.head.height (length (filtered_plate (of b)))
fitted b = let h = b.args.head in
    record { good = b.requires.ready.fitting.good; small = b.requires.ready.fitting.small; whole = filtered_length h.setting h.width h.height b.args.levels.now }

shorts : (b : Start) → length (out_text b.args.head.width b.args.head.height (filtered_plate (of b))) ≤ max_out
shorts b = plate_short _ _ _ (fitted b) (filtered_bits _ _ _ _ b.requires.ready.levels)

pub print_plate-requires : goal.print_plate-requires
print_plate-requires c =
    let b = (goal.at.print_plate-requires c).Start in
    let e = plate_is (goal.at.print_plate-requires c).After-filter in
    record {
      wide = (good_size _ _ c.requires.ready.fitting.good).wide;
      levels_len = rw e ((fitted b).whole ∙ mul_comm c.args.head.width c.args.head.height);
      room = rw e (short_room _ max_out _ (shorts b) (omega (arith, c.requires.max_output_in_bounds)));
    }

-- what was printed of the plate
printed : (p : After-print_plate) → let b = (goal.at.After-print_plate p).Start in
    Written (out_text b.args.head.width b.args.head.height (filtered_plate (of b))) b.args.w.now p.print_plate.new.w
printed p = rw (plate_is (goal.at.After-print_plate p).After-filter) at p.print_plate.ensures

pub write_trace-requires : goal.write_trace-requires
write_trace-requires c =
    let d = printed (goal.at.write_trace-requires c).After-print_plate in
    record {
      ready = c.requires.ready;
      max_length_in_bounds = c.requires.max_length_in_bounds;
      max_work_in_bounds = omega (arith, c.filter.auto.work, c.requires.max_work_in_bounds);
      max_trace_in_bounds = short_after _ _ (shorts (goal.at.write_trace-requires c).Start) c.requires.max_output_in_bounds d;
    }

pub returns : goal.returns
returns c =
    let p = (goal.at.returns c).After-print_plate in
    survey_lines (of (goal.at.returns c).Start) c.requires.max_output_in_bounds (record { written = printed p; short = shorts (goal.at.returns c).Start }) c.write_trace.ensures
