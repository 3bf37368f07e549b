-- `write_traced` prints what the trace answered; the places of its path are below the largest plate's pixels, so that there is room.
use native.Mathlib.Omega.{arith}
use Prim.Native.Nat.{◌≤◌}
use mathlib.Core.Path.{subst}
use lib.ListN.{length}
use Rattle.std.specs.Prelude.{Result, Ok}
use Rattle.plate.specs.Answers.{number_by}
use Rattle.plate.specs.declared.answer.Trace.{Trace}
use Rattle.plate.specs.declared.refusal.Refusal.{Refusal}
use Rattle.survey_text.specs.Printing.{trace_text, refusal_text}
use Rattle.surveying.specs.Steps.{max_trace, OnPlate}
use Rattle.surveying.proofs.Lengths.{trace_length}
use Rattle.surveying.proofs.Answers.{refusal_short, short_room}
use Rattle.surveying.proofs.traced.write_traced.Goals as goal
use Rattle.surveying.proofs.traced.write_traced.Goals.{In-Ok, In-Err}

-- the lines of a path are short
on_plate : (k : In-Ok) → OnPlate (Ok k.in-Ok.trace) k.args.path.now
on_plate k = subst (λ (r : Result Trace Refusal). OnPlate r k.args.path.now) k.in-Ok.is k.requires.on_plate

path_short : (k : In-Ok) → length (trace_text k.in-Ok.trace.direction k.in-Ok.trace.level k.args.path.now) ≤ max_trace
path_short k =
    let trace = k.in-Ok.trace in
    trace_length trace.direction trace.level k.args.path.now (omega arith) (omega arith) (λ i l. omega (arith, on_plate k i l)) (omega (arith, k.requires.path_len_bound))

pub print_trace-requires : goal.print_trace-requires
print_trace-requires c = short_room _ max_trace _ (path_short (goal.at.print_trace-requires c).In-Ok) c.requires.max_trace_in_bounds

-- and so are those of a refusal
refused_short : (k : In-Err) → length (refusal_text (number_by k.in-Err.refusal.reason) k.in-Err.refusal.place) ≤ max_trace
refused_short k = refusal_short k.in-Err.refusal (omega arith)

pub print_refusal-requires : goal.print_refusal-requires
print_refusal-requires c = short_room _ max_trace _ (refused_short (goal.at.print_refusal-requires c).In-Err) (omega (arith, c.requires.max_trace_in_bounds))

pub returns-in-Ok : goal.returns-in-Ok
returns-in-Ok c = rw c.in-Ok.is (record { written = c.print_trace.ensures; short = path_short (goal.at.returns-in-Ok c).In-Ok })

pub returns-in-Err : goal.returns-in-Err
returns-in-Err c = rw c.in-Err.is (record { written = c.print_refusal.ensures; short = refused_short (goal.at.returns-in-Err c).In-Err })
