-- `enter_trace` meets its contract: all checks have decided before the first store, so a refusal leaves both lent buffers and the book as they were; and
-- once they have passed the trace is accepted, by its own contract, and the book takes what it has found.
use mathlib.Core.Path.{refl, ◌∙◌}
use lib.ListN.{length}
use Rattle.plate.specs.Refusals.{Clear}
use Rattle.entering.specs.Refusals.{enter_trace_checks}
use Rattle.entering.proofs.Deciding.{refuses, passes, as_traced, book_takes}
use Rattle.entering.proofs.enter_trace.Goals as goal
use Rattle.entering.proofs.enter_trace.Goals.{In_default}

-- past the refusal all checks have passed
clear : (c : In_default) → let a = c.args in Clear (enter_trace_checks a.width a.height a.setting (length a.plate.now) a.pixel a.book (length a.path.now) (length a.work.now))
clear c = passes _ _ _ c.args.plate.now _ _ _ _ c.in_default.ensures

-- a refusal, after what it has left: an engine that has stored something before it refuses fails there first
leaving : {A B C : Type 0} → B → C → A → A × (B × C)
leaving lent book refusal = (refusal, (lent, book))

pub returns-in-Err : goal.returns-in-Err
returns-in-Err c =
    let told = leaving (refl, refl) refl (refuses _ _ _ _ _ _ _ _ c.in-Err.ensures) in record { traced_value = told.0; trace_after = told.1.0; book_value = told.1.1 }

pub book_after-after-requires : goal.book_after-after-requires
book_after-after-requires c = rw c.key_of.ensures (book_takes _ _ _ c.args.plate.now _ _ _ _ (clear (goal.at.book_after-after-requires c).In_default))

pub returns : goal.returns
returns c =
    record { traced_value = c.trace-traced.ensures.result_value ∙ as_traced _ _ _ _ _ _ _ _ (clear (goal.at.returns c).In_default); trace_after = c.trace-traced.ensures.trace_after; book_value = rw c.key_of.ensures at c.book_after-after.ensures }
