-- `survey`: what `request` answers decides; the refusal or the answer is written from the first byte on.
use native.Mathlib.Omega.{arith}
use Prim.Native.Nat.{◌*◌, ◌≤◌}
use mathlib.Core.Path.{◌≡◌, refl, sym, ap, ◌∙◌}
use lib.ListN.{length, take, length-take}
use lib.Seq.{length-take-le}
use Rattle.plate.specs.Answers.{number_by}
use Rattle.plate.specs.Refusals.{Verdict.accepted}
use Rattle.survey_text.specs.Reading.{max_plate}
use Rattle.survey_text.specs.Printing.{refusal_text}
use Rattle.survey_text.specs.Survey.{requested}
use Rattle.surveying.specs.Steps.{max_trace, asked}
use Rattle.surveying.proofs.Asked.{requested_ready}
use Rattle.surveying.proofs.Answers.{refusal_short, short_room, surveyed_answer, surveyed_refusal}
use borrow.Author.Rules.{rules}
use Rattle.surveying.proofs.survey.Goals as goal
use Rattle.surveying.specs.declared.writing.Writer.{Writer}
use Rattle.surveying.proofs.survey.Goals.{In-Ok, In-Err, in-Ok, in-Err}

-- a refusal's lines are short
refused_short : (k : In-Err) → length (refusal_text (number_by k.in-Err.refusal.reason) k.in-Err.refusal.place) ≤ max_trace
refused_short k = refusal_short k.in-Err.refusal (omega arith)

-- what was asked
was_asked : (g : In-Ok) → let h = g.in-Ok.head in
    accepted (asked h (take (h.width * h.height) g.request-got.new.levels)) ≡ requested g.args.text.now
was_asked g = rw g.in-Ok.is at g.request-got.ensures.result_after

-- its plate is small, and fits the buffer
small : (g : In-Ok) → g.in-Ok.head.width * g.in-Ok.head.height ≤ max_plate
small g = (requested_ready _ _ (was_asked g)).fitting.small

levels_fit : (g : In-Ok) → g.in-Ok.head.width * g.in-Ok.head.height ≤ length g.request-got.new.levels
levels_fit g = let t = simp length-take at (requested_ready _ _ (was_asked g)).fitting.whole in omega (arith, t)

pub print_refusal-requires : goal.print_refusal-requires
print_refusal-requires c = short_room _ max_trace _ (refused_short (goal.at.print_refusal-requires c).In-Err) (omega arith)

pub overflow_mul-levels : goal.overflow_mul-levels
overflow_mul-levels c = record { fits = omega (arith, small (goal.at.overflow_mul-levels c).In-Ok) }

pub slice_bounds-levels-end : goal.slice_bounds-levels-end
slice_bounds-levels-end c = levels_fit (goal.at.slice_bounds-levels-end c).In-Ok

pub slice_bounds-answer-end : goal.slice_bounds-answer-end
slice_bounds-answer-end c = sym (length-take-le _ _ (levels_fit (goal.at.slice_bounds-answer-end c).In-Ok))

pub answer-requires : goal.answer-requires
answer-requires c = record { ready = requested_ready _ _ (was_asked (goal.at.answer-requires c).In-Ok); max_output_in_bounds = search rules }

-- the writer lends the same buffer to the end
pub shape_of-out : goal.shape_of-out
shape_of-out c =
    elim c.match-got.branch [
      | in-Err w ↦ sym (ap (λ (v : Writer). v.out.ghost_name) w.w-is ∙ w.print_refusal.ensures.same)
      | in-Ok w ↦ sym (ap (λ (v : Writer). v.out.ghost_name) w.w-is ∙ w.answer.ensures.lines.written.same)
    ]

pub returns : goal.returns
returns c =
    elim c.match-got.branch [
      | in-Err w ↦ rw w.w-is (surveyed_refusal _ refl _ _ (rw w.in-Err.is at c.request-got.ensures.result_after) w.print_refusal.ensures)
      | in-Ok w ↦ rw w.w-is (surveyed_answer _ refl _ (rw w.in-Ok.is at c.request-got.ensures.result_after) w.answer.ensures)
    ]
