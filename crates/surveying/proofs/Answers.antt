-- The whole answer: the plate's lines and the trace's are one write, and what stands at the front of the buffer is the answer to the text.
use Prim.Native.Nat.{ℕ, ◌+◌, ◌^◌, ◌<◌, ◌≤◌}
use mathlib.Core.Path.{◌≡◌, sym, ap, subst, ◌∙◌}
use mathlib.Core.List.{List, [], ◌++◌}
use native.Mathlib.Omega.{arith}
use lib.IntN.{ℤ}
use lib.ListN.{length, take, drop, length-append}
use lib.Seq.{take_at, drop-append-add}
use Rattle.plate.specs.Refusals.{Verdict.accepted, Verdict.refused}
use Rattle.plate.specs.Answers.{number_by}
use Rattle.plate.specs.declared.refusal.Reason.{Reason}
use Rattle.plate.specs.declared.refusal.Refusal.{Refusal}
use Rattle.plate.specs.declared.refusal.Reason.TheVariants.{Size, Length, Gaps, Directions, Mode, Input, Result, Work, Reading, Correction, Place, NoPath, Line, Text, Full, Spent, NoEntry, Ends, Figure, Bounds}
use Rattle.plate.proofs.Sizes.{good_size}
use Rattle.plate.proofs.Verdicts.{clash}
use Rattle.survey_text.specs.Reading.{◌>>=◌}
use Rattle.survey_text.specs.Printing.{out_text, trace_text, refusal_text}
use Rattle.survey_text.specs.Survey.{Survey, requested, traced, filtered_plate, printed, survey_text, answer}
use Rattle.surveying.specs.declared.writing.Writer.{Writer}
use Rattle.surveying.specs.Buffers.{placed, Room, Written}
use Rattle.survey_text.proofs.Verdicts.{accepted_same}
use Rattle.surveying.proofs.Written.{written_length, written_then}
use Rattle.surveying.proofs.Lengths.{out_length, refusal_length_lem}
use Rattle.surveying.specs.Surveying.{max_output, ShowsOf, Surveyed}
use Rattle.surveying.specs.Steps.{max_out, max_trace, Fitting, SixteenBits, WrittenShort, TraceWritten, SurveyWritten}

-- ---- room

pub plate_short : (W H : ℕ) (f : List ℤ) → Fitting W H (length f) → SixteenBits f → length (out_text W H f) ≤ max_out
plate_short W H f fit l =
    let size = good_size W H fit.good in
    out_length W H f l size.wide (omega (arith, size.narrow)) (omega (arith, size.low)) fit.small

-- the table has twenty reasons
number_few : (reason : Reason) → number_by reason ≤ 20
number_few Size = omega arith
number_few Length = omega arith
number_few Gaps = omega arith
number_few Directions = omega arith
number_few Mode = omega arith
number_few Input = omega arith
number_few Result = omega arith
number_few Work = omega arith
number_few Reading = omega arith
number_few Correction = omega arith
number_few Place = omega arith
number_few NoPath = omega arith
number_few Line = omega arith
number_few Text = omega arith
number_few Full = omega arith
number_few Spent = omega arith
number_few NoEntry = omega arith
number_few Ends = omega arith
number_few Figure = omega arith
number_few Bounds = omega arith

pub refusal_short : (r : Refusal) → r.place < 2 ^ 64 → length (refusal_text (number_by r.reason) r.place) ≤ max_trace
refusal_short r p = omega (arith, refusal_length_lem (number_by r.reason) r.place (omega (arith, number_few r.reason)) p)

pub short_room : (text : List ℕ) (most : ℕ) (w : Writer) → length text ≤ most → w.at + most ≤ length w.out.now → Room text w
short_room text most w h k = record { fits = omega arith }

-- behind the plate's lines there is room for the trace's
pub short_after : (text : List ℕ) (w : Writer) {v : Writer} → length text ≤ max_out → w.at + max_output ≤ length w.out.now → Written text w v → v.at + max_trace ≤ length v.out.now
short_after text w h k d = omega (arith, h, k, d.behind, written_length (short_room text max_out w h (omega arith)) d)

-- ---- the answer

pub survey_lines : (v : Survey) {before mid after : Writer} → before.at + max_output ≤ length before.out.now → WrittenShort (out_text v.width v.height (filtered_plate v)) max_out before mid →
    TraceWritten v mid after → SurveyWritten v before after
unfolding survey_text
survey_lines v enough d t =
    let xs = out_text v.width v.height (filtered_plate v) in
    let ys = printed (traced v >>= λ level. accepted (trace_text t.way level t.path)) in
    let n : length (xs ++ ys) ≤ max_output = omega (arith, length-append xs ys, d.short, t.lines.short) in
    record {
      way = t.way;
      path = t.path;
      shows = t.shows;
      lines = record { written = written_then xs ys (record { fits = omega (arith, n, enough) }) d.written t.lines.written; short = n };
    }

-- what was written from the first byte on
module _ {text : List ℕ} {before after : Writer} (first : before.at ≡ 0) (d : Written text before after) where
  count : after.at ≡ length text
  count = omega (arith, d.behind, first)

  holds : after.out.now ≡ text ++ drop (length text) before.out.now
  unfolding placed
  holds = let e : 0 + length text ≡ length text = omega arith in let h = d.holds in rw (first, e) at h

  front : take after.at after.out.now ≡ text
  front = rw holds (take_at text (drop (length text) before.out.now) after.at (sym count))

  inside : after.at ≤ length after.out.now
  inside = omega (arith, count, simp length-append at (ap length holds))

  back : drop after.at after.out.now ≡ drop after.at before.out.now
  back = let e : length text + 0 ≡ length text = omega arith in rw (holds, count) (rw e at (drop-append-add text (drop (length text) before.out.now) 0))

module _ (text : List ℕ) {before after : Writer} (first : before.at ≡ 0) where
  pub surveyed_answer : (v : Survey) → accepted v ≡ requested text → SurveyWritten v before after → Surveyed text before.out.now after.out.now after.at
  unfolding answer
  surveyed_answer v e w =
      record {
        answers = record {
          way = w.way;
          path = w.path;
          shows = λ u level h k.
              let q : v ≡ u = accepted_same v u (e ∙ h) in
              subst (λ (y : Survey). ShowsOf y level w.way w.path) q (w.shows level (subst (λ (y : Survey). traced y ≡ accepted level) (sym q) k));
          prints = rw (← e) (front first w.lines.written);
        };
        rest = back first w.lines.written;
        fits = inside first w.lines.written;
      }

  pub surveyed_refusal : (n p : ℕ) → refused n p ≡ requested text → Written (refusal_text n p) before after → Surveyed text before.out.now after.out.now after.at
  unfolding answer
  surveyed_refusal n p e w =
      record {
        answers = record {
          way = 0;
          path = [];
          shows = λ u level h k. clash (sym (e ∙ h));
          prints = rw (← e) (front first w);
        };
        rest = back first w;
        fits = inside first w;
      }
