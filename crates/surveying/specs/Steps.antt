-- Cited by the contracts of private functions alone: what a survey has to fulfil before the filter and the trace, and what was written of its answer.
use Rattle.std.specs.Prelude.{ℕ, ◌*◌, ◌≤◌, ◌<◌, ◌≡◌, false, List, ℤ, pos, Result, Ok, Err, length, get_or}
use Rattle.std.specs.Int.Signed.{mag}
use Rattle.plate.specs.Refusals.{Verdict.accepted, bad_size, setting_verdict}
use Rattle.plate.specs.Answers.{number_by}
use Rattle.plate.specs.declared.answer.Trace.{Trace}
use Rattle.plate.specs.declared.refusal.Refusal.{Refusal}
use Rattle.survey_text.specs.Reading.{◌>>=◌, max_plate}
use Rattle.survey_text.specs.Printing.{trace_text, refusal_text}
use Rattle.survey_text.specs.Survey.{Survey, traced, printed, survey_text}
use Rattle.surveying.specs.Buffers.{Written}
use Rattle.surveying.specs.declared.writing.Writer.{Writer}
use Rattle.survey_text.specs.declared.reading.Header.{Header}
use Rattle.surveying.specs.Surveying.{max_output, ShowsOf}

-- numbers of work for the largest plate and the most gaps
abbrev pub max_work : ℕ
max_work = 18432

-- the longest lines of a plate, of a trace and of a refusal, in bytes
abbrev pub max_out : ℕ
max_out = 6169

abbrev pub max_trace : ℕ
max_trace = 6188

abbrev pub max_refusal : ℕ
max_refusal = 56

-- what a head asks for, of these levels
abbrev pub asked : Header → List ℤ → Survey
asked h f = record { width = h.width; height = h.height; setting = h.setting; at = h.at; levels = f }

-- the size is good, small, and that of so many levels
pub record Fitting (W H count : ℕ) : Type 0 where
  pub good : bad_size W H ≡ false
  pub small : W * H ≤ max_plate
  pub whole : count ≡ W * H

-- every level has 16 bits
pub record SixteenBits (f : List ℤ) : Type 0 where
  pub each : (p : ℕ) → p < length f → mag (get_or f p (pos 0)) < 32768

-- a survey that passed reading, correction and setting
pub record Ready (v : Survey) : Type 0 where
  pub fitting : Fitting v.width v.height (length v.levels)
  pub levels : SixteenBits v.levels
  pub valid : setting_verdict v.setting ≡ accepted v.setting

-- the lines of a trace's answer
abbrev pub traced_text : Result Trace Refusal → List ℕ → List ℕ
traced_text (Ok trace) path = trace_text trace.direction trace.level path
traced_text (Err r) path = refusal_text (number_by r.reason) r.place

-- the places of a path that is shown are on the largest plate
abbrev pub OnPlate : Result Trace Refusal → List ℕ → Type 0
OnPlate (Ok _) path = (i : ℕ) → i < length path → get_or path i 0 < max_plate
OnPlate (Err _) path = Unit

-- a text of at most so many bytes was written
pub record WrittenShort (text : List ℕ) (most : ℕ) (before after : Writer) : Type 0 where
  pub written : Written text before after
  pub short : length text ≤ most

-- the trace's lines of a survey, with a way and a path that it may show
pub record TraceWritten (v : Survey) (before after : Writer) : Type 0 where
  pub way : ℕ
  pub path : List ℕ
  pub shows : (level : ℤ) → traced v ≡ accepted level → ShowsOf v level way path
  pub lines : WrittenShort (printed (traced v >>= λ level. accepted (trace_text way level path))) max_trace before after

-- all lines of a survey
pub record SurveyWritten (v : Survey) (before after : Writer) : Type 0 where
  pub way : ℕ
  pub path : List ℕ
  pub shows : (level : ℤ) → traced v ≡ accepted level → ShowsOf v level way path
  pub lines : WrittenShort (survey_text v way path) max_output before after
