-- Document 01, section 6: what the program prints for a text. "Text length is judged first, .. then the other lines, then correction, filter, trace."
-- Which path an accepted trace shows is free, and with it the way: the two are parameters here.
use Rattle.std.specs.Prelude.{ℕ, ◌+◌, ◌*◌, ◌≡◌, List, ◌++◌, ℤ}
use Rattle.plate.specs.Levels.{corrected_plate}
use Rattle.plate.specs.Opening.{filtered}
use Rattle.plate.specs.Refusals.{Verdict, Verdict.accepted, Verdict.refused, correction_verdict, setting_verdict, trace_verdict}
use Rattle.plate.specs.declared.setting.Setting.{Setting}
use Rattle.survey_text.specs.Reading.{◌>>=◌, PlateText, reading}
use Rattle.survey_text.specs.Printing.{out_text, trace_text, refusal_text}

-- what a text asks for: a plate of corrected levels is filtered by a setting and traced at a pixel
pub record Survey : Type 0 where
  pub width : ℕ
  pub height : ℕ
  pub setting : Setting
  pub at : ℕ
  pub levels : List ℤ

-- what was read is corrected (9, 10), and its setting is made (2 to 5, 18)
unfoldable pub prepared : PlateText → Verdict Survey
prepared t = do
  let W = t.width
  let H = t.height
  _ ← correction_verdict W H t.readings t.words (W * H)
  s ← setting_verdict t.setting
  accepted (record { width = W; height = H; setting = s; at = t.at; levels = corrected_plate t.readings t.words })

-- the text is read, and judged further
unfoldable pub requested : List ℕ → Verdict Survey
requested text = reading text >>= prepared

-- the filtered plate
abbrev pub filtered_plate : Survey → List ℤ
filtered_plate v = filtered v.setting v.width v.height v.levels

-- the trace (11, 12), with path and work buffers of the sizes that it asks for; accepted, it returns the filtered level
abbrev pub traced : Survey → Verdict ℤ
traced v =
    let s = v.setting in
    trace_verdict v.width v.height s v.levels v.at s.length (4 * (s.gaps + 1) * (v.width * v.height))

-- "A refusal prints the lines `refused=` and `place=` and nothing else"
abbrev pub printed : Verdict (List ℕ) → List ℕ
printed (accepted text) = text
printed (refused number place) = refusal_text number place

-- "but 11 and 12 are printed after the size and `out=` lines"
unfoldable pub survey_text : Survey → ℕ → List ℕ → List ℕ
survey_text v way path =
    out_text v.width v.height (filtered_plate v)
    ++ printed (traced v >>= λ level. accepted (trace_text way level path))

-- the whole answer
unfoldable pub answer : List ℕ → ℕ → List ℕ → List ℕ
answer text way path = printed (requested text >>= λ v. accepted (survey_text v way path))

-- what is prepared of the text that the program writes: it is the answer, with a way and a path that section 4 allows (`Shows`) where a trace is
-- accepted with this level
pub record Answered (Shows : Survey → ℤ → ℕ → List ℕ → Type 0) (text written : List ℕ) : Type 0 where
  pub way : ℕ
  pub path : List ℕ
  pub shows : (v : Survey) (level : ℤ) → requested text ≡ accepted v → traced v ≡ accepted level → Shows v level way path
  pub prints : written ≡ answer text way path
