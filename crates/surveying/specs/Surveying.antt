-- Document 01, section 6: the survey as one function from text to text. The first bytes of the lent array are the answer, and the trace in it shows
-- what section 4 asks.
use Rattle.std.specs.Prelude.{ℕ, ◌≤◌, ◌≡◌, List, ℤ, length, take, drop}
use Rattle.theory.specs.Trace.{Shows}
use Rattle.survey_text.specs.Survey.{Survey, Answered}

-- the longest answer, in bytes
abbrev pub max_output : ℕ
max_output = 16384

-- what the trace of a survey shows
abbrev pub ShowsOf : Survey → ℤ → ℕ → List ℕ → Type 0
ShowsOf v level way path = Shows v.setting v.width v.height v.levels v.at way level path

pub record Surveyed (text before after : List ℕ) (count : ℕ) : Type 0 where
  -- the lent array begins with the answer ..
  pub answers : Answered ShowsOf text (take count after)
  -- .. and is as it was behind it
  pub rest : drop count after ≡ drop count before
  pub fits : count ≤ length after
