-- What `request` answers and what it leaves in the lent array, in the definitions' terms.
use Rattle.std.specs.Prelude.{◌*◌, List, ◌++◌, ℤ, Result, Ok, Err, length, take, drop}
use Rattle.plate.specs.Answers.{number_by}
use Rattle.plate.specs.Refusals.{Verdict, Verdict.accepted, Verdict.refused}
use Rattle.plate.specs.declared.refusal.Refusal.{Refusal}
use Rattle.survey_text.specs.Survey.{Survey}
use Rattle.survey_text.specs.declared.reading.Header.{Header}

-- the lent array holds the corrected levels at its front
abbrev pub request_told : List ℤ → Result Header Refusal → Verdict Survey
request_told levels (Ok h) =
    accepted (record {
      width = h.width;
      height = h.height;
      setting = h.setting;
      at = h.at;
      levels = take (h.width * h.height) levels;
    })
request_told levels (Err r) = refused (number_by r.reason) r.place

-- the lent array after a request: the levels of an accepted one, and behind them what was there; as it was where the request is refused
abbrev pub levels_after : Verdict Survey → List ℤ → List ℤ
levels_after (accepted v) before = v.levels ++ drop (length v.levels) before
levels_after (refused number place) before = before
