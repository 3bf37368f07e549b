-- Cited by the contracts of private functions alone: the answers of the reader's parts, case by case, in the definitions' terms.
use Rattle.std.specs.Prelude.{ℕ, ◌*◌, List, Result, Ok, Err, take}
use Rattle.plate.specs.Answers.{number_by}
use Rattle.plate.specs.Refusals.{Verdict, Verdict.accepted, Verdict.refused}
use Rattle.plate.specs.declared.refusal.Refusal.{Refusal}
use Rattle.survey_text.specs.Reading.{PlateText}
use Rattle.survey_text.specs.declared.reading.Header.{Header}

-- what the head of a text says, with its readings and its words
abbrev pub with_lists : Header → List ℕ → List ℕ → PlateText
with_lists h rs ws = record { width = h.width; height = h.height; setting = h.setting; at = h.at; readings = rs; words = ws }

-- the lent buffers hold the readings and the words at their front
abbrev pub reading_told : List ℕ → List ℕ → Result Header Refusal → Verdict PlateText
reading_told readings words (Ok h) = let n = h.width * h.height in accepted (with_lists h (take n readings) (take n words))
reading_told readings words (Err r) = refused (number_by r.reason) r.place

-- whether it is accepted
abbrev pub outcome : {A : Type 0} → Verdict A → Verdict Unit
outcome (accepted a) = accepted tt
outcome (refused number place) = refused number place
