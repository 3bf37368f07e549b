-- Cited by the contracts of private functions alone: what the reader's steps answer, in the definitions' terms.
use Rattle.std.specs.Prelude.{ℕ, ◌≡◌, List, Option, Result, Ok, Err, drop}
use denote.Param.Members.{Shared}
use mathlib.Core.Option.{Option as Maybe}
use Rattle.std.specs.Borrow.{Bor}
use Rattle.std.specs.Fn.{FnReturnsAt}
use Rattle.plate.specs.Answers.{number_by}
use Rattle.plate.specs.Refusals.{Verdict, Verdict.accepted, Verdict.refused}
use Rattle.plate.specs.declared.refusal.Refusal.{Refusal}
use Rattle.text_lines.specs.Answers.{number_read}
use Rattle.survey_text.specs.Reading.{Rest}
use Rattle.survey_text.specs.declared.cursor.Cursor.{Cursor}

-- what is left from a cursor on
abbrev pub rest_of : Cursor → Rest
rest_of c = record { line = c.line; bytes = drop c.from c.text.now }

-- the cursor at the first line, or a refusal
abbrev pub opened_told : Result Cursor Refusal → Verdict Rest
opened_told (Ok c) = accepted (rest_of c)
opened_told (Err r) = refused (number_by r.reason) r.place

-- what was read, and the cursor behind it; or a refusal
abbrev pub step_told : {A : Type 0} → Result (A × Cursor) Refusal → Verdict (A × Rest)
step_told (Ok a) = accepted (a.0, rest_of a.1)
step_told (Err r) = refused (number_by r.reason) r.place

-- the same of a part of the text
abbrev pub value_told : Result (Bor (List ℕ) × Cursor) Refusal → Verdict (List ℕ × Rest)
value_told (Ok a) = accepted (a.0.now, rest_of a.1)
value_told (Err r) = refused (number_by r.reason) r.place

-- the same of what a lent buffer holds
abbrev pub filled_told : List ℕ → Result Cursor Refusal → Verdict (List ℕ × Rest)
filled_told out (Ok c) = accepted (out, rest_of c)
filled_told out (Err r) = refused (number_by r.reason) r.place

-- the same at the end, where nothing is left
abbrev pub all_told : {A : Type 0} → A → Result Unit Refusal → Verdict A
all_told a (Ok _) = accepted a
all_told a (Err r) = refused (number_by r.reason) r.place

-- what `read` answers at bytes is what this form makes of them
abbrev pub Reads : {F : Type 0} → Shared F (Bor (List ℕ) × Unit {0}) (Option ℕ) → F → (List ℕ → Maybe ℕ) → Type 0
Reads g read form = (bytes : List ℕ) (o : Option ℕ) → FnReturnsAt g read bytes o → number_read o ≡ form bytes
