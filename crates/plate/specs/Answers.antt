-- What calls answer, case by case, in document 01's numbers and values.
use Rattle.std.specs.Prelude.{ℕ, ◌*◌, ◌≡◌, true, false, cond, List, ℤ, Option, Some, None, Result, Ok, Err}
use Rattle.plate.specs.RefusalNumbers.{refusal_size, refusal_length, refusal_gaps, refusal_directions, refusal_mode, refusal_input, refusal_result, refusal_work, refusal_reading, refusal_correction, refusal_place, refusal_no_path, refusal_line, refusal_large, refusal_full, refusal_spent, refusal_no_entry, refusal_ends, refusal_figure, refusal_bounds}
use Rattle.plate.specs.Paths.{Reached, Reached.at, Reached.leaves, numbered_step}
use Rattle.plate.specs.Refusals.{Verdict, Verdict.accepted, Verdict.refused, Check, row, judged, bad_size, filter_checks}
use Rattle.plate.specs.declared.refusal.Reason.{Reason}
use Rattle.plate.specs.declared.refusal.Reason.TheVariants.{Size, Length, Gaps, Directions, Mode, Input, Result as ResultLength, Work, Reading, Correction, Place, NoPath, Line, Text, Full, Spent, NoEntry, Ends, Figure, Bounds}
use Rattle.plate.specs.declared.refusal.Refusal.{Refusal}
use Rattle.plate.specs.declared.setting.Setting.{Setting}
use Rattle.plate.specs.declared.call.Fills.{Fills}
use Rattle.plate.specs.declared.call.Fills.TheVariants.{Result as Levels, Path as Places}
use Rattle.plate.specs.declared.call.Lent.{Lent}
use Rattle.plate.specs.declared.answer.Trace.{Trace}
use Rattle.plate.specs.declared.walker.Walker.{Walker}

-- the number of a reason in the refusal table
abbrev pub number_by : Reason → ℕ
number_by Size = refusal_size
number_by Length = refusal_length
number_by Gaps = refusal_gaps
number_by Directions = refusal_directions
number_by Mode = refusal_mode
number_by Input = refusal_input
number_by ResultLength = refusal_result
number_by Work = refusal_work
number_by Reading = refusal_reading
number_by Correction = refusal_correction
number_by Place = refusal_place
number_by NoPath = refusal_no_path
number_by Line = refusal_line
number_by Text = refusal_large
number_by Full = refusal_full
number_by Spent = refusal_spent
number_by NoEntry = refusal_no_entry
number_by Ends = refusal_ends
number_by Figure = refusal_figure
number_by Bounds = refusal_bounds

-- what a call comes to that answers a value or a refusal
abbrev pub told : {A : Type 0} → Result A Refusal → Verdict A
told (Ok a) = accepted a
told (Err r) = refused (number_by r.reason) r.place

-- making a setting
abbrev pub made : Result Setting Refusal → Verdict Setting
made = told

-- a call that fills a lent result
abbrev pub answered : Result Unit Refusal → Verdict Unit
answered = told

-- a check of the code: at no place, or at the place that was found
abbrev pub placed_check : Reason → Option ℕ → Check
placed_check reason None = row (number_by reason) false 0
placed_check reason (Some place) = row (number_by reason) true place

-- the length that check 7 asks for: a result has a number for each pixel, a path has L places
abbrev pub wanted_for : ℕ → ℕ → Fills → ℕ
wanted_for pixels L Levels = pixels
wanted_for pixels L Places = L

-- checks 1 to 8 of a call, by the lengths of what it is lent
unfoldable pub call_verdict : ℕ → ℕ → Setting → Lent → Verdict Unit
call_verdict W H s lent =
    judged (filter_checks W H s lent.input (wanted_for (W * H) s.length lent.fills) lent.filled lent.work) tt

-- what the lent result then holds: the new levels, or after a refusal what it held before
abbrev pub result_after : Result Unit Refusal → List ℤ → List ℤ → List ℤ
result_after (Ok _) new old = new
result_after (Err _) new old = old

-- a lent work buffer: after a refusal it is as it was, and after an accepted call its contents are free
abbrev pub WorkAfter : Result Unit Refusal → List ℕ → List ℕ → Type 0
WorkAfter (Ok _) old new = Unit
WorkAfter (Err _) old new = new ≡ old

-- a trace: the level that it returns; which path is shown, and with it the direction, is free
abbrev pub traced_level : Result Trace Refusal → Verdict ℤ
traced_level (Ok trace) = accepted trace.level
traced_level (Err r) = refused (number_by r.reason) r.place

-- a trace's lent buffers: after a refusal both are as they were; after a path is shown, the path buffer holds one of which `shown` is true, by its
-- direction, its level and its places, and the work buffer's contents are free
abbrev pub TraceAfter : Result Trace Refusal → (ℕ → ℤ → List ℕ → Type 0) → (path path' work work' : List ℕ) → Type 0
TraceAfter (Ok trace) shown path path' work work' = shown trace.direction trace.level path'
TraceAfter (Err r) shown path path' work work' = (path' ≡ path) × (work' ≡ work)

-- the walker as it was, at another place
abbrev pub moved : Walker → Reached → Option Walker
moved w (at q) = Some (record { width = w.width; height = w.height; direction = w.direction; place = q })
moved w leaves = None

-- the numbered step of a walker; on sizes that refusal 1 forbids every step leaves
unfoldable pub walked : Walker → ℕ → Option Walker
walked w number =
    moved w (cond (bad_size w.width w.height) leaves (numbered_step w.width w.height w.direction number w.place))
