-- Document 01, section 5: the refusal table, with document 02's refusal 18 between 5 and 6. Each row is a check, and each call runs its checks in the
-- table's order.
use Rattle.std.specs.Prelude.{ℕ, ◌+◌, ◌*◌, ◌≡◌, Bool, false, cond, not, ◌||◌, List, [], ◌∷◌, ◌++◌, ltb, leb, eqb, length, ℤ}
use Rattle.std.specs.Int.Signed.{lt_z}
use Rattle.basics.specs.Lists.{first_of}
use Rattle.plate.specs.Limits.{max_side, max_pixels, max_reading, min_correction, max_correction, max_length, max_gaps, max_directions, max_mode, max_ends}
use Rattle.plate.specs.RefusalNumbers.{refusal_size, refusal_length, refusal_gaps, refusal_directions, refusal_mode, refusal_ends, refusal_input, refusal_result, refusal_work, refusal_reading, refusal_correction, refusal_place, refusal_no_path}
use Rattle.plate.specs.Levels.{signed}
use Rattle.plate.specs.Paths.{crossed}
use Rattle.plate.specs.Opening.{level_at, filtered}
use Rattle.plate.specs.declared.setting.Setting.{Setting}

-- what a call comes to: it is accepted, with what it returns, or refused with a number and a place
pub data Verdict (A : Type 0) : Type 0 where
  accepted : A → Verdict A
  refused : ℕ → ℕ → Verdict A

-- a row of the table: does it refuse, and with which number and place?
pub record Check : Type 0 where
  pub refuses : Bool
  pub number : ℕ
  pub place : ℕ

abbrev pub row : ℕ → Bool → ℕ → Check
row number refuses place = record { refuses = refuses; number = number; place = place }

-- the first check that refuses decides; where none does, the call is accepted and returns a
unfoldable pub judged : {A : Type 0} → List Check → A → Verdict A
judged [] a = accepted a
judged (c ∷ cs) a = cond c.refuses (refused c.number c.place) (judged cs a)

-- what an accepted call promises; a refused one promises nothing of this kind
abbrev pub IfAccepted : {A : Type 0} → Verdict A → Type 0 → Type 0
IfAccepted (accepted a) promise = promise
IfAccepted (refused number place) promise = Unit

-- none of the checks refuses
abbrev pub Clear : List Check → Type 0
Clear [] = Unit
Clear (c ∷ cs) = (c.refuses ≡ false) × Clear cs

-- ---- the rows

-- W or H is 0 or above 1,024, or W × H above 65,536
unfoldable pub bad_size : ℕ → ℕ → Bool
bad_size W H = eqb W 0 || ltb max_side W || eqb H 0 || ltb max_side H || ltb max_pixels (W * H)

abbrev pub size_check : ℕ → ℕ → Check
size_check W H = row refusal_size (bad_size W H) 0

-- L is 0 or above 1,024
unfoldable pub bad_length : ℕ → Bool
bad_length L = eqb L 0 || ltb max_length L

-- k above 8, or k not less than L
unfoldable pub bad_gaps : ℕ → ℕ → Bool
bad_gaps k L = ltb max_gaps k || leb L k

-- ways 0 or above 15
unfoldable pub bad_directions : ℕ → Bool
bad_directions set = eqb set 0 || ltb max_directions set

-- mode above 1
unfoldable pub bad_mode : ℕ → Bool
bad_mode mode = ltb max_mode mode

-- ends above 1 (document 02, N5)
unfoldable pub bad_ends : ℕ → Bool
bad_ends ends = ltb max_ends ends

-- an input buffer hasn't exactly W × H numbers
abbrev pub input_check : ℕ → ℕ → Check
input_check pixels room = row refusal_input (not (eqb room pixels)) 0

-- result not exactly W × H numbers, or path buffer not exactly L
abbrev pub result_check : ℕ → ℕ → Check
result_check wanted room = row refusal_result (not (eqb room wanted)) 0

-- work under 4 × (k + 1) × W × H numbers
abbrev pub work_check : ℕ → ℕ → ℕ → Check
work_check k pixels room = row refusal_work (ltb room (4 * (k + 1) * pixels)) 0

-- a reading above the largest, with the first such place
unfoldable pub bad_reading : ℕ → Bool
bad_reading reading = ltb max_reading reading

abbrev pub readings_check : List ℕ → Check
readings_check readings = row refusal_reading (ltb (first_of bad_reading readings) (length readings)) (first_of bad_reading readings)

-- a correction out of bounds, with the first such place
unfoldable pub bad_correction : ℕ → Bool
bad_correction word = lt_z (signed word) min_correction || lt_z max_correction (signed word)

abbrev pub corrections_check : List ℕ → Check
corrections_check words = row refusal_correction (ltb (first_of bad_correction words) (length words)) (first_of bad_correction words)

-- trace place not below W × H
abbrev pub place_check : ℕ → ℕ → Check
place_check pixels x = row refusal_place (leb pixels x) 0

-- no path of length L through the pixel
abbrev pub path_check : Bool → Check
path_check crossed = row refusal_no_path (not crossed) 0

-- ---- the calls

abbrev pub setting_checks : Setting → List Check
setting_checks s =
    row refusal_length (bad_length s.length) 0
    ∷ row refusal_gaps (bad_gaps s.gaps s.length) 0
    ∷ row refusal_directions (bad_directions s.directions) 0
    ∷ row refusal_mode (bad_mode s.mode) 0
    ∷ row refusal_ends (bad_ends s.ends) 0
    ∷ []

-- making a setting: 2 to 5, 18
unfoldable pub setting_verdict : Setting → Verdict Setting
setting_verdict s = judged (setting_checks s) s

-- correction: 1, 6, 7, 9, 10, the result having room for so many levels
unfoldable pub correction_verdict : ℕ → ℕ → List ℕ → List ℕ → ℕ → Verdict Unit
correction_verdict W H readings words room =
    judged
    (size_check W H
    ∷ input_check (W * H) (length readings)
    ∷ input_check (W * H) (length words)
    ∷ result_check (W * H) room
    ∷ readings_check readings
    ∷ corrections_check words
    ∷ [])
    tt

-- filters: 1 to 5, 18, 6 to 8, with the lengths of plate, result and work, and how many numbers the result has to have
abbrev pub filter_checks : ℕ → ℕ → Setting → ℕ → ℕ → ℕ → ℕ → List Check
filter_checks W H s plate wanted room work =
    size_check W H
    ∷ setting_checks s
    ++ (input_check (W * H) plate ∷ result_check wanted room ∷ work_check s.gaps (W * H) work ∷ [])

unfoldable pub filter_verdict : ℕ → ℕ → Setting → ℕ → ℕ → ℕ → Verdict Unit
filter_verdict W H s plate room work = judged (filter_checks W H s plate (W * H) room work) tt

-- the trace: the same, 11, 12, with the length of the plate, the traced place x and the lengths of path and work
abbrev pub trace_checks : ℕ → ℕ → Setting → ℕ → ℕ → ℕ → ℕ → List Check
trace_checks W H s plate x room work =
    filter_checks W H s plate s.length room work
    ++ (place_check (W * H) x ∷ path_check (crossed W H s.directions s.length x) ∷ [])

-- accepted, it returns the filtered level at x
unfoldable pub trace_verdict : ℕ → ℕ → Setting → List ℤ → ℕ → ℕ → ℕ → Verdict ℤ
trace_verdict W H s f x room work = judged (trace_checks W H s (length f) x room work) (level_at (filtered s W H f) x)
