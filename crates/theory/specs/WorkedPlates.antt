-- Document 01, section 7: the worked plates marked P, as one table, P2's refused trace in it; and those of document 02: N5's, with both values of `ends`, and N7's, each of
-- which is the lowest or the highest plate of a pair.
-- proofs/WorkedPlates.antt shows that the definitions give these values.
use Rattle.std.specs.Prelude.{ℕ, ◌+◌, ◌*◌, Bool, true, false, ◌&&◌, List, [], ◌∷◌, eqb, ℤ, pos, negsuc}
use Rattle.plate.specs.Opening.{filtered}
use Rattle.plate.specs.Refusals.{Verdict, Verdict.accepted, Verdict.refused, trace_verdict}
use Rattle.plate.specs.declared.setting.Setting.{Setting}

-- a plate of W columns and H rows with what its filter gives by a setting; or a place of it at which the trace is refused, and the number
pub data Worked : Type 0 where
  filters : Setting → (W H : ℕ) → List ℤ → List ℤ → Worked
  refuses : Setting → (W H : ℕ) → List ℤ → ℕ → ℕ → Worked

abbrev setting : ℕ → ℕ → ℕ → ℕ → Setting
setting mode directions L k = record { length = L; gaps = k; directions = directions; mode = mode; ends = 0 }

-- the same where a path must end on crack
abbrev crack_ended : Setting → Setting
crack_ended s = record { length = s.length; gaps = s.gaps; directions = s.directions; mode = s.mode; ends = 1 }

abbrev opening : ℕ
opening = 0

abbrev closing : ℕ
closing = 1

abbrev north : ℕ
north = 1

abbrev east : ℕ
east = 2

abbrev north_east : ℕ
north_east = 4

abbrev south_east : ℕ
south_east = 8

-- where section 7 names no way
abbrev all_four : ℕ
all_four = 15

-- −32,768 and 32,767
abbrev low : ℤ
low = negsuc 32767

abbrev high : ℤ
high = pos 32767

-- the plate 9,5,12,8 of one row, and the rows 1,9 and 9,1
abbrev Q : List ℤ
Q = pos 9 ∷ pos 5 ∷ pos 12 ∷ pos 8 ∷ []

abbrev X : List ℤ
X = pos 1 ∷ pos 9 ∷ pos 9 ∷ pos 1 ∷ []

-- N5's rows: one whose first pixel is the gap, the same for closing, and one with gaps inside and at its end
abbrev gap_first : List ℤ
gap_first = pos 5 ∷ pos 9 ∷ pos 12 ∷ pos 8 ∷ []

abbrev gap_first_dark : List ℤ
gap_first_dark = pos 12 ∷ pos 5 ∷ pos 9 ∷ pos 8 ∷ []

abbrev two_gaps : List ℤ
two_gaps = pos 9 ∷ pos 1 ∷ pos 9 ∷ pos 9 ∷ pos 1 ∷ []

-- N7's highest plates, of which Q and gap_first are the lowest
abbrev Q_high : List ℤ
Q_high = pos 9 ∷ pos 6 ∷ pos 12 ∷ pos 9 ∷ []

abbrev gap_first_high : List ℤ
gap_first_high = pos 7 ∷ pos 9 ∷ pos 13 ∷ pos 8 ∷ []

-- P2 gives its one pixel no level
abbrev one_pixel : List ℤ
one_pixel = pos 3 ∷ []

unfoldable pub worked_plates : List Worked
worked_plates =
    filters (setting opening all_four 1 0) 1 1 (negsuc 6 ∷ []) (negsuc 6 ∷ [])  -- P1
    ∷ filters (setting opening all_four 2 1) 1 1 one_pixel (low ∷ [])  -- P2
    ∷ refuses (setting opening all_four 2 1) 1 1 one_pixel 0 12  -- P2: its trace
    ∷ filters (setting opening east 4 1) 4 1 Q (pos 8 ∷ pos 5 ∷ pos 8 ∷ pos 8 ∷ [])  -- P3
    ∷ filters (setting opening east 4 0) 4 1 Q (pos 5 ∷ pos 5 ∷ pos 5 ∷ pos 5 ∷ [])  -- P4
    ∷ filters (setting closing east 4 1) 4 1 Q (pos 9 ∷ pos 9 ∷ pos 12 ∷ pos 9 ∷ [])  -- P5
    ∷ filters (setting opening north 2 0) 4 1 Q (low ∷ low ∷ low ∷ low ∷ [])  -- P6
    ∷ filters (setting closing north 2 0) 4 1 Q (high ∷ high ∷ high ∷ high ∷ [])  -- P6
    ∷ filters (setting opening north_east 2 0) 4 1 Q (pos 5 ∷ pos 5 ∷ pos 8 ∷ pos 8 ∷ [])  -- P7
    ∷ filters (setting opening north_east 2 0) 2 2 X (pos 1 ∷ pos 9 ∷ pos 9 ∷ pos 1 ∷ [])  -- P8
    ∷ filters (setting opening south_east 2 0) 2 2 X (pos 1 ∷ pos 1 ∷ pos 1 ∷ pos 1 ∷ [])  -- P9
    ∷ filters (setting closing all_four 1 0) 1 1 (low ∷ []) (low ∷ [])  -- P10
    ∷ filters (setting opening east 4 1) 4 1 gap_first (pos 5 ∷ pos 8 ∷ pos 8 ∷ pos 8 ∷ [])  -- N5
    ∷ filters (crack_ended (setting opening east 4 1)) 4 1 gap_first (pos 5 ∷ pos 5 ∷ pos 5 ∷ pos 5 ∷ [])  -- N5
    ∷ filters (setting closing east 4 1) 4 1 gap_first_dark (pos 12 ∷ pos 9 ∷ pos 9 ∷ pos 9 ∷ [])  -- N5
    ∷ filters (crack_ended (setting closing east 4 1)) 4 1 gap_first_dark (pos 12 ∷ pos 12 ∷ pos 12 ∷ pos 12 ∷ [])  -- N5
    ∷ filters (setting opening east 3 1) 5 1 two_gaps two_gaps  -- N5
    ∷ filters (crack_ended (setting opening east 3 1)) 5 1 two_gaps (pos 9 ∷ pos 1 ∷ pos 9 ∷ pos 1 ∷ pos 1 ∷ [])  -- N5
    ∷ filters (crack_ended (setting opening east 2 1)) 5 1 two_gaps (pos 1 ∷ pos 1 ∷ pos 9 ∷ pos 9 ∷ pos 1 ∷ [])  -- N5: k is idle
    ∷ filters (crack_ended (setting opening east 4 1)) 4 1 Q (pos 8 ∷ pos 5 ∷ pos 8 ∷ pos 8 ∷ [])  -- N5: the gap of P3 is inside
    ∷ filters (crack_ended (setting opening all_four 1 0)) 1 1 one_pixel one_pixel  -- N5: one pixel is both ends
    ∷ filters (crack_ended (setting opening all_four 2 1)) 1 1 one_pixel (low ∷ [])  -- N5
    ∷ refuses (crack_ended (setting opening all_four 2 1)) 1 1 one_pixel 0 12  -- N5: 12 does not depend on `ends`
    ∷ filters (setting opening east 4 1) 4 1 Q_high (pos 9 ∷ pos 6 ∷ pos 9 ∷ pos 9 ∷ [])  -- N7, over P3
    ∷ filters (setting closing east 4 1) 4 1 Q_high (pos 9 ∷ pos 9 ∷ pos 12 ∷ pos 9 ∷ [])  -- N7, over P5
    ∷ filters (crack_ended (setting opening east 4 1)) 4 1 gap_first_high (pos 7 ∷ pos 7 ∷ pos 7 ∷ pos 7 ∷ [])  -- N7, over N5's
    ∷ filters (setting opening east 5 1) 4 1 Q (low ∷ low ∷ low ∷ low ∷ [])  -- N7: no path of five pixels
    ∷ filters (setting opening east 5 1) 4 1 Q_high (low ∷ low ∷ low ∷ low ∷ [])  -- N7
    ∷ []

unfoldable pub same_level : ℤ → ℤ → Bool
same_level (pos a) (pos b) = eqb a b
same_level (pos a) (negsuc b) = false
same_level (negsuc a) (pos b) = false
same_level (negsuc a) (negsuc b) = eqb a b

-- are two plates the same, level by level?
unfoldable pub same : List ℤ → List ℤ → Bool
same [] [] = true
same [] (y ∷ ys) = false
same (x ∷ xs) [] = false
same (x ∷ xs) (y ∷ ys) = same_level x y && same xs ys

-- is a call refused with this number, and the place 0?
unfoldable pub refused_with : ℕ → Verdict ℤ → Bool
refused_with number (accepted level) = false
refused_with number (refused n place) = eqb n number && eqb place 0

-- do the definitions give this? A trace is lent a path buffer and a work buffer of the right lengths.
unfoldable pub holds : Worked → Bool
holds (filters s W H f g) = same (filtered s W H f) g
holds (refuses s W H f x number) = refused_with number (trace_verdict W H s f x s.length (4 * (s.gaps + 1) * (W * H)))

-- and all of the table?
unfoldable pub all_hold : List Worked → Bool
all_hold [] = true
all_hold (w ∷ ws) = holds w && all_hold ws
