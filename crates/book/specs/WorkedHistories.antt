-- Worked histories of document 02, N3: what each call of a list answers, with the counter and the serial numbers that then stand.
-- proofs/WorkedHistories.antt shows that the definitions give these.
use Rattle.std.specs.Prelude.{ℕ, suc, ◌-◌, Bool, true, false, ◌&&◌, List, [], ◌∷◌, ◌++◌, map, eqb, pos}
use Rattle.basics.specs.Lists.{up_from}
use Rattle.book.specs.Entries.{max_entries, max_serial, entry_of, standing, book_of}
use Rattle.book.specs.Refusals.{handed_back}
use Rattle.book.specs.History.{Call, Call.enter, Call.withdraw, verdict_of}
use Rattle.book.specs.declared.entry.Key.{Key}
use Rattle.book.specs.declared.entry.Entry.{Entry}
use Rattle.book.specs.declared.Book.{Book}

-- a call, the number that it answers, the counter and the serial numbers that stand afterwards
pub record Turn : Type 0 where
  pub call : Call
  pub number : ℕ
  pub counter : ℕ
  pub serials : List ℕ

abbrev turn : Call → ℕ → ℕ → List ℕ → Turn
turn call number counter serials = record { call = call; number = number; counter = counter; serials = serials }

-- a history starts with a book
pub record History : Type 0 where
  pub book : Book
  pub turns : List Turn

abbrev from : Book → List Turn → History
from b turns = record { book = b; turns = turns }

-- ---- the test

unfoldable pub same_numbers : List ℕ → List ℕ → Bool
same_numbers [] [] = true
same_numbers (m ∷ ms) (n ∷ ns) = eqb m n && same_numbers ms ns
same_numbers [] (n ∷ ns) = false
same_numbers (m ∷ ms) [] = false

unfoldable pub serials_of : List Entry → List ℕ
serials_of [] = []
serials_of (e ∷ entries) = e.serial ∷ serials_of entries

unfoldable pub plays : Book → List Turn → Bool
plays b [] = true
plays b (t ∷ turns) =
    let r = handed_back (verdict_of b t.call) b in
    eqb r.number t.number && eqb r.book.last t.counter && same_numbers (serials_of (standing r.book)) t.serials && plays r.book turns

unfoldable pub all_play : List History → Bool
all_play [] = true
all_play (h ∷ histories) = plays h.book h.turns && all_play histories

-- ---- the histories

-- the plate's number, the place and the mode; the levels are those of the row 9,5,12,8 with paths of 4 pixels to the east and one gap, the bit of east is 2
abbrev key : ℕ → ℕ → ℕ → Key
key plate place mode = record { plate = plate; place = place; mode = mode }

abbrev finding : ℕ → ℕ → ℕ → ℕ → Call
finding plate place mode level = enter (key plate place mode) (pos level) 2

abbrev entry : ℕ → ℕ → ℕ → Entry
entry serial plate place = entry_of serial (key plate place 0) (pos 8) 2

-- plates 0 to 255, with the serial numbers 1 to 256
abbrev full_with : ℕ → Book
full_with counter = book_of counter (map (λ (plate : ℕ). entry (suc plate) plate 0) (up_from 0 max_entries))

-- a book put together by hand, in which a key and a serial number stand twice
abbrev by_hand : Book
by_hand = book_of 9 (entry 4 7 0 ∷ entry 5 7 1 ∷ entry 6 7 0 ∷ entry 5 9 0 ∷ [])

-- one that shows more entries than it has slots
abbrev overfull_book : Book
overfull_book = record { last = 256; count = 257; entries = (full_with 256).entries }

unfoldable pub worked_histories : List History
worked_histories =
    from (book_of 0 [])
    (turn (finding 7 0 0 8) 0 1 (1 ∷ [])
    ∷ turn (finding 7 1 0 5) 0 2 (1 ∷ 2 ∷ [])
    ∷ turn (finding 7 0 1 9) 0 3 (1 ∷ 2 ∷ 3 ∷ [])
    ∷ turn (finding 7 0 0 8) 0 4 (2 ∷ 3 ∷ 4 ∷ [])
    ∷ turn (withdraw 1) 17 4 (2 ∷ 3 ∷ 4 ∷ [])
    ∷ turn (withdraw 4) 0 4 (2 ∷ 3 ∷ [])
    ∷ turn (withdraw 4) 17 4 (2 ∷ 3 ∷ [])
    ∷ turn (finding 7 0 0 8) 0 5 (2 ∷ 3 ∷ 5 ∷ [])
    ∷ [])
    ∷ from (full_with 256)
    (turn (finding 256 0 0 8) 15 256 (up_from 1 256)
    ∷ turn (finding 5 0 0 8) 0 257 (up_from 1 5 ++ up_from 7 250 ++ (257 ∷ []))
    ∷ [])
    ∷ from (full_with max_serial)
    (turn (finding 5 0 0 8) 16 max_serial (up_from 1 256)
    ∷ turn (finding 256 0 0 8) 15 max_serial (up_from 1 256)
    ∷ turn (withdraw 6) 0 max_serial (up_from 1 5 ++ up_from 7 250)
    ∷ [])
    ∷ from (book_of (max_serial - 1) [])
    (turn (finding 7 0 0 8) 0 max_serial (max_serial ∷ [])
    ∷ turn (finding 7 0 0 8) 16 max_serial (max_serial ∷ [])
    ∷ [])
    ∷ from overfull_book
    (turn (finding 7 0 0 8) 15 256 (up_from 1 256)
    ∷ turn (withdraw 6) 15 256 (up_from 1 256)
    ∷ turn (withdraw 300) 15 256 (up_from 1 256)
    ∷ [])
    ∷ from by_hand (turn (finding 7 0 0 8) 0 10 (5 ∷ 5 ∷ 10 ∷ []) ∷ [])
    ∷ from by_hand (turn (withdraw 5) 0 9 (4 ∷ 6 ∷ []) ∷ [])
    ∷ []
