-- Document 02, N3, of many calls: "for every list of enterings and withdrawals from an empty book, what stands for a key is its last accepted entry
-- alone, or nothing once that is withdrawn". `Accounted` is that sentence, with the serial numbers that were given; entering/specs/History.antt has
-- the books that real calls handed on.
use Rattle.std.specs.Prelude.{ℕ, zero, suc, ◌+◌, ◌≤◌, ◌≡◌, Bool, cond, List, [], ◌∷◌, ℤ}
use Rattle.basics.specs.Lists.{any, keep}
use Rattle.plate.specs.Refusals.{Verdict, Verdict.accepted, Verdict.refused}
use Rattle.book.specs.Entries.{max_entries, is_meant, entry_of, standing, book_of}
use Rattle.book.specs.Refusals.{enter_verdict, withdraw_verdict, handed_back}
use Rattle.book.specs.declared.entry.Key.{Key}
use Rattle.book.specs.declared.entry.Entry.{Entry}
use Rattle.book.specs.declared.target.Target.TheVariants.{OfKey, OfSerial}
use Rattle.book.specs.declared.Book.{Book}

-- ---- calls, and what became of them

pub data Call : Type 0 where
  enter : Key → ℤ → ℕ → Call
  withdraw : ℕ → Call

abbrev pub verdict_of : Book → Call → Verdict Book
verdict_of b (enter key level direction) = enter_verdict b key level direction
verdict_of b (withdraw serial) = withdraw_verdict b serial

-- an accepted call: the entry as it was entered, or the serial number that was withdrawn
pub data Event : Type 0 where
  entering : Entry → Event
  withdrawing : ℕ → Event

abbrev pub event_of : Book → Call → Event
event_of b (enter key level direction) = entering (entry_of (b.last + 1) key level direction)
event_of b (withdraw serial) = withdrawing serial

-- a book and the calls that it has accepted, the latest first
pub record Lived : Type 0 where
  pub book : Book
  pub events : List Event

-- the accepted calls after one call more, which was this event if it was accepted
abbrev pub events_after : Verdict Book → Event → List Event → List Event
events_after (accepted b) event events = event ∷ events
events_after (refused number place) event events = events

-- one call more
abbrev pub step : Lived → Call → Lived
step l call =
    record {
      book = (handed_back (verdict_of l.book call) l.book).book;
      events = events_after (verdict_of l.book call) (event_of l.book call) l.events;
    }

-- a list of calls, the earliest first
unfoldable pub run : Lived → List Call → Lived
run l [] = l
run l (call ∷ calls) = run (step l call) calls

abbrev pub unused : Lived
unused = record { book = book_of 0 []; events = [] }

-- ---- what they come to

-- was the entry's serial number withdrawn?
unfoldable pub was_withdrawn : List ℕ → Entry → Bool
was_withdrawn serials e = any (λ (serial : ℕ). is_meant (OfSerial serial) e) serials

-- "its last accepted entry alone, or nothing once that is withdrawn", where these serial numbers were withdrawn since
unfoldable pub last_entry : Key → (since : List ℕ) → List Event → List Entry
last_entry key since [] = []
last_entry key since (withdrawing serial ∷ earlier) = last_entry key (serial ∷ since) earlier
last_entry key since (entering e ∷ earlier) =
    cond (is_meant (OfKey key) e) (cond (was_withdrawn since e) [] (e ∷ [])) (last_entry key since earlier)

-- the serial numbers that were given, the latest first
unfoldable pub serials_given : List Event → List ℕ
serials_given [] = []
serials_given (entering e ∷ earlier) = e.serial ∷ serials_given earlier
serials_given (withdrawing serial ∷ earlier) = serials_given earlier

-- n, n − 1, .. 1
unfoldable pub down_from : ℕ → List ℕ
down_from zero = []
down_from (suc n) = suc n ∷ down_from n

pub record Accounted (b : Book) (events : List Event) : Type 0 where
  -- "what stands for a key is its last accepted entry alone, or nothing once that is withdrawn"
  pub alone : (key : Key) → keep (is_meant (OfKey key)) (standing b) ≡ last_entry key [] events
  -- "at most 256 entries stand"
  pub few : b.count ≤ max_entries
  -- every accepted entry was given a serial number: 1, 2, 3 and on; the counter has the last
  pub counted : serials_given events ≡ down_from b.last
