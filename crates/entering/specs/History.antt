-- Document 02, N3, of real calls: books that were handed from one call to the next, each call told of by its contract alone. proofs/History.antt shows
-- that each such book is accounted for; book/specs/History.antt has the sentence, `Accounted`, and the same of the definitions.
use Rattle.std.specs.Prelude.{ℕ, ◌+◌, ◌≡◌, List, [], ◌∷◌, ℤ, Result, Ok, Err}
use Rattle.plate.specs.Answers.{traced_level}
use Rattle.plate.specs.declared.setting.Setting.{Setting}
use Rattle.plate.specs.declared.answer.Trace.{Trace}
use Rattle.plate.specs.declared.refusal.Refusal.{Refusal}
use Rattle.book.specs.Entries.{entry_of, book_of}
use Rattle.book.specs.Refusals.{withdraw_verdict, handed_back}
use Rattle.book.specs.History.{Event, Event.entering, Event.withdrawing, events_after}
use Rattle.book.specs.declared.entry.Key.{Key}
use Rattle.book.specs.declared.Book.{Book}
use Rattle.book.specs.declared.Kept.{Kept}
use Rattle.entering.specs.Refusals.{key_of, enter_trace_verdict, book_after}
use Rattle.entering.specs.declared.pixel.Pixel.{Pixel}

-- `enter_trace` was handed the book b and some plate, was lent a path and a work buffer, answered, and handed b' back
pub record EnterCall (s : Setting) (pixel : Pixel) (b : Book) (traced : Result Trace Refusal) (b' : Book) : Type 0 where
  pub W : ℕ
  pub H : ℕ
  pub plate : List ℤ
  pub path : ℕ
  pub work : ℕ
  pub answers : traced_level traced ≡ enter_trace_verdict W H s plate pixel b path work
  pub hands_back : b' ≡ book_after traced b (key_of s pixel)

-- the accepted calls, the latest first, after one that has entered a trace or was refused
abbrev pub events_entered : Result Trace Refusal → Book → Key → List Event → List Event
events_entered (Ok trace) b key events = entering (entry_of (b.last + 1) key trace.level trace.direction) ∷ events
events_entered (Err r) b key events = events

-- a book that calls handed on, from a new one, with those that were accepted
pub data HandedOn : Book → List Event → Type 0 where
  new : {b : Book} → b ≡ book_of 0 [] → HandedOn b []
  enter : {b b' : Book} {events : List Event} {s : Setting} {pixel : Pixel} {traced : Result Trace Refusal} →
      HandedOn b events → EnterCall s pixel b traced b' → HandedOn b' (events_entered traced b (key_of s pixel) events)
  withdraw : {b : Book} {events : List Event} {r : Kept} (serial : ℕ) →
      HandedOn b events → r ≡ handed_back (withdraw_verdict b serial) b → HandedOn r.book (events_after (withdraw_verdict b serial) (withdrawing serial) events)
