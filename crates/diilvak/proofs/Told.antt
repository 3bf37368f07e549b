-- What a lent buffer holds after an answer, said of the answer's verdict: so a contract by answers hands on to one by verdicts.
use mathlib.Core.Path.{◌≡◌, refl}
use mathlib.Core.List.{List}
use lib.IntN.{ℤ}
use Prim.Native.Nat.{ℕ}
use Rattle.std.proofs.Common.{Result, Ok, Err}
use Rattle.plate.specs.Answers.{answered, result_after, WorkAfter, traced_level, TraceAfter}
use Rattle.plate.specs.declared.answer.Trace.{Trace}
use Rattle.plate.specs.declared.refusal.Refusal.{Refusal}
use Rattle.book.specs.Refusals.{entered}
use Rattle.book.specs.declared.entry.Key.{Key}
use Rattle.book.specs.declared.Book.{Book}
use Rattle.entering.specs.Refusals.{book_after}
use Rattle.plate.specs.Telling.{lent_after, value_after}
use Rattle.diilvak.specs.Numbers.{FreeAfter, direction_after, ShownAfter}

pub result_lent : (answer : Result Unit Refusal) (new old : List ℤ) → result_after answer new old ≡ lent_after (answered answer) new old
result_lent (Ok u) new old = refl
result_lent (Err r) new old = refl

pub work_free : (answer : Result Unit Refusal) (old new : List ℕ) → WorkAfter answer old new → FreeAfter (answered answer) old new
work_free (Ok u) old new h = h
work_free (Err r) old new h = h

-- a trace's direction, path and work buffer
pub trace_lent : (traced : Result Trace Refusal) (shown : ℕ → ℤ → List ℕ → Type 0) (direction : ℕ) (path path' work work' : List ℕ) → TraceAfter traced shown path path' work work' →
    ShownAfter (traced_level traced) shown direction (direction_after traced direction) path path' work work'
trace_lent (Ok trace) shown direction path path' work work' h = h
trace_lent (Err r) shown direction path path' work work' h = (refl, h.0, h.1)

-- a book in which a trace is entered, with the level and the direction that then stand in the lent numbers
pub book_lent : (traced : Result Trace Refusal) (b : Book) (key : Key) (level : ℤ) (direction : ℕ) →
    book_after traced b key ≡ lent_after (traced_level traced) (entered b key (value_after (traced_level traced) level) (direction_after traced direction)) b
book_lent (Ok trace) b key level direction = refl
book_lent (Err r) b key level direction = refl
