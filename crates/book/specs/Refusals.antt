-- Document 02, N3: the checks of the book's calls, in the order of the refusal table, and what each call hands back.
use Rattle.std.specs.Prelude.{ℕ, ◌+◌, Bool, not, ◌&&◌, ◌||◌, List, [], ◌∷◌, ◌++◌, ltb, eqb, ℤ}
use Rattle.basics.specs.Lists.{any}
use Rattle.plate.specs.RefusalNumbers.{refusal_full, refusal_spent, refusal_no_entry}
use Rattle.plate.specs.Refusals.{Verdict, Verdict.accepted, Verdict.refused, Check, row, judged}
use Rattle.book.specs.Entries.{max_entries, max_serial, is_meant, others, entry_of, standing, book_of}
use Rattle.book.specs.declared.entry.Key.{Key}
use Rattle.book.specs.declared.target.Target.{Target}
use Rattle.book.specs.declared.target.Target.TheVariants.{OfKey, OfSerial}
use Rattle.book.specs.declared.Book.{Book}
use Rattle.book.specs.declared.Kept.{Kept}

-- does an entry stand that is meant?
abbrev pub stands : Book → Target → Bool
stands b target = any (is_meant target) (standing b)

-- "the book handed in shows more than 256, in every call"
abbrev pub overfull : Book → Bool
overfull b = ltb max_entries b.count

-- 15 in entering: that, or "256 entries stand and the new one supersedes none"
unfoldable pub is_full : Book → Key → Bool
is_full b key = overfull b || (eqb b.count max_entries && not (stands b (OfKey key)))

-- 16: "the counter is at 4,294,967,295"
unfoldable pub is_spent : Book → Bool
is_spent b = eqb b.last max_serial

-- ---- entering

-- 15, "16 .. after 15"
abbrev pub entry_checks : Book → Key → List Check
entry_checks b key = row refusal_full (is_full b key) 0 ∷ row refusal_spent (is_spent b) 0 ∷ []

-- the next serial number; "superseding takes out every entry of the key", and the new one comes last
abbrev pub entered : Book → Key → ℤ → ℕ → Book
entered b key level direction =
    book_of (b.last + 1) (others (OfKey key) (standing b) ++ (entry_of (b.last + 1) key level direction ∷ []))

unfoldable pub enter_verdict : Book → Key → ℤ → ℕ → Verdict Book
enter_verdict b key level direction = judged (entry_checks b key) (entered b key level direction)

-- ---- withdrawing

-- 15, 17: "the serial to withdraw belongs to no standing entry"
abbrev pub withdraw_checks : Book → ℕ → List Check
withdraw_checks b serial = row refusal_full (overfull b) 0 ∷ row refusal_no_entry (not (stands b (OfSerial serial))) 0 ∷ []

-- "withdrawing every one of that serial number"; the counter stays
abbrev pub withdrawn : Book → ℕ → Book
withdrawn b serial = book_of b.last (others (OfSerial serial) (standing b))

unfoldable pub withdraw_verdict : Book → ℕ → Verdict Book
withdraw_verdict b serial = judged (withdraw_checks b serial) (withdrawn b serial)

-- ---- what comes back

-- 0 and the new book; or the refusal's number, and "a refused call hands the book back as it came"
abbrev pub handed_back : Verdict Book → Book → Kept
handed_back (accepted after) before = record { number = 0; book = after }
handed_back (refused number place) before = record { number = number; book = before }
