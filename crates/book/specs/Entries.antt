-- Document 02, N3: the entries of a book. A book is a counter and the list of the entries that stand; all that calls do is said of that list.
use Rattle.std.specs.Prelude.{ℕ, ◌-◌, Bool, not, ◌&&◌, List, ◌++◌, eqb, length, take, replicate, ℤ, pos}
use Rattle.basics.specs.Lists.{keep}
use Rattle.book.specs.declared.entry.Key.{Key}
use Rattle.book.specs.declared.entry.Entry.{Entry}
use Rattle.book.specs.declared.target.Target.{Target}
use Rattle.book.specs.declared.target.Target.TheVariants.{OfKey, OfSerial}
use Rattle.book.specs.declared.Book.{Book}

-- "at most 256 entries stand"
abbrev pub max_entries : ℕ
max_entries = 256

-- the last serial number of 32 bits
abbrev pub max_serial : ℕ
max_serial = 4294967295

-- is this an entry of the key ("the same plate, place and mode"), or of the serial number?
unfoldable pub is_meant : Target → Entry → Bool
is_meant (OfKey key) e = eqb e.plate key.plate && eqb e.place key.place && eqb e.mode key.mode
is_meant (OfSerial serial) e = eqb e.serial serial

-- the entries that are not, in their order
abbrev pub others : Target → List Entry → List Entry
others target entries = keep (λ (e : Entry). not (is_meant target e)) entries

-- a finding as an entry
abbrev pub entry_of : ℕ → Key → ℤ → ℕ → Entry
entry_of serial key level direction =
    record { serial = serial; plate = key.plate; place = key.place; mode = key.mode; level = level; direction = direction }

-- the entries that stand, in the order of entering
abbrev pub standing : Book → List Entry
standing b = take b.count b.entries

-- a slot in which none stands
abbrev pub empty_slot : Entry
empty_slot = record { serial = 0; plate = 0; place = 0; mode = 0; level = pos 0; direction = 0 }

-- the book with this counter in which these entries stand; the slots behind them are empty
abbrev pub book_of : ℕ → List Entry → Book
book_of last entries =
    record { last = last; count = length entries; entries = entries ++ replicate (max_entries - length entries) empty_slot }
