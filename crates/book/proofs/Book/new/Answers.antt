-- `new` makes a book of empty slots.
use Rattle.std.proofs.Common.{◌≡◌, ap, pos, replicate}
use Rattle.book.specs.Entries.{empty_slot}
use Rattle.book.specs.declared.entry.Entry.{Entry}
use Rattle.book.specs.declared.Book.{Book}
use Rattle.book.proofs.Book.new.Goals as goal

empty : (e : Entry) → (e.serial ≡ 0) × ((e.plate ≡ 0) × ((e.place ≡ 0) × ((e.mode ≡ 0) × ((e.level ≡ pos 0) × (e.direction ≡ 0))))) → e ≡ empty_slot
empty e h = λ j. record { serial = h.0 j; plate = h.1.0 j; place = h.1.1.0 j; mode = h.1.1.1.0 j; level = h.1.1.1.1.0 j; direction = h.1.1.1.1.1 j }

pub returns : goal.returns
returns c = ap (λ (e : Entry). (let b : Book = record { last = 0; count = 0; entries = replicate 256 e } in b)) (empty c.default.result c.default.ensures)
