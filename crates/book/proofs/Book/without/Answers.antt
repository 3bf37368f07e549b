-- `without` moves the entries that stay up into empty slots. The invariant: the slots hold those of the first entries that stay, as many as were looked at.
use Prim.Native.Nat.{◌≤◌, ◌<◌}
use mathlib.Core.Path.{◌≡◌, sym, ◌∙◌}
use native.Mathlib.Omega.{arith}
use lib.ListN.{length}
use lib.Seq.{length-take-le}
use Rattle.book.specs.Entries.{standing}
use Rattle.book.specs.declared.Book.{Book}
use Rattle.book.proofs.Taking.{start, has_room, stays, goes, ends}
use Rattle.book.proofs.Book.without.Goals as goal
use Rattle.book.proofs.Book.without.Goals.{Then-not-is_meant, then-not-is_meant, else-not-is_meant}

-- a book's array has its length
shows_few : (b : Book) → length b.entries ≡ 256 → b.count ≤ 256 → length (standing b) ≤ 256
shows_few b room h = omega (arith, length-take-le b.count b.entries (omega arith))

-- so an entry that stays finds an empty slot
has_slot : (c : Then-not-is_meant) → c.loop-entry.book.count < 256
has_slot c =
    has_room c.args.target (standing c.args.self) (shows_few c.args.self (omega arith) c.requires) c.loop-entry.book c.loop-entry.entry-index c.loop-entry.invariant c.loop-entry-test.true

pub loop-entry-init : goal.loop-entry-init
loop-entry-init c = start c.args.target (standing c.args.self) c.new-book.result c.new-book.ensures

pub offset_bounds-book-at : goal.offset_bounds-book-at
offset_bounds-book-at c = omega (arith, has_slot (goal.at.offset_bounds-book-at c).Then-not-is_meant)

pub bounds-book-at : goal.bounds-book-at
bounds-book-at c = has_slot (goal.at.bounds-book-at c).Then-not-is_meant

pub overflow_add-book : goal.overflow_add-book
overflow_add-book c = omega (arith, has_slot (goal.at.overflow_add-book c).Then-not-is_meant)

pub loop-entry-preserved : goal.loop-entry-preserved
loop-entry-preserved c =
    let all = standing c.args.self in
    let few = shows_few c.args.self (omega arith) c.requires in
    let l = c.loop-entry in
    elim c.if-not-is_meant.branch [
      | then-not-is_meant w ↦
          rw w.book-is (stays c.args.target all few l.book l.entry-index l.invariant c.loop-entry-test.true _ (sym c.is_meant.ensures ∙ w.if-not-is_meant.true))
      | else-not-is_meant w ↦
          rw w.book-is (goes c.args.target all few l.book l.entry-index l.invariant c.loop-entry-test.true _ (sym c.is_meant.ensures ∙ w.if-not-is_meant.false))
    ]

pub returns : goal.returns
returns c = ends c.args.target (standing c.args.self) c.args.self.last c.loop-entry.book c.loop-entry.entry-index c.loop-entry.invariant c.loop-entry-test.false
