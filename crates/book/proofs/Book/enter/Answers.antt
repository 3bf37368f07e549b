-- `enter` refuses as `judge` does; else the entries of the key are taken out, and the new one goes behind the others.
use Prim.Native.Nat.{◌<◌}
use mathlib.Core.Path.{sym, ap, ◌∙◌}
use mir.Syntax.{w16}
use mir.ValLaws.{to_z-of_z}
use native.Mathlib.Omega.{arith}
use Rattle.plate.specs.Refusals.{Clear}
use Rattle.plate.proofs.Verdicts.{accepted_clear}
use Rattle.book.specs.Refusals.{entry_checks}
use Rattle.book.specs.declared.Book.{Book}
use Rattle.book.proofs.Deciding.{shows_few, slot_left, serial_left, enter_refused, enter_done}
use Rattle.book.proofs.Book.enter.Goals as goal
use Rattle.book.proofs.Book.enter.Goals.{After-without-book, In_default}

-- past the refusal the book takes the entry
clear : (c : In_default) → Clear (entry_checks c.args.self c.args.key)
clear c = (accepted_clear _ tt tt (sym c.in_default.ensures)).1

-- and there is a slot for it
slot : (c : After-without-book) → c.without-book.result.count < 256
slot c = omega (arith, ap (λ (b : Book). b.count) c.without-book.ensures, slot_left _ _ (clear c.before))

pub returns-in-Err : goal.returns-in-Err
returns-in-Err c = c.refused.ensures ∙ enter_refused c.args.self c.args.key c.args.level c.args.direction c.in-Err.ensures

pub without-book-requires : goal.without-book-requires
without-book-requires c = shows_few _ _ (clear c)

pub overflow_add-serial : goal.overflow_add-serial
overflow_add-serial c = omega (arith, serial_left _ _ (clear (goal.at.overflow_add-serial c).In_default))

pub offset_bounds-book-at : goal.offset_bounds-book-at
offset_bounds-book-at c = omega (arith, slot (goal.at.offset_bounds-book-at c).After-without-book)

pub bounds-book-at : goal.bounds-book-at
bounds-book-at c = slot (goal.at.bounds-book-at c).After-without-book

pub overflow_add-book : goal.overflow_add-book
overflow_add-book c = omega (arith, slot (goal.at.overflow_add-book c).After-without-book)

pub returns : goal.returns
returns c =
    rw (to_z-of_z w16 c.args.level c.ranges.level)
    (enter_done c.args.self c.args.key c.args.level c.args.direction c.without-book.result c.without-book.ensures (clear (goal.at.returns c).In_default))
