use Rattle.book.specs.Entries.{standing}
use Rattle.book.proofs.Taking.{MovedUp}
use Rattle.book.proofs.Book.without.Given as goal

abbrev pub invariant-loop-entry : goal.invariant-loop-entry
invariant-loop-entry l = MovedUp l.target (standing l.fn.self) l.book l.entry-index
