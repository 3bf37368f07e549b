-- `withdraw` takes out the entries of the serial number; where as many are left as stood before, none had it.
use mathlib.Core.Path.{◌∙◌}
use native.Mathlib.Omega.{arith}
use Rattle.book.proofs.Deciding.{withdraw_overfull, withdraw_none, withdraw_done}
use Rattle.book.proofs.Book.withdraw.Goals as goal

pub returns-then-self-gt-MAX_ENTRIES : goal.returns-then-self-gt-MAX_ENTRIES
returns-then-self-gt-MAX_ENTRIES c = c.refused.ensures ∙ withdraw_overfull c.args.self c.if-self-gt-MAX_ENTRIES.true c.args.serial

-- a book's array has its length
pub returns-then-rest-self : goal.returns-then-rest-self
returns-then-rest-self c =
    c.refused-then-rest-self.ensures
    ∙ withdraw_none c.args.self c.if-self-gt-MAX_ENTRIES.false (omega arith) c.args.serial c.without-rest.result c.without-rest.ensures c.if-rest-self.true

pub returns : goal.returns
returns c =
    withdraw_done c.args.self c.if-self-gt-MAX_ENTRIES.false (omega arith) c.args.serial c.without-rest.result c.without-rest.ensures c.if-rest-self.false
