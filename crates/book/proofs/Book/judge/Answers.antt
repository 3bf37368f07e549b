-- `judge` takes out the entries of the key; where 256 are left the book was full and none was taken out.
use Prim.Native.Nat.{◌≤◌}
use mathlib.Core.Path.{◌∙◌}
use native.Mathlib.Omega.{arith}
use borrow.Author.Tests.{ltb-true, ltb-false, eqb-true, eqb-false}
use Rattle.std.proofs.lemmas.Result.{err_from_is_err_and}
use Rattle.plate.proofs.Verdicts.{check_passes}
use Rattle.book.specs.Refusals.{is_spent}
use Rattle.book.proofs.Deciding.{refusing, entry_overfull, entry_full, entry_decides}
use Rattle.book.proofs.Book.judge.Goals as goal
use Rattle.book.proofs.Book.judge.Goals.{In_ok-refuse_if}

few : (c : In_ok-refuse_if) → c.args.self.count ≤ 256
few c = ltb-false _ _ (check_passes _ c.in_ok-refuse_if.ensures)

pub returns-in_err-refuse_if : goal.returns-in_err-refuse_if
returns-in_err-refuse_if c =
    let p = err_from_is_err_and c.from_residual.result c.from_residual.ensures.1 in
    let r = refusing _ c.in_err-refuse_if.ensures in
    rw (p.1, p.2) (r.1 ∙ entry_overfull c.args.self (ltb-true _ _ r.0) c.args.key)

pub without-rest-requires : goal.without-rest-requires
without-rest-requires c = few c

-- what is left once they are out, with what the checks before have found; a book's array has its length
pub returns-in_err-refuse_if-2 : goal.returns-in_err-refuse_if-2
returns-in_err-refuse_if-2 c =
    let p = err_from_is_err_and c.from_residual-in_err-refuse_if-2.result c.from_residual-in_err-refuse_if-2.ensures.1 in
    let r = refusing _ c.in_err-refuse_if-2.ensures in
    rw (p.1, p.2)
    (r.1 ∙ entry_full c.args.self (few (goal.at.returns-in_err-refuse_if-2 c).In_ok-refuse_if) (omega arith) c.args.key c.without-rest.result c.without-rest.ensures (eqb-true _ _ r.0))

pub returns : goal.returns
unfolding is_spent
returns c =
    c.refuse_if-3.ensures
    ∙ entry_decides c.args.self (few (goal.at.returns c).In_ok-refuse_if) (omega arith) c.args.key c.without-rest.result c.without-rest.ensures (eqb-false _ _ (check_passes _ c.in_ok-refuse_if-2.ensures))
