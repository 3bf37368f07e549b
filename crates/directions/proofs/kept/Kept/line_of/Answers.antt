-- `line_of` meets its contract: its tests are those of `line_kept`, and a rank has no more pixels before it than there are lines.
use native.Mathlib.Omega.{arith}
use borrow.Author.Tests.{le-leb, lt-leb, not-true, not-false}
use Rattle.directions.specs.Numbers.{line_kept}
use Rattle.directions.proofs.kept.Kept.line_of.Goals as goal

pub returns-then-not-self : goal.returns-then-not-self
unfolding line_kept
returns-then-not-self c = (rw (not-true _ c.if-not-self.true), c.requires.0)

pub returns-then-x-row : goal.returns-then-x-row
unfolding line_kept
returns-then-x-row c = (rw (not-false _ c.if-not-self.false, le-leb c.args.x c.args.row c.if-x-row.true), omega (arith, c.requires))

pub returns : goal.returns
unfolding line_kept
returns c = (
  rw (not-false _ c.if-not-self.false, lt-leb c.args.x c.args.row (omega (arith, c.if-x-row.false))),
  omega (arith, c.requires, c.if-x-row.false, c.args.self.kept_on.slim (not-false _ c.if-not-self.false)),
)
