-- `keeps_keys` meets its contract: its tests are those of `keeps`, in the same order.
use borrow.Author.Tests.{le-leb, lt-leb}
use Rattle.directions.specs.Doors.{keeps}
use Rattle.directions.proofs.fits.keeps_keys.Goals as goal

pub returns-then-span_of-lt1 : goal.returns-then-span_of-lt1
unfolding keeps
returns-then-span_of-lt1 c = rw (lt-leb 1 _ (rw c.span_of.ensures at c.if-span_of-lt1.true))

pub returns-then-not-ranked : goal.returns-then-not-ranked
unfolding keeps
returns-then-not-ranked c = rw (le-leb 1 _ (rw c.span_of.ensures at c.if-span_of-lt1.false), c.if-not-ranked.true)

pub returns : goal.returns
unfolding keeps
returns c = rw (c.frame-frame.ensures, le-leb 1 _ (rw c.span_of.ensures at c.if-span_of-lt1.false), c.if-not-ranked.false)
