-- `lines_on` meets its contract: lines are rows or columns, and a change of 0 is 1 in the table read plus one.
use Rattle.directions.specs.Plans.{lines_on}
use Rattle.directions.proofs.plan.Side.lines_on.Goals as goal

pub returns-then-self : goal.returns-then-self
unfolding lines_on
returns-then-self c = rw (c.rows_on.ensures.0, c.if-self.true)

pub returns : goal.returns
unfolding lines_on
returns c = rw (c.columns_on.ensures.0, c.if-self.false)
