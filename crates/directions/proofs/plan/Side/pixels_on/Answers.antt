-- `pixels_on` meets its contract: the step is read turned where the frame is mirrored, and turned once more backwards.
use mathlib.Core.Path.{◌∙◌}
use Rattle.directions.specs.Plans.{pixels_on}
use Rattle.directions.proofs.TableLaws.{turned_once}
use Rattle.directions.proofs.plan.Side.pixels_on.Goals as goal

pub returns-then-self : goal.returns-then-self
unfolding pixels_on
returns-then-self c =
    (c.columns_on.ensures.0 ∙ rw (c.if-self.true, turned_once c.args.self.frame.mirrored c.args.self.course.back), c.columns_on.ensures.1)

pub returns : goal.returns
unfolding pixels_on
returns c = (c.rows_on.ensures.0 ∙ rw (c.if-self.false, turned_once c.args.self.frame.mirrored c.args.self.course.back), c.rows_on.ensures.1)
