-- `reach_of` meets its contract: the six numbers are those that the table gives, and `reach_read` says which these are.
use Rattle.directions.proofs.TableLaws.{reach_read}
use Rattle.directions.proofs.plan.Side.reach_of.Goals as goal

pub returns : goal.returns
returns c =
    rw (
      c.pixels_on-x0.ensures.0,
      c.row_by-y0.ensures,
      c.pixels_on-x1.ensures.0,
      c.row_by-y1.ensures,
      c.pixels_on-x2.ensures.0,
      c.row_by-y2.ensures,
    )
    (reach_read c.args.self.frame c.args.self.course c.args.ranked c.args.self.oriented)
