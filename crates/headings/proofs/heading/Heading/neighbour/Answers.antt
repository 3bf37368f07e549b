-- `neighbour` meets its contract: the four tests tell the plate's edges, and the place within them is what the step reaches.
use mathlib.Core.Path.{◌∙◌}
use native.Mathlib.Omega.{arith}
use Rattle.headings.proofs.Neighbours.{off_left, off_right, off_top, off_bottom, on_place, reached_by_lem}
use Rattle.headings.proofs.heading.Heading.neighbour.Goals as goal

pub returns-in_err-x : goal.returns-in_err-x
returns-in_err-x c =
    c.from_residual.ensures
    ∙ reached_by_lem c.args.self c.args.p c.requires.0 c.args.number c.requires.1 _ _ _ c.columns_on-columns.ensures.0
    c.rows_on-rows.ensures.0 (off_left _ _ _ _ c.in_err-x.ensures)

pub returns-in_err-y : goal.returns-in_err-y
returns-in_err-y c =
    c.from_residual-in_err-y.ensures
    ∙ reached_by_lem c.args.self c.args.p c.requires.0 c.args.number c.requires.1 _ _ _ c.columns_on-columns.ensures.0
    c.rows_on-rows.ensures.0 (off_top _ _ _ _ c.in_err-y.ensures)

pub returns-then-x-self : goal.returns-then-x-self
returns-then-x-self c =
    reached_by_lem c.args.self c.args.p c.requires.0 c.args.number c.requires.1 _ _ _ c.columns_on-columns.ensures.0
    c.rows_on-rows.ensures.0 (off_right _ _ _ _ _ c.in_ok-y.y (omega (arith, c.in_ok-x.ensures)) (omega (arith, c.in_ok-y.ensures)) c.if-x-self.true)

pub returns-then-y-self : goal.returns-then-y-self
returns-then-y-self c =
    reached_by_lem c.args.self c.args.p c.requires.0 c.args.number c.requires.1 _ _ _ c.columns_on-columns.ensures.0
    c.rows_on-rows.ensures.0 (off_bottom _ _ _ _ _ _ (omega (arith, c.in_ok-x.ensures)) (omega (arith, c.in_ok-y.ensures)) c.if-x-self.false c.if-y-self.true)

pub returns : goal.returns
returns c =
    reached_by_lem c.args.self c.args.p c.requires.0 c.args.number c.requires.1 _ _ _ c.columns_on-columns.ensures.0
    c.rows_on-rows.ensures.0 (on_place _ _ _ _ _ _ (omega (arith, c.in_ok-x.ensures)) (omega (arith, c.in_ok-y.ensures)) c.if-x-self.false c.if-y-self.false)
