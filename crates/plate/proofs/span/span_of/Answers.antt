-- `span_of` tells the directions apart by the middle step, whose two entries are read from the table; the size keeps the sum small.
use mathlib.Core.Path.{◌≡◌, sym, ap, ◌∙◌}
use mathlib.Core.Bool.{false}
use native.Mathlib.Omega.{arith}
use mir.Syntax.{w8}
use mir.Val.{of_z}
use Rattle.plate.specs.Refusals.{bad_size}
use Rattle.plate.specs.Sizes.{GoodSize}
use Rattle.plate.proofs.Sizes.{good_size}
use Rattle.plate.proofs.Spans.{no_size, no_direction, span_rows, span_columns, span_diagonal}
use Rattle.plate.proofs.span.span_of.Goals as goal
use Rattle.plate.proofs.span.span_of.Goals.{Else-bad_size}

-- the size is good after the first test
not_bad : (c : Else-bad_size) → bad_size c.args.width c.args.height ≡ false
not_bad c = sym c.bad_size.ensures ∙ c.if-bad_size.false

sized : (c : Else-bad_size) → GoodSize c.args.width c.args.height
sized c = good_size _ _ (not_bad c)

pub returns-then-bad_size : goal.returns-then-bad_size
returns-then-bad_size c = no_size _ _ _ (sym c.bad_size.ensures ∙ c.if-bad_size.true)

pub returns-then-index-ge-DIRECTIONS : goal.returns-then-index-ge-DIRECTIONS
returns-then-index-ge-DIRECTIONS c = no_direction _ _ _ (not_bad (goal.at.returns-then-index-ge-DIRECTIONS c).Else-bad_size) c.if-index-ge-DIRECTIONS.true

pub returns-then-column_change-eq0 : goal.returns-then-column_change-eq0
returns-then-column_change-eq0 c =
    span_rows _ _ _ (not_bad (goal.at.returns-then-column_change-eq0 c).Else-bad_size) c.if-index-ge-DIRECTIONS.false (ap (of_z w8) (sym c.column_change.ensures) ∙ c.if-column_change-eq0.true)

pub returns-then-row_change-eq0 : goal.returns-then-row_change-eq0
returns-then-row_change-eq0 c =
    span_columns _ _ _ (not_bad (goal.at.returns-then-row_change-eq0 c).Else-bad_size) c.if-index-ge-DIRECTIONS.false (ap (of_z w8) (sym c.row_change.ensures) ∙ c.if-row_change-eq0.true)

pub overflow_add-result : goal.overflow_add-result
overflow_add-result c = let g = sized (goal.at.overflow_add-result c).Else-bad_size in omega (arith, g.narrow, g.low)

pub overflow_sub-result : goal.overflow_sub-result
overflow_sub-result c = let g = sized (goal.at.overflow_sub-result c).Else-bad_size in omega (arith, g.wide)

pub returns : goal.returns
returns c =
    span_diagonal _ _ _ (not_bad (goal.at.returns c).Else-bad_size) c.if-index-ge-DIRECTIONS.false
    (λ e. c.if-column_change-eq0.false (ap (of_z w8) c.column_change.ensures ∙ e))
    (λ e. c.if-row_change-eq0.false (ap (of_z w8) c.row_change.ensures ∙ e))
