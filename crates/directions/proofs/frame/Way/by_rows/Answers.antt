-- `along_rows` meets its contract: its tests are those of `by_rows`, in the same order.
use mathlib.Core.Path.{sym, ◌∙◌}
use borrow.Author.Tests.{eq-eqb, ne_eqb}
use Rattle.directions.specs.Plans.{by_rows}
use Rattle.directions.proofs.frame.Way.by_rows.Goals as goal

pub returns-then-columns_on-eq1 : goal.returns-then-columns_on-eq1
unfolding by_rows
returns-then-columns_on-eq1 c = rw (eq-eqb _ 1 (sym c.columns_on.ensures.0 ∙ c.if-columns_on-eq1.true))

pub returns-then-rows_on-eq1 : goal.returns-then-rows_on-eq1
unfolding by_rows
returns-then-rows_on-eq1 c =
    rw (
      ne_eqb _ 1 (λ z. c.if-columns_on-eq1.false (c.columns_on.ensures.0 ∙ z)),
      eq-eqb _ 1 (sym c.rows_on.ensures.0 ∙ c.if-rows_on-eq1.true),
    )

pub returns : goal.returns
unfolding by_rows
returns c =
    rw (
      ne_eqb _ 1 (λ z. c.if-columns_on-eq1.false (c.columns_on.ensures.0 ∙ z)),
      ne_eqb _ 1 (λ z. c.if-rows_on-eq1.false (c.rows_on.ensures.0 ∙ z)),
    )
