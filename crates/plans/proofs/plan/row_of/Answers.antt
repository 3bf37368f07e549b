-- `row_of` meets its contract: what its calls say together, where the numbers are small.
use mathlib.Core.Path.{◌∙◌, ap, sym}
use native.Mathlib.Omega.{arith}
use Rattle.plans.specs.Plans.{line_of, first_in, past_in, keys_of}
use Rattle.plans.proofs.RowForms.{row_none, row_some, small_facts, order_small}
use Rattle.plans.proofs.plan.row_of.Goals as goal

pub returns-then-not-is_small : goal.returns-then-not-is_small
returns-then-not-is_small c = row_none _ _ _ (sym c.is_small.ensures ∙ c.if-not-is_small.true)

pub order_of-requires : goal.order_of-requires
order_of-requires c = let s = small_facts _ _ _ (sym c.is_small.ensures ∙ c.if-not-is_small.false) in (s.state, s.row)

pub line_of-line-requires : goal.line_of-line-requires
line_of-line-requires c =
    let a = c.args in
    let s = small_facts _ _ _ (sym c.is_small.ensures ∙ c.if-not-is_small.false) in
    (omega (arith, c.order_of.ensures, order_small a.plan a.e a.m, s.state, s.row), s.origin)

pub keys_of-requires : goal.keys_of-requires
keys_of-requires c = let s = small_facts _ _ _ (sym c.is_small.ensures ∙ c.if-not-is_small.false) in (c.line_of-line.ensures.1, s.across)

pub returns : goal.returns
returns c =
    let p = c.args.plan in
    let line = c.line_of-line.ensures.0 ∙ ap (line_of p) c.order_of.ensures in
    row_some _ _ _ _ (sym c.is_small.ensures ∙ c.if-not-is_small.false) (c.first_in.ensures ∙ ap (first_in p) line)
    (c.past_in.ensures ∙ ap (past_in p) line)
    (c.keys_of.ensures ∙ ap (keys_of p) line)
