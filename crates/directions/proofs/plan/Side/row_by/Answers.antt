-- `row_by` meets its contract: its tests are those of `row_by`, in the same order.
use Prim.Native.Nat.{ℕ}
use mathlib.Core.Path.{sym, ap, ◌∙◌}
use mathlib.Core.Bool.{not}
use lib.Dec.{eqb}
use borrow.Author.Tests.{not-true, not-false}
use Rattle.directions.specs.Plans.{row_by, pixels_on}
use borrow.Author.Tests.{ne_eqb, eq-eqb}
use Rattle.directions.proofs.plan.Side.row_by.Goals as goal
use Rattle.directions.proofs.plan.Side.row_by.Goals.{else-moves-via-then-moves+else-pixels_on-ne1, else-moves-via-else-moves}

pub returns-then-not-self : goal.returns-then-not-self
unfolding row_by
returns-then-not-self c = rw (not-true c.args.self.frame.diagonal c.if-not-self.true)

pub returns-then-pixels_on-ne1 : goal.returns-then-pixels_on-ne1
unfolding row_by pixels_on
returns-then-pixels_on-ne1 c =
    rw (
      not-false c.args.self.frame.diagonal c.if-not-self.false,
      c.if-ranked.true,
      sym c.lines_on-moves.ensures ∙ c.if-moves.true,
      ap (λ (v : ℕ). not (eqb v 1)) (sym c.pixels_on.ensures.0) ∙ ap not (ne_eqb _ _ c.if-pixels_on-ne1.true),
    )

pub returns-then-ranked : goal.returns-then-ranked
unfolding row_by pixels_on
returns-then-ranked c =
    let is_diagonal = not-false c.args.self.frame.diagonal c.if-not-self.false in
    elim c.else-moves.branch [
      | else-moves-via-then-moves+else-pixels_on-ne1 w ↦ rw (
        is_diagonal,
        c.if-ranked.true,
        sym c.lines_on-moves.ensures ∙ w.if-moves.true,
        ap (λ (v : ℕ). not (eqb v 1)) (sym w.pixels_on.ensures.0) ∙ ap not (eq-eqb _ _ w.if-pixels_on-ne1.false),
      )
      | else-moves-via-else-moves w ↦ rw (is_diagonal, c.if-ranked.true, sym c.lines_on-moves.ensures ∙ w.if-moves.false)
    ]

pub returns-then-moves-2 : goal.returns-then-moves-2
unfolding row_by
returns-then-moves-2 c =
    let is_diagonal = not-false c.args.self.frame.diagonal c.if-not-self.false in
    rw (is_diagonal, c.if-ranked.false, sym c.lines_on-moves.ensures ∙ c.if-moves-2.true)

pub returns-else-moves-2 : goal.returns-else-moves-2
unfolding row_by
returns-else-moves-2 c =
    let is_diagonal = not-false c.args.self.frame.diagonal c.if-not-self.false in
    rw (is_diagonal, c.if-ranked.false, sym c.lines_on-moves.ensures ∙ c.if-moves-2.false)
