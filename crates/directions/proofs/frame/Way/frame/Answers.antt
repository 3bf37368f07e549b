-- `frame` meets its contract: what it reads of the middle step gives the frame of the direction, its lines rows or columns.
use mathlib.Core.Path.{◌≡◌, sym, ◌∙◌}
use mathlib.Core.Bool.{not, ◌&&◌}
use lib.Dec.{eqb}
use Rattle.directions.proofs.TableLaws.{frame_by_rows, frame_by_columns, changes_both, changes_one}
use Rattle.directions.proofs.frame.Way.frame.Goals as goal
use Rattle.directions.proofs.frame.Way.frame.Goals.{Joined-column-ne1, then-column-ne1, else-column-ne1}

-- whether the middle step changes column and row
is_diagonal :
    (c : Joined-column-ne1) →
    c.if-column-ne1.diagonal ≡ (not (eqb c.columns_on-column.result 1) && not (eqb c.rows_on-row.result 1))
is_diagonal c =
    let column = c.columns_on-column.result in
    let row = c.rows_on-row.result in
    elim c.if-column-ne1.branch [ then-column-ne1 w ↦ changes_both _ column row w.if-column-ne1.true w.diagonal-is | else-column-ne1 w ↦ changes_one _ column row w.if-column-ne1.false w.diagonal-is ]

pub returns-then-by_rows : goal.returns-then-by_rows
returns-then-by_rows c =
    frame_by_rows _ _ _ _ _ _ c.columns_on-column.ensures.0 c.rows_on-row.ensures.0 (is_diagonal (goal.at.returns-then-by_rows c).Joined-column-ne1)
    (sym c.by_rows.ensures ∙ c.if-by_rows.true)

pub returns : goal.returns
returns c =
    frame_by_columns _ _ _ _ _ _ c.columns_on-column.ensures.0 c.rows_on-row.ensures.0 (is_diagonal (goal.at.returns c).Joined-column-ne1)
    (sym c.by_rows.ensures ∙ c.if-by_rows.false)
