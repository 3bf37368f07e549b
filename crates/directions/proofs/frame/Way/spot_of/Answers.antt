-- `spot_of` meets its contract: the lines are rows or columns of the plate, and the row and the column of a place are its two digits.
use mathlib.Core.Path.{sym, ◌∙◌}
use Rattle.directions.proofs.TraceLaws.{row_on, column_on, line_on, pixel_on, spot_by_rows, spot_by_columns}
use Rattle.directions.proofs.TableLaws.{frame_told}
use Rattle.directions.proofs.frame.Way.spot_of.Goals as goal

pub counted_from-requires : goal.counted_from-requires
counted_from-requires c =
    let p = c.requires in
    row_on _ _ _ _ _ (frame_told _ _ p.0 _ _ p.1 c.frame-frame.ensures).1 p.2 (sym c.by_rows.ensures ∙ c.if-by_rows.true)

pub counted_from-requires-then-by_rows : goal.counted_from-requires-then-by_rows
counted_from-requires-then-by_rows c =
    let p = c.requires in
    column_on _ _ _ _ _ (frame_told _ _ p.0 _ _ p.1 c.frame-frame.ensures).1 p.2 (sym c.by_rows.ensures ∙ c.if-by_rows.true)

pub returns-then-by_rows : goal.returns-then-by_rows
returns-then-by_rows c =
    spot_by_rows _ _ _ _ _ _ _ c.frame-frame.ensures (sym c.by_rows.ensures ∙ c.if-by_rows.true) c.counted_from.ensures.0
    c.counted_from-then-by_rows.ensures.0

pub counted_from-requires-2 : goal.counted_from-requires-2
counted_from-requires-2 c =
    let p = c.requires in
    line_on _ _ _ _ _ (frame_told _ _ p.0 _ _ p.1 c.frame-frame.ensures).1 p.2 (sym c.by_rows.ensures ∙ c.if-by_rows.false)

pub counted_from-requires-3 : goal.counted_from-requires-3
counted_from-requires-3 c =
    let p = c.requires in
    pixel_on _ _ _ _ _ (frame_told _ _ p.0 _ _ p.1 c.frame-frame.ensures).1 p.2 (sym c.by_rows.ensures ∙ c.if-by_rows.false)

pub returns : goal.returns
returns c =
    spot_by_columns _ _ _ _ _ _ _ c.frame-frame.ensures (sym c.by_rows.ensures ∙ c.if-by_rows.false) c.counted_from-2.ensures.0
    c.counted_from-3.ensures.0
