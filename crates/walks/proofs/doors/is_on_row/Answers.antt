-- `is_on_row` asks the questions of `on_row` in their order.
use Rattle.walks.proofs.DoorTests.{row_1, row_2, row_3, row_4}
use Rattle.walks.proofs.doors.is_on_row.Goals as goal

pub returns-then-stand-ge65536 : goal.returns-then-stand-ge65536
returns-then-stand-ge65536 c = row_1 _ _ c.if-stand-ge65536.true

pub returns-then-stand-rows_in : goal.returns-then-stand-rows_in
returns-then-stand-rows_in c = row_2 _ _ c.if-stand-ge65536.false c.rows_in.result c.rows_in.ensures c.if-stand-rows_in.true

pub returns-then-stand-plan : goal.returns-then-stand-plan
returns-then-stand-plan c = row_3 _ _ c.if-stand-ge65536.false c.rows_in.result c.rows_in.ensures c.if-stand-rows_in.false c.if-stand-plan.true

pub returns : goal.returns
returns c = row_4 _ _ c.if-stand-ge65536.false c.rows_in.result c.rows_in.ensures c.if-stand-rows_in.false c.if-stand-plan.false
