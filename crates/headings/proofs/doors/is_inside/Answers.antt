-- `is_inside` asks the questions of `inside` in their order.
use Rattle.headings.proofs.DoorTests.{inside_1, inside_2, inside_3, inside_4}
use Rattle.headings.proofs.doors.is_inside.Goals as goal

pub returns-then-size-gt65536 : goal.returns-then-size-gt65536
returns-then-size-gt65536 c = inside_1 _ _ _ _ c.if-size-gt65536.true

pub returns-then-start-size : goal.returns-then-start-size
returns-then-start-size c = inside_2 _ _ _ _ c.if-size-gt65536.false c.if-start-size.true

pub returns-then-backwards : goal.returns-then-backwards
returns-then-backwards c = inside_3 _ _ _ _ c.if-size-gt65536.false c.if-start-size.false c.if-backwards.true

pub returns : goal.returns
returns c = inside_4 _ _ _ _ c.if-size-gt65536.false c.if-start-size.false c.if-backwards.false
