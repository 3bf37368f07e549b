-- `stands_on` asks the questions of `stands_on` in their order.
use native.Mathlib.Omega.{arith}
use mathlib.Core.Path.{sym, ◌∙◌}
use Rattle.plate.proofs.Sizes.{good_size}
use Rattle.headings.proofs.DoorTests.{stand_1, stand_2, stand_3}
use Rattle.headings.proofs.doors.stands_on.Goals as goal

pub returns-then-bad_size : goal.returns-then-bad_size
returns-then-bad_size c = stand_1 _ _ _ _ (sym c.bad_size.ensures ∙ c.if-bad_size.true)

pub returns-then-index-ge-DIRECTIONS : goal.returns-then-index-ge-DIRECTIONS
returns-then-index-ge-DIRECTIONS c = stand_2 _ _ _ _ (sym c.bad_size.ensures ∙ c.if-bad_size.false) c.if-index-ge-DIRECTIONS.true

pub overflow_mul-result : goal.overflow_mul-result
overflow_mul-result c = omega (arith, (good_size _ _ (sym c.bad_size.ensures ∙ c.if-bad_size.false)).few)

pub returns : goal.returns
returns c = stand_3 _ _ _ _ (sym c.bad_size.ensures ∙ c.if-bad_size.false) c.if-index-ge-DIRECTIONS.false
