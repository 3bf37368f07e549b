-- `can_search` asks the questions of `canSearch` in their order; no product wraps, since notes are few.
use Rattle.walks.proofs.SearchTests.{search_1, search_2, search_3, search_4, search_5, search_6}
use Rattle.walks.proofs.doors.can_search.Goals as goal

pub returns-then-paths-ge65536 : goal.returns-then-paths-ge65536
returns-then-paths-ge65536 c = search_1 _ _ _ _ c.if-paths-ge65536.true

pub returns-then-paths-gt8 : goal.returns-then-paths-gt8
returns-then-paths-gt8 c = search_2 _ _ _ _ c.if-paths-ge65536.false c.if-paths-gt8.true

pub returns-then-paths-ge65536-2 : goal.returns-then-paths-ge65536-2
returns-then-paths-ge65536-2 c = search_3 _ _ _ _ c.if-paths-ge65536.false c.if-paths-gt8.false c.if-paths-ge65536-2.true

pub returns-then-rank-paths : goal.returns-then-rank-paths
returns-then-rank-paths c = search_4 _ _ _ _ c.if-paths-ge65536.false c.if-paths-gt8.false c.if-paths-ge65536-2.false c.if-rank-paths.true

pub returns-then-size-ends : goal.returns-then-size-ends
returns-then-size-ends c =
    search_5 _ _ _ _ c.if-paths-ge65536.false c.if-paths-gt8.false c.if-paths-ge65536-2.false c.if-rank-paths.false c.if-size-ends.true

pub returns : goal.returns
returns c = search_6 _ _ _ _ c.if-paths-ge65536.false c.if-paths-gt8.false c.if-paths-ge65536-2.false c.if-rank-paths.false c.if-size-ends.false
