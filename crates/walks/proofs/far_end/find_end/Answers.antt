-- `find_end` meets its contract: on ranks all rows of the state have so many steps, on lines one row has.
use Rattle.walks.proofs.Picking.{ranks_picked, lines_picked}
use Rattle.walks.proofs.far_end.find_end.Goals as goal

pub returns-then-followed : goal.returns-then-followed
returns-then-followed c =
    let a = c.args in
    ranks_picked _ a.followed.plan a.steps a.gaps a.t _ c.if-followed.true (rw c.rows_in.ensures at c.find_among.ensures)

pub returns : goal.returns
returns c =
    let a = c.args in
    lines_picked _ a.followed.plan a.steps a.gaps a.t _ c.if-followed.false c.find_among-2.ensures
