use Rattle.walks.proofs.Picking.{Missed}
use Rattle.walks.proofs.far_end.find_among.Given as goal

abbrev pub invariant-loop-row : goal.invariant-loop-row
invariant-loop-row l = Missed l.work l.slack l.base l.followed.plan l.rows.state l.gaps l.t l.rows.first l.row
