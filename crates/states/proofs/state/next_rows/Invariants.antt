use Rattle.eights.specs.Turned.{numbers}
use Rattle.states.proofs.StretchLaws.{RowsTo}
use Rattle.states.proofs.state.next_rows.Given as goal

abbrev pub invariant-loop-e : goal.invariant-loop-e
invariant-loop-e l = RowsTo l.followed.plan l.batch.states.first l.batch.states.past l.m l.e l.work l.slots (numbers l.initial.held) (numbers l.held)
