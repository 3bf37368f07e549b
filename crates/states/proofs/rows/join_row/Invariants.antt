use Rattle.plans.specs.Plans.{pitch_of}
use Rattle.eights.specs.Turned.{numbers}
use Rattle.states.proofs.JoinLaws.{Folded, lower}
use Rattle.states.proofs.rows.join_row.Given as goal

abbrev pub invariant-loop-j : goal.invariant-loop-j
invariant-loop-j l = Folded (lower (numbers l.held) l.work l.slot l.at l.plan.planes (pitch_of l.plan) l.plan.across) l.initial.best l.best l.row.at l.j l.row.lo l.row.hi
