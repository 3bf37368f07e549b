use Rattle.engine.proofs.FinishLaws.{FinishedTo}
use Rattle.engine.proofs.finish.finish.Given as goal

abbrev pub invariant-loop-x : goal.invariant-loop-x
invariant-loop-x l = FinishedTo l.mode l.plate l.initial.res l.res l.x
