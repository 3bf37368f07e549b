use Prim.Native.Nat.{◌*◌}
use Rattle.directions.specs.Gathering.{Risen}
use Rattle.directions.proofs.gather.raise.Given as goal

abbrev pub invariant-loop-row : goal.invariant-loop-row
invariant-loop-row l = Risen l.kept.frame l.kept.ranked l.best l.initial.res l.res 0 (l.row * l.kept.frame.across)
