use Prim.Native.Nat.{◌+◌, ◌*◌}
use Rattle.directions.specs.Gathering.{Risen}
use Rattle.directions.proofs.gather.raise_row.Given as goal

abbrev pub invariant-loop-x : goal.invariant-loop-x
invariant-loop-x l =
    let at = l.row * l.kept.frame.across in
    Risen l.kept.frame l.kept.ranked l.best l.initial.res l.res at (at + l.x)
