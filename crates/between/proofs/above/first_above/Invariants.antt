use Rattle.between.specs.Lengths.{ReadTo}
use Rattle.between.proofs.Scanning.{PassedTo}
use Rattle.between.proofs.above.first_above.Given as goal

abbrev pub invariant-loop-x : goal.invariant-loop-x
invariant-loop-x l = PassedTo l.lowest l.highest l.x × ReadTo l.x l.lowest l.highest
