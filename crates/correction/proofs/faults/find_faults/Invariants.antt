use mathlib.Core.Path.{◌≡◌}
use Rattle.correction.specs.Faults.{faults_after}
use Rattle.correction.proofs.faults.find_faults.Given as goal

abbrev pub invariant-loop-i : goal.invariant-loop-i
invariant-loop-i l = l.faults ≡ faults_after l.i l.readings l.words
