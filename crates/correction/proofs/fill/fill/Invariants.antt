use mathlib.Core.Path.{◌≡◌}
use mathlib.Core.List.{◌++◌}
use lib.ListN.{length, take, drop}
use Rattle.plate.specs.Levels.{corrected_plate}
use Rattle.correction.proofs.fill.fill.Given as goal

abbrev pub invariant-loop-i : goal.invariant-loop-i
invariant-loop-i l = (length l.res ≡ length l.initial.res) × (l.res ≡ take l.i (corrected_plate l.readings l.words) ++ drop l.i l.initial.res)
