use Prim.Native.Nat.{ℕ, ◌<◌, ◌≤◌, min, max}
use mathlib.Core.Path.{◌≡◌}
use lib.ListN.{get_or}
use Rattle.eights.specs.Turned.{turned}
use Rattle.states.proofs.runs.fold_run.Given as goal

abbrev pub invariant-loop-i : goal.invariant-loop-i
invariant-loop-i l = ((k : ℕ) → k < l.i → get_or l.best k 0 ≡ max (get_or l.initial.best k 0) (min (turned (get_or l.held k 0)) (get_or l.work k 0)))
    × ((k : ℕ) → l.i ≤ k → get_or l.best k 0 ≡ get_or l.initial.best k 0)
