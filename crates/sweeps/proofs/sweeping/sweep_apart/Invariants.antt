use mathlib.Core.Path.{◌≡◌}
use lib.ListN.{length}
use Rattle.sweeps.proofs.SweepLaws.{SweptTo}
use Rattle.sweeps.proofs.sweeping.sweep_apart.Given as goal

abbrev pub invariant-loop-e : goal.invariant-loop-e
invariant-loop-e l = (length l.best ≡ length l.initial.best) × (length l.work ≡ length l.initial.work) × (length l.held ≡ length l.initial.held)
    × SweptTo l.ours.plan l.theirs.plan l.states l.e l.initial.work l.initial.best l.work l.best l.base
