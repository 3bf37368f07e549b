use mathlib.Core.Path.{◌≡◌}
use lib.ListN.{length}
use Rattle.sweeps.proofs.SweepLaws.{SweptTo, StackKept, StackAt}
use Rattle.sweeps.proofs.sweeping.sweep_linked.Given as goal

abbrev pub invariant-loop-e : goal.invariant-loop-e
invariant-loop-e l = (length l.best ≡ length l.initial.best) × (length l.work ≡ length l.initial.work) × (length l.held ≡ length l.initial.held)
    × (length l.marks ≡ 64) × StackAt l.ours.plan l.places l.stack × SweptTo l.ours.plan l.theirs.plan l.states l.e l.initial.work l.initial.best l.work l.best l.ends
    × StackKept l.ours.plan l.states l.initial.work l.work l.marks l.stack.base l.stack.depth
