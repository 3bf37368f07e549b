use Prim.Native.Nat.{◌+◌, ◌≤◌, ◌<◌}
use mathlib.Core.Path.{◌≡◌}
use mathlib.Core.Logic.{◌⊎◌}
use lib.ListN.{length}
use Rattle.plans.specs.Plans.{state_size, keys_size}
use Rattle.stacks.proofs.StackLaws.{Running}
use Rattle.stacks.proofs.stack.run_on.Given as goal

abbrev pub invariant-loop-e : goal.invariant-loop-e
invariant-loop-e l = (length l.held ≡ length l.initial.held)
    × (l.e < l.past)
    × ((keys_size l.followed.plan ≤ l.before) × (l.before + state_size l.followed.plan ≤ length l.initial.work))
    × ((l.before ≡ l.to) ⊎ (l.before + state_size l.followed.plan ≤ l.to))
    × Running l.followed.plan l.first l.e l.initial.work l.work l.from l.to l.before
