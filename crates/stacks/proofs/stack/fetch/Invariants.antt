use Prim.Native.Nat.{◌+◌, ◌-◌, ◌≤◌}
use mathlib.Core.Path.{◌≡◌}
use lib.ListN.{length}
use Rattle.stacks.specs.Stacks.{last_mark}
use Rattle.stacks.proofs.StackLaws.{Fetching}
use Rattle.stacks.proofs.stack.fetch.Given as goal

abbrev pub invariant-loop-next : goal.invariant-loop-next
invariant-loop-next l = (l.depth ≤ l.stack.places)
    × (l.made ≡ last_mark l.marks l.depth)
    × (l.made ≤ l.want)
    × (l.stack.places - l.depth ≡ 0 → l.want ≤ l.made + l.spare)
    × Fetching l.followed.plan l.stack l.depth l.want l.initial.work l.initial.marks l.work l.marks
    × (length l.held ≡ length l.initial.held)

abbrev pub decreases-loop-next : goal.decreases-loop-next
decreases-loop-next l = l.stack.places - l.depth
