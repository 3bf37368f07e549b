-- `at_once` meets its contract: so many rows as find room twice in the held numbers are those of one state fewer and of the one before.
use Prim.Native.Nat.{◌/◌, ◌≤◌}
use native.Mathlib.Omega.{arith}
use Rattle.plans.specs.Plans.{block_of}
use Rattle.plans.proofs.FollowedSizes.{block_bound}
use Rattle.states.proofs.SizeLaws.{half_linked}
use Rattle.stacks.proofs.StackLaws.{two_places, half_many}
use Rattle.stacks.proofs.stack.at_once.Goals as goal
use Rattle.stacks.proofs.stack.at_once.Goals.{Then-followed}

-- there is room for two rows
two : (t : Then-followed) → let a = t.args in 2 ≤ a.held / 2 / block_of a.followed.plan
two t =
    let f = t.args.followed in
    two_places (t.args.held / 2) (block_of f.plan) (block_bound f.plan f.formed).0 (omega (arith, half_linked f.plan t.if-followed.true, t.requires))

pub overflow_sub-held : goal.overflow_sub-held
overflow_sub-held c = rw c.block_size.ensures.0 (omega (arith, two (goal.at.overflow_sub-held c).Then-followed))

pub returns-then-followed-clause-lower_bound : goal.returns-then-followed-clause-lower_bound
returns-then-followed-clause-lower_bound c =
    let f = c.args.followed in
    let r = rw c.block_size.ensures.0 at c.min.ensures in
    let room = two (goal.at.returns-then-followed-clause-lower_bound c).Then-followed in (
      omega (arith, r, room),
      omega (arith, r),
      half_many f.plan c.args.held c.min.result c.if-followed.true (omega (arith, r, room)) (omega (arith, r, room)),
    )
