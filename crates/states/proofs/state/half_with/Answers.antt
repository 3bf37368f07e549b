-- `half_with` meets its contract: as many rows of at most 9360 numbers as there are states.
use Prim.Native.Nat.{◌*◌, ◌≤◌}
use native.Mathlib.Nat.{mul-le-mul}
use native.Mathlib.Omega.{arith}
use Rattle.states.proofs.SizeLaws.{half_linked, half_alone}
use Rattle.states.proofs.state.half_with.Goals as goal
use Rattle.states.proofs.state.half_with.Goals.{After-block_size-block}

small : (s : After-block_size-block) → s.args.more * s.block_size-block.result ≤ 613407600
small s =
    mul-le-mul {n₁ = s.args.more} {m₁ = s.block_size-block.result} {n₂ = 65535} {m₂ = 9360} (omega (arith, s.requires)) s.block_size-block.ensures.2

pub overflow_mul-others : goal.overflow_mul-others
overflow_mul-others c = omega (arith, small (goal.at.overflow_mul-others c).After-block_size-block)

pub overflow_add-result : goal.overflow_add-result
overflow_add-result c = omega (arith, c.block_size-block.ensures)

pub overflow_add-result-then-followed : goal.overflow_add-result-then-followed
overflow_add-result-then-followed c =
    omega (arith, c.block_size-block.ensures, small (goal.at.overflow_add-result-then-followed c).After-block_size-block)

pub overflow_add-result-else-followed : goal.overflow_add-result-else-followed
overflow_add-result-else-followed c =
    omega (arith, c.block_size-block.ensures, small (goal.at.overflow_add-result-else-followed c).After-block_size-block)

pub returns-then-followed : goal.returns-then-followed
returns-then-followed c =
    let few = small (goal.at.returns-then-followed c).After-block_size-block in
    let b = c.block_size-block.ensures in
    (rw b.0 (omega (arith, half_linked c.args.followed.plan c.if-followed.true)), omega (arith, few, b))

pub returns-else-followed : goal.returns-else-followed
returns-else-followed c =
    let few = small (goal.at.returns-else-followed c).After-block_size-block in
    let b = c.block_size-block.ensures in
    (rw b.0 (omega (arith, half_alone c.args.followed.plan c.if-followed.false)), omega (arith, few, b))
