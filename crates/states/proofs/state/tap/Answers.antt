-- `tap` meets its contract: the three places of the definition.
use native.Mathlib.Omega.{arith}
use Rattle.states.proofs.HoldingLaws.{tap_own, tap_before, tap_beside}
use Rattle.states.proofs.state.tap.Goals as goal

pub returns-then-y-eq0 : goal.returns-then-y-eq0
returns-then-y-eq0 c = let a = c.args in omega (arith, tap_own a.followed.plan a.slots a.y c.if-y-eq0.true)

pub overflow_add-result-then-y-eq1 : goal.overflow_add-result-then-y-eq1
overflow_add-result-then-y-eq1 c = omega (arith, c.block_size-block.ensures)

pub overflow_add-result-then-y-eq1-2 : goal.overflow_add-result-then-y-eq1-2
overflow_add-result-then-y-eq1-2 c = omega (arith, c.block_size-block.ensures)

pub returns-then-y-eq1 : goal.returns-then-y-eq1
returns-then-y-eq1 c = let a = c.args in omega (arith, tap_before a.followed.plan a.slots a.y (omega arith))

pub overflow_add-result-2 : goal.overflow_add-result-2
overflow_add-result-2 c = omega (arith, c.block_size-block.ensures)

pub overflow_add-result-3 : goal.overflow_add-result-3
overflow_add-result-3 c = omega (arith, c.block_size-block.ensures)

pub returns : goal.returns
returns c =
    let a = c.args in
    omega (arith, tap_beside a.followed.plan a.slots a.y (omega arith) (omega arith))
