-- `bad_size` asks the questions of `bad_size` in its order; the product is small where it is formed.
use native.Mathlib.Omega.{arith}
use native.Mathlib.Nat.{mul-le-mul}
use Rattle.plate.specs.Refusals.{bad_size}
use Rattle.plate.proofs.size.bad_size.Goals as goal

pub returns-then-height-gt-MAX_SIDE : goal.returns-then-height-gt-MAX_SIDE
unfolding bad_size
returns-then-height-gt-MAX_SIDE c = grind arith

pub returns-else-height-gt-MAX_SIDE : goal.returns-else-height-gt-MAX_SIDE
unfolding bad_size
returns-else-height-gt-MAX_SIDE c = grind arith

pub overflow_mul-result : goal.overflow_mul-result
overflow_mul-result c =
    omega (arith, mul-le-mul {n₁ = c.args.width} {m₁ = c.args.height} {n₂ = 1024} {m₂ = 1024} (omega arith) (omega arith))
