-- `state_size` meets its contract: a state has few rows, and a row few numbers.
use mathlib.Core.Path.{refl}
use native.Mathlib.Omega.{arith}
use Rattle.plans.proofs.FollowedSizes.{row_bound, state_bound}
use Rattle.plans.proofs.followed.Followed.state_size.Goals as goal

pub overflow_mul-result : goal.overflow_mul-result
overflow_mul-result c = let s = c.args.self in omega (arith, row_bound s.plan s.formed)

pub overflow_mul-result-2 : goal.overflow_mul-result-2
overflow_mul-result-2 c = let s = c.args.self in omega (arith, state_bound s.plan s.formed)

pub returns : goal.returns
returns c = let s = c.args.self in (refl, state_bound s.plan s.formed)
