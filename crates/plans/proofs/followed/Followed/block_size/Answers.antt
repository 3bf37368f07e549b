-- `block_size` meets its contract: there are few planes, each of few numbers.
use mathlib.Core.Path.{refl}
use native.Mathlib.Omega.{arith}
use Rattle.plans.proofs.FormFacts.{formed}
use Rattle.plans.proofs.FollowedSizes.{block_bound}
use Rattle.plans.proofs.followed.Followed.block_size.Goals as goal

pub overflow_add-result : goal.overflow_add-result
overflow_add-result c = let s = c.args.self in omega (arith, (formed s.plan s.formed).limits.few_across)

pub overflow_mul-result : goal.overflow_mul-result
overflow_mul-result c = let s = c.args.self in omega (arith, block_bound s.plan s.formed)

pub returns : goal.returns
returns c = let b = block_bound c.args.self.plan c.args.self.formed in (refl, b.0, b.1)
