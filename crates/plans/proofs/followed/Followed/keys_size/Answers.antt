-- `keys_size` meets its contract: a frame has few pixels.
use mathlib.Core.Path.{refl}
use native.Mathlib.Omega.{arith}
use Rattle.plans.proofs.FormFacts.{formed}
use Rattle.plans.proofs.followed.Followed.keys_size.Goals as goal

pub overflow_mul-result : goal.overflow_mul-result
overflow_mul-result c = let s = c.args.self in omega (arith, (formed s.plan s.formed).limits.few_pixels)

pub returns : goal.returns
returns c = let s = c.args.self in (refl, (formed s.plan s.formed).limits.few_pixels)
