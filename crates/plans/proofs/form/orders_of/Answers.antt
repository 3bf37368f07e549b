-- The sum in `orders_of` is small, since the area lies on the frame.
use native.Mathlib.Omega.{arith}
use Rattle.plans.proofs.FormFacts.{frame_facts, limits_facts}
use Rattle.plans.proofs.form.orders_of.Goals as goal

pub overflow_add-result : goal.overflow_add-result
overflow_add-result c = omega (arith, frame_facts c.args.plan c.requires.1, limits_facts c.args.plan c.requires.0)
