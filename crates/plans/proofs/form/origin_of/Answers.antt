-- The sums in `origin_of` are small, since the area lies on the frame.
use native.Mathlib.Omega.{arith}
use Rattle.plans.proofs.FormFacts.{frame_facts, limits_facts}
use Rattle.plans.proofs.form.origin_of.Goals as goal

pub overflow_add-result : goal.overflow_add-result
overflow_add-result c = omega (arith, frame_facts c.args.plan c.requires.1, limits_facts c.args.plan c.requires.0)

pub overflow_add-result-in-false-true : goal.overflow_add-result-in-false-true
overflow_add-result-in-false-true c = omega (arith, frame_facts c.args.plan c.requires.1, limits_facts c.args.plan c.requires.0)
