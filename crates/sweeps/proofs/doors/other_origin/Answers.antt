-- `other_origin` meets its contract: the sums are small and the differences exist, since the area lies on the frame.
use native.Mathlib.Omega.{arith}
use Rattle.plans.proofs.FormFacts.{formed}
use Rattle.sweeps.proofs.doors.other_origin.Goals as goal

pub overflow_add-result : goal.overflow_add-result
overflow_add-result c = let f = formed c.args.followed.plan c.args.followed.formed in omega (arith, f.limits, f.area)

pub overflow_add-result-in-false-true : goal.overflow_add-result-in-false-true
overflow_add-result-in-false-true c = let f = formed c.args.followed.plan c.args.followed.formed in omega (arith, f.limits, f.area)

pub overflow_sub-result : goal.overflow_sub-result
overflow_sub-result c = omega (arith, (formed c.args.followed.plan c.args.followed.formed).area)

pub overflow_sub-result-in-false-false : goal.overflow_sub-result-in-false-false
overflow_sub-result-in-false-false c = omega (arith, (formed c.args.followed.plan c.args.followed.formed).area)
