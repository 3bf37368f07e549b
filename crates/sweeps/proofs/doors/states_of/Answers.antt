-- `states_of` meets its contract: a plate has few lines and ranks.
use native.Mathlib.Omega.{arith}
use Rattle.plans.proofs.FormFacts.{formed}
use Rattle.sweeps.proofs.DoorTests.{orders_few}
use Rattle.sweeps.proofs.doors.states_of.Goals as goal

pub overflow_add-plan : goal.overflow_add-plan
overflow_add-plan c = omega (arith, orders_few c.args.followed.plan (formed c.args.followed.plan c.args.followed.formed))
