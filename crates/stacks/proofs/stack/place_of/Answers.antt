-- `place_of` meets its contract: no product wraps, since a stack has at most 64 states and a state is small.
use native.Mathlib.Omega.{arith}
use Rattle.plans.proofs.FormLaws.{well_formed_sound}
use Rattle.stacks.proofs.StackLaws.{states_below}
use Rattle.stacks.proofs.stack.place_of.Goals as goal

pub overflow_mul-result : goal.overflow_mul-result
overflow_mul-result c =
    let f = c.args.followed in rw c.state_size.ensures.0 (omega (arith, states_below f.plan c.args.t (well_formed_sound _ f.formed) c.requires.0))

pub overflow_add-result : goal.overflow_add-result
overflow_add-result c =
    let f = c.args.followed in rw c.state_size.ensures.0 (omega (arith, c.requires.1, states_below f.plan c.args.t (well_formed_sound _ f.formed) c.requires.0))
