-- `sweep_held` meets its contract by its two cases, states that are linked and states that are not: the rows that it holds have room.
use native.Mathlib.Omega.{arith}
use Rattle.sweeps.proofs.sweeping.sweep_held.Goals as goal

pub sweep_linked-requires : goal.sweep_linked-requires
sweep_linked-requires c =
    record { opposite = c.requires.opposite; plan_in_bounds = (c.requires.plan_in_bounds.1 c.if-ours.true, c.requires.plan_in_bounds.2); plan_in_bounds_2 = (omega (arith, c.requires.plan_bound), omega arith) }

pub sweep_apart-requires : goal.sweep_apart-requires
sweep_apart-requires c =
    record { opposite = (c.requires.opposite, c.if-ours.false); plan_in_bounds = (c.requires.plan_in_bounds.0, c.requires.plan_in_bounds.2); plan_in_bounds_2 = (omega (arith, c.requires.plan_bound), omega arith) }

pub shape_of-best-then-ours : goal.shape_of-best-then-ours
shape_of-best-then-ours c = c.sweep_linked.auto.best

pub shape_of-work-then-ours : goal.shape_of-work-then-ours
shape_of-work-then-ours c = c.sweep_linked.auto.work

pub returns-then-ours : goal.returns-then-ours
returns-then-ours c = c.sweep_linked.ensures

pub shape_of-best-else-ours : goal.shape_of-best-else-ours
shape_of-best-else-ours c = c.sweep_apart.auto.best

pub shape_of-work-else-ours : goal.shape_of-work-else-ours
shape_of-work-else-ours c = c.sweep_apart.auto.work

pub returns-else-ours : goal.returns-else-ours
returns-else-ours c = c.sweep_apart.ensures
