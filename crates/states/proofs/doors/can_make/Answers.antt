-- `can_make` asks the questions of `can_make` in their order; the first, that the plan can be followed, is answered by its type.
use mathlib.Core.Path.{◌∙◌}
use native.Mathlib.Omega.{arith}
use Rattle.states.proofs.DoorTests.{make_2, make_3, make_4}
use Rattle.states.proofs.doors.can_make.Goals as goal

pub returns-then-states : goal.returns-then-states
returns-then-states c = make_2 _ _ _ c.args.followed.formed c.if-states.true

pub returns-then-states-gt65536 : goal.returns-then-states-gt65536
returns-then-states-gt65536 c = make_3 _ _ _ c.args.followed.formed c.if-states.false c.if-states-gt65536.true

pub held_fits-requires : goal.held_fits-requires
held_fits-requires c = omega (arith, c.if-states.false, c.if-states-gt65536.false)

pub returns : goal.returns
returns c = c.held_fits.ensures ∙ make_4 _ _ _ c.args.followed.formed c.if-states.false c.if-states-gt65536.false
