-- `bad_directions` asks the two questions of `bad_directions`.
use native.Mathlib.Omega.{arith}
use Rattle.plate.specs.Refusals.{bad_directions}
use Rattle.plate.proofs.setting.bad_directions.Goals as goal

pub returns-then-directions-eq0 : goal.returns-then-directions-eq0
unfolding bad_directions
returns-then-directions-eq0 c = grind arith

pub returns-else-directions-eq0 : goal.returns-else-directions-eq0
unfolding bad_directions
returns-else-directions-eq0 c = grind arith
