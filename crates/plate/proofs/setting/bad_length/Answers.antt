-- `bad_length` asks the two questions of `bad_length`.
use native.Mathlib.Omega.{arith}
use Rattle.plate.specs.Refusals.{bad_length}
use Rattle.plate.proofs.setting.bad_length.Goals as goal

pub returns-then-length-eq0 : goal.returns-then-length-eq0
unfolding bad_length
returns-then-length-eq0 c = grind arith

pub returns-else-length-eq0 : goal.returns-else-length-eq0
unfolding bad_length
returns-else-length-eq0 c = grind arith
