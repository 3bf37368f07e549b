-- `is_bad_reading` asks the question of `bad_reading`.
use mathlib.Core.Path.{refl}
use Rattle.plate.specs.Refusals.{bad_reading}
use Rattle.correction.proofs.faults.is_bad_reading.Goals as goal

pub returns : goal.returns
unfolding bad_reading
returns c = refl
