-- `bad_mode` asks the question of `bad_mode`.
use mathlib.Core.Path.{refl}
use Rattle.plate.specs.Refusals.{bad_mode}
use Rattle.plate.proofs.setting.bad_mode.Goals as goal

pub returns : goal.returns
unfolding bad_mode
returns c = refl
