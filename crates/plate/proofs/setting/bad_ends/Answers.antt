-- `bad_ends` asks the question of `bad_ends`.
use mathlib.Core.Path.{refl}
use Rattle.plate.specs.Refusals.{bad_ends}
use Rattle.plate.proofs.setting.bad_ends.Goals as goal

pub returns : goal.returns
unfolding bad_ends
returns c = refl
