-- The setting has each number in the field of its name, by computing both sides.
use mathlib.Core.Path.{refl}
use Rattle.diilvak.proofs.taking.setting_of.Goals as goal

pub returns : goal.returns
returns c = refl
