-- The constant is the defined version, by computing both.
use mathlib.Core.Path.{refl}
use Rattle.diilvak.proofs.diilvak_version.Goals as goal

pub returns : goal.returns
returns c = refl
