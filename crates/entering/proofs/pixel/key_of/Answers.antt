-- `key_of` takes the plate's number and the place of the pixel, and the mode of the setting.
use mathlib.Core.Path.{refl}
use Rattle.entering.proofs.pixel.key_of.Goals as goal

pub returns : goal.returns
returns c = refl
