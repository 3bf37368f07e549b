-- `text` writes over the bytes from the writer's place on.
use mathlib.Core.Path.{refl}
use Rattle.surveying.proofs.Written.{placed_text}
use Rattle.surveying.proofs.writing.Writer.text.Goals as goal

pub returns : goal.returns
returns c = record { same = refl; behind = refl; holds = placed_text _ _ _ _ c.copy_from_slice.ensures.after }
