-- `put` stores one byte.
use native.Mathlib.Omega.{arith}
use mathlib.Core.Path.{refl}
use Rattle.surveying.proofs.Written.{placed_one}
use Rattle.surveying.proofs.writing.Writer.put.Goals as goal

pub returns : goal.returns
returns c = record { same = refl; behind = refl; holds = placed_one _ _ _ (omega (arith, c.requires.fits)) }
