-- `number` is the table's number, reason by reason.
use mathlib.Core.Path.{◌≡◌, refl}
use Prim.Native.Nat.{◌+◌}
use denote.Enum.Declared.{tag_of}
use Rattle.plate.specs.Answers.{number_by}
use Rattle.plate.specs.contracts.refusal.Reason.{the_type}
use Rattle.plate.specs.declared.refusal.Reason.{Reason}
use Rattle.plate.specs.declared.refusal.Reason.TheVariants.{Size, Length, Gaps, Directions, Mode, Input, Result, Work, Reading, Correction, Place, NoPath, Line, Text, Full, Spent, NoEntry, Ends, Figure, Bounds}
use Rattle.plate.proofs.refusal.Reason.number.Goals as goal

tag_number : (reason : Reason) → tag_of the_type reason + 1 ≡ number_by reason
tag_number Size = refl
tag_number Length = refl
tag_number Gaps = refl
tag_number Directions = refl
tag_number Mode = refl
tag_number Input = refl
tag_number Result = refl
tag_number Work = refl
tag_number Reading = refl
tag_number Correction = refl
tag_number Place = refl
tag_number NoPath = refl
tag_number Line = refl
tag_number Text = refl
tag_number Full = refl
tag_number Spent = refl
tag_number NoEntry = refl
tag_number Ends = refl
tag_number Figure = refl
tag_number Bounds = refl

pub returns : goal.returns
returns c = tag_number c.args.self
