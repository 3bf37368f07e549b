-- `number` writes the digits of the tenth and then the last digit: the measure is the number itself, and two writes in a row are one.
use Prim.Native.Nat.{ℕ, ◌+◌, ◌/◌, ◌%◌, ◌≤◌}
use native.Mathlib.Omega.{arith}
use mathlib.Core.List.{List, [], ◌∷◌, ◌++◌}
use Rattle.text_lines.specs.Bytes.{zero_digit}
use Rattle.survey_text.specs.Printing.{decimal}
use Rattle.surveying.specs.declared.writing.Writer.{Writer}
use Rattle.surveying.specs.Buffers.{Room}
use Rattle.surveying.proofs.Decimals.{decimal_one, decimal_more}
use Rattle.surveying.proofs.Written.{room_first, room_then, written_then}
use Rattle.surveying.proofs.writing.Writer.+number.Goals as goal

-- the digits of the tenth, and the last digit; and the room for both
abbrev tenth : ℕ → List ℕ
tenth n = decimal (n / 10)

abbrev last : ℕ → List ℕ
last n = (zero_digit + n % 10) ∷ []

parts_room : (n : ℕ) (w : Writer) → Room (decimal n) w → 10 ≤ n → Room (tenth n ++ last n) w
parts_room n w room h = rw (decimal_more n h) at room

pub put-requires : goal.put-requires
put-requires t c = rw (decimal_one c.args.n c.if-n-lt10.true) at c.requires

pub returns-then-n-lt10 : goal.returns-then-n-lt10
returns-then-n-lt10 t c = rw (decimal_one c.args.n c.if-n-lt10.true) c.put.ensures

pub number-requires : goal.number-requires
number-requires t c = (
  omega (arith, c.decreases, c.if-n-lt10.false),
  room_first (tenth c.args.n) (last c.args.n) (parts_room _ _ c.requires c.if-n-lt10.false),
)

pub put-requires-2 : goal.put-requires-2
put-requires-2 t c = room_then (tenth c.args.n) (last c.args.n) (parts_room _ _ c.requires c.if-n-lt10.false) c.number.ensures

pub returns : goal.returns
returns t c = rw (decimal_more c.args.n c.if-n-lt10.false) (written_then (tenth c.args.n) (last c.args.n) (parts_room _ _ c.requires c.if-n-lt10.false) c.number.ensures c.put-2.ensures)
