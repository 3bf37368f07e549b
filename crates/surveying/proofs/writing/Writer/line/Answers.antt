-- `line` writes the name, the value and a newline: three writes in a row are one.
use mathlib.Core.List.{List, [], ◌∷◌}
use Prim.Native.Nat.{ℕ}
use Rattle.text_lines.specs.Bytes.{newline}
use Rattle.survey_text.specs.Printing.{line}
use Rattle.surveying.proofs.Written.{room_one, room_two, room_three, written_three}
use Rattle.surveying.proofs.writing.Writer.line.Goals as goal

abbrev end : List ℕ
end = newline ∷ []

pub text-requires : goal.text-requires
unfolding line
text-requires g c = room_one c.args.name.now _ end c.requires

pub print-requires : goal.print-requires
unfolding line
print-requires g c = room_two c.args.name.now _ end c.requires c.text.ensures

pub put-requires : goal.put-requires
unfolding line
put-requires g c = room_three c.args.name.now _ end c.requires c.text.ensures c.print.ensures

pub returns : goal.returns
unfolding line
returns g c = written_three c.args.name.now _ end c.requires c.text.ensures c.print.ensures c.put.ensures
