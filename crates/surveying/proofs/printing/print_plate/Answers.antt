-- `print_plate` writes the size and the rows: three writes in a row are one.
use mathlib.Core.List.{List, flat_map}
use Prim.Native.Nat.{ℕ}
use Rattle.text_lines.specs.Bytes.{bytes}
use Rattle.survey_text.specs.Printing.{decimal, line, rows, out_line, out_text}
use Rattle.surveying.proofs.Written.{room_one, room_two, room_three, written_three}
use Rattle.surveying.proofs.printing.print_plate.Goals as goal
use Rattle.surveying.proofs.printing.print_plate.Goals.{Start}

-- the three parts
abbrev width_line : (b : Start) → List ℕ
width_line b = line (bytes "width=") (decimal b.args.width)

abbrev height_line : (b : Start) → List ℕ
height_line b = line (bytes "height=") (decimal b.args.height)

abbrev rows_lines : (b : Start) → List ℕ
rows_lines b = flat_map out_line (rows b.args.width b.args.height b.args.levels.now)

pub line-requires : goal.line-requires
unfolding out_text
line-requires c = let b = (goal.at.line-requires c).Start in room_one (width_line b) (height_line b) (rows_lines b) c.requires.room

pub line-requires-2 : goal.line-requires-2
unfolding out_text
line-requires-2 c = let b = (goal.at.line-requires-2 c).Start in room_two (width_line b) (height_line b) (rows_lines b) c.requires.room c.line.ensures

pub out_lines-requires : goal.out_lines-requires
unfolding out_text
out_lines-requires c =
    let b = (goal.at.out_lines-requires c).Start in
    record { wide = c.requires.wide; levels_len = c.requires.levels_len; room = room_three (width_line b) (height_line b) (rows_lines b) c.requires.room c.line.ensures c.line-2.ensures }

pub returns : goal.returns
unfolding out_text
returns c =
    let b = (goal.at.returns c).Start in
    written_three (width_line b) (height_line b) (rows_lines b) c.requires.room c.line.ensures c.line-2.ensures c.out_lines.ensures
