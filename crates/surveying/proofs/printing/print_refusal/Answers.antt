-- `print_refusal` writes two lines in a row.
use mathlib.Core.List.{List}
use Prim.Native.Nat.{ℕ}
use Rattle.text_lines.specs.Bytes.{bytes}
use Rattle.plate.specs.Answers.{number_by}
use Rattle.survey_text.specs.Printing.{decimal, line, refusal_text}
use Rattle.surveying.specs.Buffers.{Written}
use Rattle.surveying.proofs.Written.{room_first, room_then, written_then}
use Rattle.surveying.proofs.printing.print_refusal.Goals as goal
use Rattle.surveying.proofs.printing.print_refusal.Goals.{After-line, Start}

-- the two lines
abbrev refused_line : (b : Start) → List ℕ
refused_line b = line (bytes "refused=") (decimal (number_by b.args.refusal.reason))

abbrev place_line : (b : Start) → List ℕ
place_line b = line (bytes "place=") (decimal b.args.refusal.place)

pub line-requires : goal.line-requires
unfolding refusal_text
line-requires c = let b = (goal.at.line-requires c).Start in rw c.number.ensures (room_first (refused_line b) (place_line b) c.requires)

-- the first line was written
numbered : (c : After-line) → Written (refused_line (goal.at.After-line c).Start) c.args.w.now c.line.new.self
numbered c = rw c.number.ensures at c.line.ensures

pub line-requires-2 : goal.line-requires-2
unfolding refusal_text
line-requires-2 c =
    let b = (goal.at.line-requires-2 c).Start in
    room_then (refused_line b) (place_line b) c.requires (numbered (goal.at.line-requires-2 c).After-line)

pub returns : goal.returns
unfolding refusal_text
returns c =
    let b = (goal.at.returns c).Start in
    written_then (refused_line b) (place_line b) c.requires (numbered (goal.at.returns c).After-line) c.line-2.ensures
