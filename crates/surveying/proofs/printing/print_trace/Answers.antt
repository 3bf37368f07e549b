-- `print_trace` writes the way, the level and the path: three writes in a row are one.
use mathlib.Core.List.{List}
use Prim.Native.Nat.{ℕ}
use native.Mathlib.Omega.{arith}
use mir.Syntax.{w16}
use mir.ValLaws.{to_z-of_z}
use Rattle.text_lines.specs.Bytes.{bytes}
use Rattle.survey_text.specs.Printing.{decimal, line, level_line, path_line, trace_text}
use Rattle.surveying.specs.Buffers.{Written}
use Rattle.surveying.proofs.Written.{room_one, room_two, room_three, written_three}
use Rattle.surveying.proofs.printing.print_trace.Goals as goal
use Rattle.surveying.proofs.printing.print_trace.Goals.{After-line-2, Start}

-- the three parts
abbrev way : (b : Start) → List ℕ
way b = line (bytes "way=") (decimal b.args.trace.direction)

abbrev level : (b : Start) → List ℕ
level b = level_line b.args.trace.level

abbrev path : (b : Start) → List ℕ
path b = path_line b.args.path.now

pub line-requires : goal.line-requires
unfolding trace_text
line-requires c = let b = (goal.at.line-requires c).Start in room_one (way b) (level b) (path b) c.requires

pub line-requires-2 : goal.line-requires-2
unfolding trace_text level_line
line-requires-2 c =
    let b = (goal.at.line-requires-2 c).Start in
    rw (to_z-of_z w16 c.args.trace.level (record { sfits = omega arith })) (room_two (way b) (level b) (path b) c.requires c.line.ensures)

-- the level's line was written
leveled : (c : After-line-2) → Written (level (goal.at.After-line-2 c).Start) c.line.new.self c.line-2.new.self
unfolding level_line
leveled c = rw (to_z-of_z w16 c.args.trace.level (record { sfits = omega arith })) at c.line-2.ensures

pub line-requires-3 : goal.line-requires-3
unfolding trace_text path_line
line-requires-3 c =
    let b = (goal.at.line-requires-3 c).Start in
    room_three (way b) (level b) (path b) c.requires c.line.ensures (leveled (goal.at.line-requires-3 c).After-line-2)

pub returns : goal.returns
unfolding trace_text path_line
returns c =
    let b = (goal.at.returns c).Start in
    written_three (way b) (level b) (path b) c.requires c.line.ensures (leveled (goal.at.returns c).After-line-2) c.line-3.ensures
