-- `end_of_text` looks whether a byte is left: each return is a law of the end.
use native.Mathlib.Omega.{arith}
use mathlib.Core.Path.{sym}
use lib.ListN.{length-drop}
use Rattle.survey_text.specs.Cursors.{rest_of}
use Rattle.survey_text.proofs.Rows.{line_left, text_ended}
use Rattle.survey_text.proofs.reading.end_of_text.Goals as goal

pub returns-then-c : goal.returns-then-c
returns-then-c c = rw c.refusal.ensures (sym (line_left (rest_of c.args.c) (simp length-drop (omega arith))))

pub returns : goal.returns
returns c = sym (text_ended (rest_of c.args.c) (simp length-drop (omega arith)))
