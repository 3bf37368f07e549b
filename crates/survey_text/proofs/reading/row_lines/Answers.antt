-- `row_lines` reads line by line into the parts of the lent buffer: the invariant is `Rows`, and each step is a law of it.
use native.Mathlib.Omega.{arith}
use mathlib.Core.Path.{◌∙◌}
use Prim.Native.Nat.{◌+◌, ◌*◌, ◌≤◌}
use lib.ListN.{length}
use Rattle.std.proofs.lemmas.Result.{err_from_is_err_and}
use Rattle.survey_text.specs.Cursors.{rest_of}
use Rattle.survey_text.proofs.Rows.{rows_none, rows_end, row_room, row_length, rows_refused, rows_more}
use Rattle.survey_text.proofs.reading.row_lines.Goals as goal
use Rattle.survey_text.proofs.reading.row_lines.Goals.{In-loop-i}

-- the next row has room
room : (c : In-loop-i) → c.loop-i.i * c.args.width + c.args.width ≤ length c.loop-i.out
room c = row_room _ _ _ _ _ _ _ c.loop-i.invariant c.loop-i-test.true (c.loop-i.auto.out ∙ c.requires)

pub loop-i-init : goal.loop-i-init
loop-i-init c = rows_none _ _ _ _ _

pub overflow_mul-start : goal.overflow_mul-start
overflow_mul-start c = omega (arith, room c)

pub returns-in_err-here : goal.returns-in_err-here
returns-in_err-here c =
    let p = err_from_is_err_and c.from_residual.result c.from_residual.ensures.1 in
    let g = c.loop-i.invariant in
    let h = c.loop-i-test.true in
    rw (p.1, p.2) (rows_refused _ _ _ _ _ _ _ g h _ _ (rw (row_length _ _ _ _ _ _ _ g h (c.loop-i.auto.out ∙ c.requires)) at c.in_err-here.ensures))

pub loop-i-preserved : goal.loop-i-preserved
loop-i-preserved c =
    let g = c.loop-i.invariant in
    let h = c.loop-i-test.true in
    let long = c.loop-i.auto.out ∙ c.requires in
    let e = row_length _ _ _ _ _ _ _ g h long in
    rows_more _ _ _ _ _ _ _ g h long c.list_line.new.out (rest_of c.in_ok-here.here) (c.list_line.auto.out ∙ e) (rw e at c.in_ok-here.ensures)

pub returns : goal.returns
returns c = rows_end _ _ _ _ _ _ _ c.loop-i.invariant (omega arith) (c.loop-i.auto.out ∙ c.requires)
