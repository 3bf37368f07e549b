-- `list_line` reads the line's value as a list: each return is a law of the next line.
use Rattle.std.proofs.lemmas.Result.{err_from_is_err_and}
use lib.ListN.{length}
use Rattle.text_lines.specs.Format.{list}
use Rattle.survey_text.proofs.NextLine.{next_refused, next_no_value, next_value}
use Rattle.survey_text.proofs.line.list_line.Goals as goal

pub returns-in_err-value : goal.returns-in_err-value
returns-in_err-value c =
    let p = err_from_is_err_and c.from_residual.result c.from_residual.ensures.1 in
    rw (p.1, p.2) (next_refused _ (list (length c.args.out.now)) _ _ _ c.in_err-value.ensures)

pub returns-then-not-list_in : goal.returns-then-not-list_in
returns-then-not-list_in c =
    rw c.refusal.ensures
    (next_no_value _ (list (length c.args.out.now)) _ _ _ c.in_ok-value.ensures (rw c.if-not-list_in.true at c.list_in.ensures.out_after))

pub returns : goal.returns
returns c = next_value _ (list (length c.args.out.now)) _ _ _ c.in_ok-value.ensures (rw c.if-not-list_in.false at c.list_in.ensures.out_after)
