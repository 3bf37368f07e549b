-- The verdict, as `enter_trace` ensures it, told as a number and a level; the path and the work buffer are as the trace leaves them, and the book is
-- handed on.
use mathlib.Core.Path.{◌∙◌}
use Rattle.diilvak.proofs.Told.{trace_lent, book_lent}
use Rattle.diilvak.proofs.findings.diilvak_enter_trace.Goals as goal

pub returns : goal.returns
returns c =
    let e = rw c.setting_of-setting.ensures at c.enter_trace-done.ensures in
    let traced = c.enter_trace-done.result.traced in
    let told = c.tell_trace.ensures in
    record {
      number_value = rw (← e.traced_value) told.value;
      level_after = rw (← e.traced_value) told.level_after;
      shown_after = rw (← e.traced_value) (rw told.direction_after (trace_lent traced _ _ _ _ _ _ e.trace_after));
      book_value = rw (← e.traced_value) (rw (told.direction_after, told.level_after) (e.book_value ∙ book_lent traced _ _ _ _));
    }
