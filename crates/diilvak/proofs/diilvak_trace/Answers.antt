-- The trace's verdict, as `trace` ensures it, told as a number and a level; the path and the work buffer are as `trace` leaves them.
use Rattle.diilvak.proofs.Told.{trace_lent}
use Rattle.diilvak.proofs.diilvak_trace.Goals as goal

pub returns : goal.returns
returns c =
    let e = rw c.setting_of-setting.ensures at c.trace-traced.ensures in
    record {
      value = rw (← e.result_value) c.tell_trace.ensures.value;
      level_after = rw (← e.result_value) c.tell_trace.ensures.level_after;
      shown_after = rw (← e.result_value) (rw c.tell_trace.ensures.direction_after (trace_lent c.trace-traced.result _ _ _ _ _ _ e.trace_after));
    }
