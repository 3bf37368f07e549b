-- The verdict, as `filter_between` ensures it, told as a number and a place; both results and work are as `filter_between` leaves them, and its promise
-- of them is handed on.
use mathlib.Core.Path.{ap, ◌∙◌}
use Rattle.plate.specs.Telling.{number_of, place_of}
use Rattle.diilvak.proofs.Told.{result_lent, work_free}
use Rattle.diilvak.proofs.diilvak_filter_between.Goals as goal

pub returns : goal.returns
returns c =
    let e = rw c.setting_of-setting.ensures at c.filter_between-answer.ensures in
    let answer = c.filter_between-answer.result in
    record {
      value = c.tell.ensures.value ∙ ap number_of e.result_value;
      low_after = rw (← e.result_value) (e.low_after ∙ result_lent answer _ _);
      high_after = rw (← e.result_value) (e.high_after ∙ result_lent answer _ _);
      free_after = rw (← e.result_value) (work_free answer _ _ e.work_after);
      place_after = c.tell.ensures.place_after ∙ ap place_of e.result_value;
      if_accepted = rw (← e.result_value) e.if_accepted;
    }
