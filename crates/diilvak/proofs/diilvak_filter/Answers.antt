-- The filter's verdict, as `filter` ensures it, told as a number; result and work are as `filter` leaves them.
use mathlib.Core.Path.{ap, ◌∙◌}
use Rattle.plate.specs.Telling.{number_of}
use Rattle.diilvak.proofs.Told.{result_lent, work_free}
use Rattle.diilvak.proofs.diilvak_filter.Goals as goal

pub returns : goal.returns
returns c =
    let e = rw c.setting_of-setting.ensures at c.filter-answer.ensures in
    let answer = c.filter-answer.result in
    record {
      value = c.number_of.ensures ∙ ap number_of e.result_value;
      res_after = rw (← e.result_value) (e.res_after ∙ result_lent answer _ _);
      free_after = rw (← e.result_value) (work_free answer _ _ e.work_after);
    }
