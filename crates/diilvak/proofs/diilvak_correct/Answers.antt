-- The correction's verdict, as `correct` ensures it, told as a number and a place; the result is as `correct` leaves it.
use mathlib.Core.Path.{◌∙◌}
use Rattle.diilvak.proofs.Told.{result_lent}
use Rattle.diilvak.proofs.diilvak_correct.Goals as goal

pub returns : goal.returns
returns c =
    record {
      value = rw (← c.correct-answer.ensures.result_value) c.tell.ensures.value;
      res_after = rw (← c.correct-answer.ensures.result_value) (c.correct-answer.ensures.res_after ∙ result_lent c.correct-answer.result _ _);
      place_after = rw (← c.correct-answer.ensures.result_value) c.tell.ensures.place_after;
    }
