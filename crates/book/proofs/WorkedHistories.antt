-- The worked histories hold of the definitions themselves: the whole table is one test, which the checker computes.
use lib.Dec.{T}
use Rattle.basics.specs.Lists.{any, keep, up_from}
use Rattle.plate.specs.Refusals.{judged}
use Rattle.book.specs.Entries.{is_meant}
use Rattle.book.specs.Refusals.{is_full, is_spent, enter_verdict, withdraw_verdict}
use Rattle.book.specs.WorkedHistories.{same_numbers, serials_of, plays, all_play, worked_histories}

pub worked_histories_hold : T (all_play worked_histories)
unfolding worked_histories all_play plays serials_of same_numbers any keep up_from judged is_meant is_full is_spent enter_verdict withdraw_verdict
worked_histories_hold = tt
