-- `filter_between` meets its contract: `judge` and the search for a pixel whose lowest level is above its highest have decided before the first store, so a refusal leaves all lent
-- buffers as they were; and once all checks have passed both filters are accepted, each by its own contract.
use mathlib.Core.Path.{◌≡◌, refl, sym, ◌∙◌}
use lib.ListN.{length}
use Rattle.std.proofs.lemmas.Result.{err_from_is_err_and}
use Rattle.plate.specs.Refusals.{Verdict.accepted}
use Rattle.plate.proofs.Verdicts.{clash}
use Rattle.between.specs.Refusals.{between_verdict}
use Rattle.between.proofs.Deciding.{BothPassed, bounds_told, none_above, judge_refuses, judge_passes}
use Rattle.between.proofs.Promised.{promised}
use Rattle.between.proofs.filter_between.Goals as goal
use Rattle.between.proofs.filter_between.Goals.{In_ok-judge, In_ok-refuse_at}

-- the buffers, judged two as one
passed : (c : In_ok-judge) → let a = c.args in BothPassed a.width a.height a.setting a.lowest.now a.highest.now (length a.low.now) (length a.high.now) (length a.work.now)
passed c = judge_passes _ _ _ _ _ _ _ _ (rw (c.common_length.ensures, c.common_length-2.ensures) at c.in_ok-judge.ensures)

-- all checks have passed
accepts : (c : In_ok-refuse_at) → let a = c.args in accepted tt ≡ between_verdict a.width a.height a.setting a.lowest.now a.highest.now (length a.low.now) (length a.high.now) (length a.work.now)
accepts c = c.in_ok-refuse_at.ensures ∙ bounds_told _ _ _ c.first_above.ensures.value ∙ (passed (goal.at.In_ok-refuse_at c).In_ok-judge).decides

pub returns-in_err-judge : goal.returns-in_err-judge
returns-in_err-judge c =
    let p = err_from_is_err_and c.from_residual.result c.from_residual.ensures.1 in
    rw (p.1, p.2) (record {
      low_after = refl;
      high_after = refl;
      work_after = refl;
      if_accepted = tt;
      result_value = judge_refuses _ _ _ _ _ _ _ _ (rw (c.common_length.ensures, c.common_length-2.ensures) at c.in_err-judge.ensures);
    })

pub first_above-requires : goal.first_above-requires
first_above-requires c = let checked = passed (goal.at.first_above-requires c).In_ok-judge in checked.sized_low ∙ sym checked.sized_high

pub returns-in_err-refuse_at : goal.returns-in_err-refuse_at
returns-in_err-refuse_at c =
    let p = err_from_is_err_and c.from_residual-in_err-refuse_at.result c.from_residual-in_err-refuse_at.ensures.1 in
    rw (p.1, p.2) (record {
      low_after = refl;
      high_after = refl;
      work_after = refl;
      if_accepted = tt;
      result_value = c.in_err-refuse_at.ensures ∙ bounds_told _ _ _ c.first_above.ensures.value ∙ (passed (goal.at.returns-in_err-refuse_at c).In_ok-judge).decides;
    })

-- neither filter refuses; the second stands last, so that an edit of what it is handed fails by what it has written
pub returns-in_err-filter : goal.returns-in_err-filter
returns-in_err-filter c = clash (sym (c.in_err-filter.ensures.result_value ∙ (passed (goal.at.returns-in_err-filter c).In_ok-judge).filters_low))

pub returns : goal.returns
returns c =
    let checked = passed (goal.at.returns c).In_ok-judge in
    let first = c.first_above.ensures in
    let none = none_above _ _ _ first.value c.in_ok-refuse_at.ensures in
    let low = c.in_ok-filter.ensures.res_after in
    let high = c.in_ok-filter-2.ensures.res_after in
    record {
      result_value = accepts (goal.at.returns c).In_ok-refuse_at;
      low_after = low;
      high_after = high;
      work_after = tt;
      if_accepted = promised _ _ _ _ _ _ _ checked.sized_low checked.sized_high none first.read_to low high;
    }

pub returns-in_err-filter-2 : goal.returns-in_err-filter-2
returns-in_err-filter-2 c =
    let room : length c.filter.new.work ≡ length c.args.work.now = c.filter.auto.work in
    clash (sym (c.in_err-filter-2.ensures.result_value ∙ rw room (passed (goal.at.returns-in_err-filter-2 c).In_ok-judge).filters_high))
