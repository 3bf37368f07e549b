-- `sieve_twice` leaves what one filtering by the larger length leaves: its two calls are handed one to the other, so the theorem over two calls
-- applies, whatever they did inside.
use Rattle.engine.proofs.SievedCalls.{second_call}
use Rattle.filter_cases.proofs.sieving.sieve_twice.Goals as goal

pub returns : goal.returns
returns c free =
    second_call c.args.setting free c.args.width c.args.height {old = c.args.between.now} c.read_through.ensures
    (record { work = c.args.work.now; answers = c.in_ok-filter.ensures.result_value; fills = c.in_ok-filter.ensures.res_after })
    c.filter-2.result
    (record { work = c.filter.new.work; answers = c.filter-2.ensures.result_value; fills = c.filter-2.ensures.res_after })
