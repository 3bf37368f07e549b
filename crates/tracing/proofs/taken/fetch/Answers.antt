-- `fetch` meets its contract: what is asked of it is what the door judges.
use native.Mathlib.Omega.{arith}
use Rattle.stacks.proofs.DoorTests.{fetches_if}
use Rattle.tracing.proofs.taken.fetch.Goals as goal

pub returns : goal.returns
returns c =
    let taken = fetches_if _ _ _ 0 _ _ _ c.args.followed.formed c.requires.plan_in_bounds.0 c.requires.plan_in_bounds.1 c.requires.stack_fits.0 c.requires.stack_fits.1 (omega arith) in
    let both = rw taken at c.fetch.ensures.either in record { base_value = both.0; fetched = both.1; held_len_unchanged = c.fetch.ensures.held_len_unchanged }
