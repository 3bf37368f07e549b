-- `search` meets its contract: what is asked of it is what the door judges.
use Rattle.walks.proofs.SearchTests.{search_if}
use Rattle.tracing.proofs.taken.search.Goals as goal

pub returns : goal.returns
returns c =
    let taken =
    search_if _ _ _ _
    (record {
      few = c.requires.steps_bound.0;
      gaps = c.requires.steps_bound.1;
      near = c.requires.steps_bound.3;
      standing = c.requires.steps_bound.2;
      ends = c.requires.gaps_in_bounds.0;
      goes = c.requires.gaps_in_bounds.1;
    }) in
    rw taken at c.search.ensures
