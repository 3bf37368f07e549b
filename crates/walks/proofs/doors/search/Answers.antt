-- `search` meets its contract: what was judged is what the search of the rows asks for.
use mathlib.Core.Path.{sym, refl, ◌∙◌}
use Rattle.walks.proofs.SearchTests.{search_facts}
use Rattle.walks.proofs.doors.search.Goals as goal

pub returns-then-not-can_search : goal.returns-then-not-can_search
returns-then-not-can_search c = rw (sym c.can_search.ensures ∙ c.if-not-can_search.true) refl

pub search-requires : goal.search-requires
search-requires c =
    let a = search_facts _ _ _ _ (sym c.can_search.ensures ∙ c.if-not-can_search.false) in record { steps_bound = (a.few, a.gaps, a.standing, a.near); gaps_in_bounds = (a.ends, a.goes) }

pub returns : goal.returns
returns c = rw (sym c.can_search.ensures ∙ c.if-not-can_search.false) c.search.ensures
