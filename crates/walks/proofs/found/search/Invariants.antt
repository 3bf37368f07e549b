use Rattle.walks.specs.Searching.{term_at, Searched}
use Rattle.walks.proofs.found.search.Given as goal

abbrev pub invariant-loop-l : goal.invariant-loop-l
invariant-loop-l l =
    Searched (term_at l.ends l.goes l.paths l.own) l.paths.steps l.paths.gaps l.paths.spare l.rank l.index l.l l.initial.best l.best
