use Prim.Native.Nat.{ℕ, ◌-◌, min}
use lib.ListN.{get_or}
use Rattle.walks.specs.Searching.{RowSearched}
use Rattle.walks.proofs.found.search_row.Given as goal

abbrev pub invariant-loop-i : goal.invariant-loop-i
invariant-loop-i l =
    RowSearched (λ (i : ℕ). min l.own (min (get_or l.ends i 0) (get_or l.goes (l.gaps - i) 0))) l.i l.index l.l l.initial.best l.best
