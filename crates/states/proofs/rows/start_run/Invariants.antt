use Prim.Native.Nat.{ℕ, ◌+◌}
use mathlib.Core.List.{List}
use lib.ListN.{get_or}
use Rattle.eights.specs.Turned.{numbers}
use Rattle.states.proofs.RowLaws.{StartedBelow}
use Rattle.states.proofs.rows.start_run.Given as goal

abbrev pub invariant-loop-j : goal.invariant-loop-j
invariant-loop-j l =
    (old : List ℕ) →
    StartedBelow l.plan (λ (x : ℕ). get_or l.keys (l.at + x) 0) l.slot l.first l.past old (numbers l.initial.held) 1 →
    StartedBelow l.plan (λ (x : ℕ). get_or l.keys (l.at + x) 0) l.slot l.first l.past old (numbers l.held) l.j
