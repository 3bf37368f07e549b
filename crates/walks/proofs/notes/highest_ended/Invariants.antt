use Prim.Native.Nat.{ℕ, min}
use lib.ListN.{length, get_or}
use Rattle.theory.specs.BestWalks.{ended}
use Rattle.walks.specs.Noting.{Highest}
use Rattle.walks.proofs.notes.highest_ended.Given as goal

abbrev pub invariant-loop-number : goal.invariant-loop-number
invariant-loop-number l =
    Highest (λ (i : ℕ). min (get_or l.numbers i 0) (ended l.slack (get_or l.keys i 0))) 0 (length l.yielded) l.v l.best
