use Prim.Native.Nat.{ℕ}
use Rattle.walks.specs.Noting.{Highest}
use lib.ListN.{get_or}
use Rattle.walks.proofs.notes.highest_of.Given as goal

abbrev pub invariant-loop-number : goal.invariant-loop-number
invariant-loop-number l = Highest (λ (i : ℕ). get_or l.numbers i 0) 0 l.number-index l.v l.best
