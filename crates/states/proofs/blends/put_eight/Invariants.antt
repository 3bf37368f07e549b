use Prim.Native.Nat.{ℕ, ◌+◌, ◌-◌}
use lib.ListN.{get_or}
use Rattle.eights.specs.Turned.{turned, numbers}
use Rattle.states.specs.Runs.{Between}
use Rattle.states.proofs.blends.put_eight.Given as goal

abbrev pub invariant-loop-i : goal.invariant-loop-i
invariant-loop-i l = Between (λ (k : ℕ). turned (get_or l.v (k - l.at) 0)) (numbers l.initial.s) (numbers l.s) l.at (l.at + l.i)
