use Prim.Native.Nat.{ℕ, ◌+◌, ◌-◌, ◌≤◌}
use mathlib.Core.Path.{◌≡◌}
use lib.ListN.{length, get_or}
use Rattle.eights.specs.Turned.{numbers}
use Rattle.states.specs.Rows.{Blent}
use Rattle.states.proofs.blends.fixed_run.Given as goal

abbrev pub invariant-loop-x : goal.invariant-loop-x
invariant-loop-x g l = (l.row.lo ≤ l.x)
    × (length l.held ≡ length l.initial.held)
    × Blent (numbers l.initial.held) (numbers l.held) (λ (y : ℕ). get_or l.keys (l.row.at + y) 0) g.row.PLANES l.pitch l.taps.t0 l.taps.t1 l.taps.t2 l.taps.to l.row.lo l.x

abbrev pub decreases-loop-x : goal.decreases-loop-x
decreases-loop-x g l = l.row.hi + 8 - l.x
