use Prim.Native.Nat.{ℕ, ◌+◌, ◌*◌}
use lib.ListN.{get_or}
use Rattle.plans.specs.Plans.{pitch_of}
use Rattle.eights.specs.Turned.{numbers}
use Rattle.states.specs.Rows.{In, Planes}
use Rattle.states.proofs.rows.store_row.Given as goal

abbrev pub invariant-loop-j : goal.invariant-loop-j
invariant-loop-j l =
    Planes (In l.row.lo l.row.hi) (λ (i x : ℕ). get_or (numbers l.held) (l.slot + (i * pitch_of l.plan + (x + 1))) 0) l.initial.work l.work l.at l.plan.across l.j
