use Prim.Native.Nat.{ℕ, ◌+◌, ◌-◌, ◌*◌}
use lib.ListN.{get_or}
use Rattle.plans.specs.Plans.{pitch_of}
use Rattle.eights.specs.Turned.{numbers}
use Rattle.states.specs.Rows.{In, Planes}
use Rattle.states.proofs.rows.load_row.Given as goal

abbrev pub invariant-loop-j : goal.invariant-loop-j
invariant-loop-j l =
    Planes (In (l.row.lo + 1) (l.row.hi + 1)) (λ (i X : ℕ). get_or l.work (l.at + (i * l.plan.across + (X - 1))) 0) (numbers l.initial.held) (numbers l.held) l.slot (pitch_of l.plan) l.j
