use Prim.Native.Nat.{ℕ, ◌+◌}
use Rattle.plans.specs.Plans.{pitch_of}
use Rattle.eights.specs.Turned.{numbers}
use Rattle.states.specs.Rows.{Planes}
use Rattle.states.proofs.PlaneLaws.{Either}
use Rattle.states.proofs.rows.guard.Given as goal

abbrev pub invariant-loop-j : goal.invariant-loop-j
invariant-loop-j l =
    Planes (Either l.row.lo (l.row.hi + 1)) (λ (i X : ℕ). 0) (numbers l.initial.held) (numbers l.held) l.slot (pitch_of l.plan) l.j
