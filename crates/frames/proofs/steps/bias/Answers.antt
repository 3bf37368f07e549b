-- `bias` meets its contract: its arms tell the entry apart into 0, 1 and the rest.
use mathlib.Core.Path.{◌≡◌, sym, ◌∙◌}
use native.Mathlib.Omega.{arith}
use Rattle.frames.specs.Steps.{plus_one}
use Rattle.frames.proofs.StepLaws.{zero_plus, one_plus, else_plus, few_plus, biased_back, biased_on}
use Rattle.frames.proofs.steps.bias.Goals as goal
use Rattle.frames.proofs.steps.bias.Goals.{Joined-d, in-0, in-1, in_default}

change_is : (c : Joined-d) → c.match-d.change ≡ plus_one c.args.d
change_is c = elim c.match-d.branch [
  | in-0 w ↦ w.change-is ∙ sym (zero_plus c.args.d c.ranges.d (omega arith))
  | in-1 w ↦ w.change-is ∙ sym (one_plus c.args.d c.ranges.d (omega arith))
  | in_default w ↦ w.change-is ∙ sym (else_plus c.args.d (λ e. omega (arith, e)) (λ e. omega (arith, e)))
]

pub returns-then-backwards : goal.returns-then-backwards
returns-then-backwards c =
    let a = c.args in
    omega (arith, biased_back a.backwards a.d c.if-backwards.true, change_is (goal.at.returns-then-backwards c).Joined-d)

pub returns-else-backwards : goal.returns-else-backwards
returns-else-backwards c =
    let a = c.args in
    omega (arith, biased_on a.backwards a.d c.if-backwards.false, change_is (goal.at.returns-else-backwards c).Joined-d, few_plus a.d)
