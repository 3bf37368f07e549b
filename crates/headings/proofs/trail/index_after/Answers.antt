-- `index_after` meets its contract: back or on, where the numbers are small.
use mathlib.Core.Path.{◌≡◌, ◌∙◌}
use native.Mathlib.Omega.{arith}
use Prim.Native.Nat.{◌-◌}
use Rattle.headings.proofs.Trails.{index_far, index_long, index_back, index_on}
use Rattle.headings.proofs.trail.index_after.Goals as goal

pub returns-then-start-ge65536 : goal.returns-then-start-ge65536
returns-then-start-ge65536 c = index_far _ _ _ c.if-start-ge65536.true

pub returns-then-steps-ge65536 : goal.returns-then-steps-ge65536
returns-then-steps-ge65536 c = index_long _ _ _ c.if-start-ge65536.false c.if-steps-ge65536.true

pub returns-then-not-backwards : goal.returns-then-not-backwards
returns-then-not-backwards c = index_on _ _ _ c.if-start-ge65536.false c.if-steps-ge65536.false c.if-not-backwards.true

pub returns-then-start-steps : goal.returns-then-start-steps
returns-then-start-steps c =
    let a = c.args in
    let none : 0 ≡ a.start - a.steps = omega (arith, c.if-start-steps.true) in
    none ∙ index_back _ _ _ c.if-start-ge65536.false c.if-steps-ge65536.false c.if-not-backwards.false

pub returns : goal.returns
returns c = index_back _ _ _ c.if-start-ge65536.false c.if-steps-ge65536.false c.if-not-backwards.false
