-- `put_eight` meets its contract: the run grows by one place a turn.
use Prim.Native.Nat.{ℕ, ◌+◌, ◌-◌}
use mathlib.Core.Path.{◌≡◌, ap}
use native.Mathlib.Omega.{arith}
use lib.ListN.{get_or}
use Rattle.eights.specs.Turned.{turned}
use Rattle.states.proofs.RunLaws.{between_none, between_ends, numbers_more}
use Rattle.states.proofs.blends.put_eight.Goals as goal

pub loop-i-init : goal.loop-i-init
loop-i-init c = between_none _ _ _ _ (omega arith)

pub loop-i-preserved : goal.loop-i-preserved
loop-i-preserved c =
    let a = c.args in
    numbers_more _ _ c.loop-i.s a.at (a.at + c.loop-i.i) _ (get_or a.v c.loop-i.i 0) c.loop-i.invariant (omega arith) (omega arith)
    (ap (λ (k : ℕ). turned (get_or a.v k 0)) (let e : c.loop-i.i ≡ a.at + c.loop-i.i - a.at = omega arith in e))
    (omega arith)

pub returns : goal.returns
returns c = between_ends _ _ _ _ _ _ c.loop-i.invariant (omega arith)
