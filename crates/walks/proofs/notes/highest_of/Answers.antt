-- `highest_of` meets its contract: the highest so far grows by one number a turn.
use mathlib.Core.Path.{◌≡◌}
use native.Mathlib.Omega.{arith}
use lib.ListN.{length}
use Rattle.walks.proofs.Lifting.{highest_none, highest_more}
use Rattle.walks.proofs.notes.highest_of.Goals as goal

pub loop-number-init : goal.loop-number-init
loop-number-init c = highest_none _ _

pub loop-number-preserved : goal.loop-number-preserved
loop-number-preserved c = highest_more _ _ _ _ _ c.loop-number.invariant c.max-best.ensures

pub returns : goal.returns
returns c =
    let all : c.loop-number.number-index ≡ length c.args.numbers.now = omega (arith, c.loop-number.auto.number-index-end, c.loop-number-test.false) in
    rw all at c.loop-number.invariant
