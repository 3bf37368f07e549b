-- `raise_row` meets its contract: at each turn the level of one pixel more rises.
use Prim.Native.Nat.{◌<◌}
use lib.ListN.{length}
use native.Mathlib.Omega.{arith}
use Rattle.directions.proofs.RisenLaws.{raised_level, risen_more}
use Rattle.directions.proofs.gather.raise_row.Goals as goal

pub loop-x-preserved : goal.loop-x-preserved
loop-x-preserved c =
    let on : c.place_of-p.result < length c.loop-x.res = omega (arith, c.place_of-p.ensures.1, c.loop-x.invariant.len, c.requires.2) in
    let level = raised_level c.loop-x.res _ c.raised.result _ c.raised.type_inv c.raised-arg-1.given on c.raised.ensures in
    risen_more _ _ _ _ c.loop-x.res _ _ _ _ c.loop-x.invariant (omega arith) c.place_of-p.ensures.0 on level _ (omega arith)
