-- `raise` meets its contract: at each turn the levels of one row more rise.
use native.Mathlib.Omega.{arith}
use Rattle.directions.proofs.KeyRows.{next_row}
use Rattle.directions.proofs.RisenLaws.{risen_join}
use Rattle.directions.proofs.gather.raise.Goals as goal

pub loop-row-preserved : goal.loop-row-preserved
loop-row-preserved c =
    risen_join _ _ _ _ _ _ _ _ _ _ c.loop-row.invariant c.raise_row.ensures (omega arith) (omega arith)
    (next_row c.loop-row.row c.args.kept.frame.across)
