-- `search_row` meets its contract: the best of the first i terms grows by one term a turn.
use Prim.Native.Nat.{◌+◌, min}
use mathlib.Core.Path.{◌≡◌, ap, ◌∙◌}
use native.Mathlib.Omega.{arith}
use Rattle.walks.proofs.Searching.{row_none, row_kept, row_better}
use Rattle.walks.proofs.found.search_row.Goals as goal
use Rattle.walks.proofs.found.search_row.Goals.{then-key-best, else-key-best}

pub loop-i-init : goal.loop-i-init
loop-i-init c = row_none _ _ _ _

pub loop-i-preserved : goal.loop-i-preserved
loop-i-preserved c =
    let is = c.min-key.ensures ∙ ap (min _) c.min.ensures in
    elim c.if-key-best.branch [
      | then-key-best w ↦ rw w.best-is (row_better _ _ _ _ _ _ c.loop-i.invariant c.min-key.result is w.if-key-best.true)
      | else-key-best w ↦ rw w.best-is (row_kept _ _ _ _ _ _ c.loop-i.invariant (omega (arith, is, w.if-key-best.false)))
    ]

pub returns : goal.returns
returns c =
    let past : c.loop-i.i ≡ c.args.gaps + 1 = omega (arith, c.loop-i.auto.i-end, c.loop-i-test.false) in
    rw past at c.loop-i.invariant
