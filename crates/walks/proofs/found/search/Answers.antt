-- `search` meets its contract: the possible numbers of steps before the pixel are searched row by row, from the least to the greatest.
use Prim.Native.Nat.{◌+◌}
use mathlib.Core.Path.{refl}
use native.Mathlib.Omega.{arith}
use Rattle.walks.specs.Searching.{Possible}
use Rattle.walks.proofs.Searching.{shared_part, row_same, searched_none, searched_more, searched_all}
use Rattle.walks.proofs.found.search.Goals as goal

pub loop-l-init : goal.loop-l-init
loop-l-init c = searched_none _ _ _ _ _ _ _ _ c.saturating_sub-l.ensures

pub loop-l-preserved : goal.loop-l-preserved
loop-l-preserved c =
    let a = c.args in
    let possible : Possible a.paths.steps a.paths.spare a.rank c.loop-l.l =
    record {
      of_path = omega (arith, c.loop-l-test.true, c.min-past.ensures);
      behind = omega (arith, c.loop-l-test.true, c.min-past.ensures);
      ahead = omega (arith, c.loop-l.auto.l, c.saturating_sub-l.ensures);
    } in
    searched_more _ _ _ _ _ _ _ _ _ _ possible c.loop-l.invariant
    (row_same _ _ _ _ _ _ _ (λ i h. shared_part a.ends.now a.goes.now _ _ a.paths.gaps (a.paths.gaps + 1) a.own i refl h) c.search_row-best.ensures)

pub returns : goal.returns
returns c = searched_all _ _ _ _ _ _ _ _ _ _ (omega (arith, c.loop-l-test.false, c.min-past.ensures)) c.loop-l.invariant
