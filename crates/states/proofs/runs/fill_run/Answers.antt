-- `fill_run` meets its contract: what was filled is a part of the list.
use Prim.Native.Nat.{ℕ}
use mathlib.Core.Path.{ap, ◌∙◌}
use mathlib.Core.List.{List}
use native.Mathlib.Omega.{arith}
use lib.ListN.{get_or, get_or-replicate}
use Rattle.std.proofs.Common.{rules}
use Rattle.states.proofs.PartLaws.{part_between}
use Rattle.states.proofs.runs.fill_run.Goals as goal

pub returns : goal.returns
returns c =
    let a = c.args in
    part_between _ a.to.now c.fill.new.self a.at _ _ (omega arith) (omega arith) (omega (arith, c.fill.ensures.len))
    (λ i l. ap (λ (xs : List ℕ). get_or xs i 0) (c.fill.ensures.after (search rules)) ∙ get_or-replicate _ i _ 0 (omega arith))
