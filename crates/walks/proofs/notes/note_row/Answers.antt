-- `note_row` meets its contract: the notes rise to one plane a turn.
use Prim.Native.Nat.{◌+◌}
use mathlib.Core.Path.{◌≡◌, refl, ◌∙◌}
use native.Mathlib.Omega.{arith}
use lib.ListN.{length-set}
use Rattle.basics.proofs.Numbers.{rows_fit}
use Rattle.walks.specs.Noting.{row_ended}
use Rattle.walks.proofs.Noting.{row_lifted_none, row_lifted_more, highest_cells}
use Rattle.walks.proofs.notes.note_row.Goals as goal

pub loop-j-init : goal.loop-j-init
loop-j-init c = (refl, row_lifted_none _ _ _ _ _)

pub loop-j-preserved : goal.loop-j-preserved
loop-j-preserved c =
    let a = c.args in (
      length-set c.loop-j.notes (a.to + c.loop-j.j) _ ∙ c.loop-j.invariant.0,
      row_lifted_more (row_ended a.work.now a.slack a.row.at a.at a.plan.across) a.row.lo a.row.hi a.to c.loop-j.j _ a.notes.now c.loop-j.notes
          (omega (arith, c.requires, c.loop-j.invariant.0)) c.loop-j.invariant.1
          (highest_cells a.work.now a.slack a.row.at a.at a.plan.across c.loop-j.j a.row.lo a.row.hi _ _ (omega (arith, c.requires))
          (omega (arith, c.requires)) (omega (arith, c.requires, rows_fit c.loop-j.j 1 a.plan.planes a.plan.across (omega arith))) c.highest.ensures),
    )

pub returns : goal.returns
returns c =
    let all : c.loop-j.j ≡ c.args.plan.planes = omega (arith, c.loop-j.auto.j-end, c.loop-j-test.false) in
    rw all at c.loop-j.invariant.1
