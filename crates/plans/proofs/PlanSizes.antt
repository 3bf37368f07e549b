-- Sizes of plans: the rows of a state are few, where its keys begin is a small number, and a plane lies within its row.
use Prim.Native.Nat.{ℕ, ◌+◌, ◌-◌, ◌*◌, ◌≤◌, ◌<◌, min}
use mathlib.Core.Bool.{Bool, true, false, cond}
use native.Mathlib.Omega.{arith}
use lib.Dec.{leb}
use Rattle.basics.proofs.Numbers.{rows_fit}
use Rattle.plans.specs.Plans.{rows_in, pitch_of, block_of, row_size}
use Rattle.plans.specs.declared.plan.Plan.{Plan}

-- no state has more rows than a state has
pub rows_few : (p : Plan) (e : ℕ) → rows_in p e ≤ p.rows
unfolding rows_in
rows_few p e = go p.still (leb (e + 1) p.orders)
  where
    go : (still more : Bool) → cond still (cond more p.rows 0) (min p.rows (p.orders - e)) ≤ p.rows
    go true true = omega arith
    go true false = omega arith
    go false more = omega arith

-- a plane of a held row, and of a row of a state, lies within it
pub plane_fits : (p : Plan) (j : ℕ) → j < p.planes → j * pitch_of p + pitch_of p ≤ block_of p
plane_fits p j l = omega (arith, rows_fit j 1 p.planes (pitch_of p) (omega arith))

pub part_fits : (p : Plan) (j : ℕ) → j < p.planes → j * p.across + p.across ≤ row_size p
part_fits p j l = omega (arith, rows_fit j 1 p.planes p.across (omega arith))
