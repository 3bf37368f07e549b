-- The parts of a plan that can be followed are small.
use Prim.Native.Nat.{◌+◌, ◌*◌, ◌≤◌}
use mathlib.Core.Path.{◌≡◌}
use mathlib.Core.Bool.{true}
use native.Mathlib.Nat.{mul-le-mul}
use native.Mathlib.Omega.{arith}
use Rattle.plans.specs.Plans.{row_size, state_size, block_of}
use Rattle.plans.specs.Forms.{well_formed}
use Rattle.plans.specs.declared.plan.Plan.{Plan}
use Rattle.plans.proofs.FormFacts.{formed}

module _ (p : Plan) (w : well_formed p ≡ true) where
  pub row_bound : row_size p ≤ 9216
  row_bound = let l = (formed p w).limits in mul-le-mul {n₁ = p.planes} {m₁ = p.across} {n₂ = 9} {m₂ = 1024} l.few_planes l.few_across

  pub state_bound : state_size p ≤ 9437184
  state_bound = mul-le-mul {n₁ = p.rows} {m₁ = row_size p} {n₂ = 1024} {m₂ = 9216} (formed p w).limits.few_rows row_bound

  pub block_bound : (1 ≤ block_of p) × (block_of p ≤ 9360)
  block_bound =
      let l = (formed p w).limits in
      let some : 1 * 1 ≤ p.planes * (p.across + 16) = mul-le-mul {n₁ = 1} {m₁ = 1} {n₂ = p.planes} {m₂ = p.across + 16} l.some_planes (omega arith) in
      let few : p.planes * (p.across + 16) ≤ 9 * 1040 = mul-le-mul {n₁ = p.planes} {m₁ = p.across + 16} {n₂ = 9} {m₂ = 1040} l.few_planes (omega (arith, l.few_across)) in
      (omega (arith, some), omega (arith, few))
