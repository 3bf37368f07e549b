-- What the tests of specs/Forms.antt come to, case by case. Said of any plan, so that no term is large.
use Prim.Native.Nat.{ℕ, ◌+◌, ◌-◌, ◌*◌, ◌≤◌}
use mathlib.Core.Path.{◌≡◌, refl}
use mathlib.Core.Bool.{true, false}
use native.Mathlib.Nat.{mul-le-mul}
use Rattle.plans.specs.Forms.{among, orders_of}
use Rattle.plans.proofs.FormFacts.{among_high}
use Rattle.plans.specs.declared.plan.Plan.{Plan}

-- a product of two sides is small
pub product_small : (a b : ℕ) → among 1 1024 a ≡ true → among 1 1024 b ≡ true → a * b ≤ 1048576
product_small a b p q = mul-le-mul {n₁ = a} {m₁ = b} {n₂ = 1024} {m₂ = 1024} (among_high 1 1024 a p) (among_high 1 1024 b q)

-- how rows are counted
module _ (p : Plan) where
  pub orders_ranked : p.ranked ≡ true → p.bottom - p.top + (p.right - p.left) - 1 ≡ orders_of p
  unfolding orders_of
  orders_ranked a = rw a refl

  pub orders_lines : p.ranked ≡ false → p.bottom - p.top ≡ orders_of p
  unfolding orders_of
  orders_lines a = rw a refl
