-- Laws of `span_of`. The middle step tells which of the table's directions it is: each of the four is compared by computation.
use Prim.Native.Nat.{ℕ, ◌+◌, ◌-◌, ◌^◌, ◌≤◌, ◌<◌}
use mathlib.Core.Path.{◌≡◌, refl, sym, ◌∙◌}
use mathlib.Core.Bool.{true, false}
use native.Mathlib.Omega.{arith}
use borrow.Author.Tests.{le-leb, lt-leb}
use mir.Syntax.{w8}
use mir.Val.{of_z}
use Rattle.basics.proofs.Numbers.{below_four}
use Rattle.plate.specs.Directions.{table, step_at}
use Rattle.plate.specs.Paths.{span}
use Rattle.plate.specs.Refusals.{bad_size}
use Rattle.plate.specs.Sizes.{GoodSize, span_of}
use Rattle.plate.proofs.Sizes.{allowed_size}

-- ---- by the tests of the code

pub no_size : (W H index : ℕ) → bad_size W H ≡ true → 0 ≡ span_of W H index
unfolding span_of
no_size W H index e = rw e

module _ (W H index : ℕ) (good : bad_size W H ≡ false) where
  pub no_direction : 4 ≤ index → 0 ≡ span_of W H index
  unfolding span_of table
  no_direction h = rw (good, le-leb 4 index h)

  module _ (listed : index < 4) where
    pub span_listed : span W H (2 ^ index) ≡ span_of W H index
    unfolding span_of table
    span_listed = rw (good, lt-leb 4 index listed)

    -- the middle step stays in its column, or in its row, where the bits of its change are 0
    pub span_rows : of_z w8 (step_at index 1).column ≡ 0 → H ≡ span_of W H index
    unfolding span step_at table
    span_rows e =
        below_four (λ (i : ℕ). of_z w8 (step_at i 1).column ≡ 0 → H ≡ span W H (2 ^ i))
        (λ z. refl) (λ z. absurd (omega arith)) (λ z. absurd (omega arith)) (λ z. absurd (omega arith)) index listed e ∙ span_listed

    pub span_columns : of_z w8 (step_at index 1).row ≡ 0 → W ≡ span_of W H index
    unfolding span step_at table
    span_columns e =
        below_four (λ (i : ℕ). of_z w8 (step_at i 1).row ≡ 0 → W ≡ span W H (2 ^ i))
        (λ z. absurd (omega arith)) (λ z. refl) (λ z. absurd (omega arith)) (λ z. absurd (omega arith)) index listed e ∙ span_listed

    pub span_diagonal : (of_z w8 (step_at index 1).column ≡ 0 → ⊥) → (of_z w8 (step_at index 1).row ≡ 0 → ⊥) → W + H - 1 ≡ span_of W H index
    unfolding span step_at table
    span_diagonal m n =
        below_four (λ (i : ℕ). (of_z w8 (step_at i 1).column ≡ 0 → ⊥) → (of_z w8 (step_at i 1).row ≡ 0 → ⊥) → W + H - 1 ≡ span W H (2 ^ i))
        (λ p q. absurd (p refl)) (λ p q. absurd (q refl)) (λ p q. refl) (λ p q. refl) index listed m n ∙ span_listed

-- ---- for callers

pub span_good : {W H : ℕ} → GoodSize W H → (index : ℕ) → index < 4 → span_of W H index ≡ span W H (2 ^ index)
span_good {W} {H} g index h = sym (span_listed W H index (allowed_size g) h)

pub span_bound : {W H : ℕ} → GoodSize W H → (index : ℕ) → index < 4 → span_of W H index ≤ 2047
unfolding span
span_bound {W} {H} g index h =
    rw (span_good g index h)
    (below_four (λ (i : ℕ). span W H (2 ^ i) ≤ 2047) (omega (arith, g.low)) (omega (arith, g.narrow)) (omega (arith, g.narrow, g.low)) (omega (arith, g.narrow, g.low)) index h)
