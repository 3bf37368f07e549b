-- `step` is `walked`, case by case (`WalkerSteps`): the tests of the code are the cases, and the size keeps every number small.
use Prim.Native.Nat.{ℕ, ◌*◌, ◌<◌}
use native.Mathlib.Nat.{div-le_self, mod-le, mul_comm}
use native.Mathlib.Omega.{arith}
use lib.Arith.{digits_lt}
use mathlib.Core.Path.{◌≡◌, sym, ap, ◌∙◌}
use mathlib.Core.Bool.{false}
use lib.IntN.{ℤ}
use lib.Signed.{mag}
use mir.Syntax.{w8}
use mir.Val.{to_z, of_z}
use mir.ValLaws.{to_z-of_z}
use Rattle.plate.specs.Directions.{index_of, step_at}
use Rattle.plate.specs.Refusals.{bad_size}
use Rattle.plate.specs.Sizes.{GoodSize}
use Rattle.plate.proofs.Sizes.{good_size}
use Rattle.plate.proofs.Within.{within_some}
use Rattle.plate.proofs.WalkerSteps.{size_leaves, place_leaves, no_direction_leaves, no_number_leaves, column_off, row_off, walker_moves}
use Rattle.plate.proofs.walker.Walker.step.Goals as goal
use Rattle.plate.proofs.walker.Walker.step.Goals.{In_ok-row, Else-number-ge-STEPS_EACH, After-column_change, After-row_change, Else-bad_size, Else-index-ge-DIRECTIONS, After-index_of-index}

-- the size is good after the first test
not_bad : (c : Else-bad_size) → bad_size c.args.self.width c.args.self.height ≡ false
not_bad c = sym c.bad_size.ensures ∙ c.if-bad_size.false

sized : (c : Else-bad_size) → GoodSize c.args.self.width c.args.self.height
sized c = good_size _ _ (not_bad c)

-- a change that is handed on is read back from its bits
bits_read : {z : ℤ} → mag z < 128 → to_z w8 (of_z w8 z) ≡ z
bits_read {z} small = to_z-of_z w8 z (record { sfits = small })

-- where the step leads by column and by row
known : (c : Else-index-ge-DIRECTIONS) → index_of c.args.self.direction < 4
known c = rw c.index_of-index.ensures at c.if-index-ge-DIRECTIONS.false

on_plate : (c : Else-number-ge-STEPS_EACH) → c.args.self.place < c.args.self.width * c.args.self.height
on_plate c = c.if-place-width.false

column_is : (c : After-column_change) → to_z w8 (of_z w8 c.column_change.result) ≡ (step_at (index_of c.args.self.direction) c.args.number).column
column_is c = bits_read c.column_change.type_inv ∙ c.column_change.ensures ∙ ap (λ (i : ℕ). (step_at i c.args.number).column) c.index_of-index.ensures

row_is : (c : After-row_change) → to_z w8 (of_z w8 c.row_change.result) ≡ (step_at (index_of c.args.self.direction) c.args.number).row
row_is c = bits_read c.row_change.type_inv ∙ c.row_change.ensures ∙ ap (λ (i : ℕ). (step_at i c.args.number).row) c.index_of-index.ensures

pub returns-then-bad_size : goal.returns-then-bad_size
returns-then-bad_size c = size_leaves _ _ (sym c.bad_size.ensures ∙ c.if-bad_size.true)

pub overflow_mul-width : goal.overflow_mul-width
overflow_mul-width c = omega (arith, (sized c).few)

pub returns-then-place-width : goal.returns-then-place-width
returns-then-place-width c = place_leaves _ _ (not_bad (goal.at.returns-then-place-width c).Else-bad_size) c.if-place-width.true

pub returns-then-index-ge-DIRECTIONS : goal.returns-then-index-ge-DIRECTIONS
returns-then-index-ge-DIRECTIONS c =
    no_direction_leaves _ _ (not_bad (goal.at.returns-then-index-ge-DIRECTIONS c).Else-bad_size) (rw c.index_of-index.ensures at c.if-index-ge-DIRECTIONS.true)

pub returns-then-number-ge-STEPS_EACH : goal.returns-then-number-ge-STEPS_EACH
returns-then-number-ge-STEPS_EACH c =
    no_number_leaves _ _ (not_bad (goal.at.returns-then-number-ge-STEPS_EACH c).Else-bad_size) (known (goal.at.returns-then-number-ge-STEPS_EACH c).Else-index-ge-DIRECTIONS) c.if-number-ge-STEPS_EACH.true

pub shifted-requires : goal.shifted-requires
shifted-requires c =
    omega (arith, mod-le c.args.self.place c.args.self.width, (sized (goal.at.shifted-requires c).Else-bad_size).few, c.if-place-width.false)

pub returns-in_err-column : goal.returns-in_err-column
returns-in_err-column c =
    c.from_residual.ensures
    ∙ column_off _ _ (not_bad (goal.at.returns-in_err-column c).Else-bad_size) (known (goal.at.returns-in_err-column c).Else-index-ge-DIRECTIONS) c.if-number-ge-STEPS_EACH.false (on_plate (goal.at.returns-in_err-column c).Else-number-ge-STEPS_EACH)
    (rw (column_is (goal.at.returns-in_err-column c).After-column_change) at c.in_err-column.ensures)

pub shifted-requires-2 : goal.shifted-requires-2
shifted-requires-2 c =
    omega (arith, div-le_self c.args.self.place c.args.self.width, (sized (goal.at.shifted-requires-2 c).Else-bad_size).few, c.if-place-width.false)

pub returns-in_err-row : goal.returns-in_err-row
returns-in_err-row c =
    c.from_residual-in_err-row.ensures
    ∙ row_off _ _ (not_bad (goal.at.returns-in_err-row c).Else-bad_size) (known (goal.at.returns-in_err-row c).Else-index-ge-DIRECTIONS) c.if-number-ge-STEPS_EACH.false (on_plate (goal.at.returns-in_err-row c).Else-number-ge-STEPS_EACH)
    (rw (row_is (goal.at.returns-in_err-row c).After-row_change) at c.in_err-row.ensures)

inside : (c : In_ok-row) → (c.in_ok-column.column < c.args.self.width) × (c.in_ok-row.row < c.args.self.height)
inside c = ((within_some _ _ _ (sym c.in_ok-column.ensures)).1, (within_some _ _ _ (sym c.in_ok-row.ensures)).1)

pub overflow_mul-result : goal.overflow_mul-result
overflow_mul-result c =
    let w = c.args.self in
    let i = inside c in
    omega (arith, digits_lt i.1 i.0, (sized (goal.at.overflow_mul-result c).Else-bad_size).few, mul_comm w.width w.height)

pub overflow_add-result : goal.overflow_add-result
overflow_add-result c =
    let w = c.args.self in
    let i = inside (goal.at.overflow_add-result c).In_ok-row in
    omega (arith, digits_lt i.1 i.0, (sized (goal.at.overflow_add-result c).Else-bad_size).few, mul_comm w.width w.height)

pub returns : goal.returns
returns c =
    walker_moves _ _ (not_bad (goal.at.returns c).Else-bad_size) (known (goal.at.returns c).Else-index-ge-DIRECTIONS) c.if-number-ge-STEPS_EACH.false (on_plate (goal.at.returns c).Else-number-ge-STEPS_EACH)
    (rw (column_is (goal.at.returns c).After-column_change) at c.in_ok-column.ensures)
    (rw (row_is (goal.at.returns c).After-row_change) at c.in_ok-row.ensures)
