-- What `walked` is in each case that the walker's code tells apart, as laws over plain numbers: `by_column` and `by_row` are where the
-- step leads.
use Prim.Native.Nat.{ℕ, ◌+◌, ◌*◌, ◌/◌, ◌%◌, ◌≤◌, ◌<◌}
use mathlib.Core.Path.{◌≡◌, sym, ◌∙◌}
use mathlib.Core.Bool.{true, false}
use mathlib.Core.List.{map}
use mathlib.Core.Logic.{⊎_elim}
use native.Mathlib.Omega.{arith}
use lib.ListN.{length, length-map, get_or-eq_default}
use lib.IntN.{ℤ, pos, ◌+ℤ◌}
use borrow.Author.Tests.{lt-ltb, le-ltb}
use Rattle.basics.proofs.Numbers.{le_or_lt}
use Rattle.basics.proofs.Lists.{map_at}
use Rattle.plate.specs.Directions.{Step, steps, index_of, step_at}
use Rattle.plate.specs.Paths.{Reached, Reached.at, Reached.leaves, place_at, step_from, numbered_step}
use Rattle.plate.specs.Refusals.{bad_size}
use Rattle.plate.specs.Answers.{moved, walked}
use Rattle.plate.specs.Within.{within}
use Rattle.plate.specs.declared.walker.Walker.{Walker}
use Rattle.std.specs.Prelude.{Some, None}
use Rattle.plate.proofs.NumberedSteps.{step_taken, number_leaves, direction_leaves, column_leaves, row_leaves, place_reached}

module _ (w : Walker) (number : ℕ) where
  pub size_leaves : bad_size w.width w.height ≡ true → None ≡ walked w number
  unfolding walked
  size_leaves e = rw e

  module _ (good : bad_size w.width w.height ≡ false) where
    -- where the numbered step leads decides
    decided : {q : Reached} → numbered_step w.width w.height w.direction number w.place ≡ q → moved w q ≡ walked w number
    unfolding walked
    decided e = rw (good, e)

    -- off the plate every step leaves
    off : (s : Step) → w.width * w.height ≤ w.place → step_from w.width w.height w.place s ≡ leaves
    unfolding step_from
    off s h = rw (le-ltb _ _ h)

    pub place_leaves : w.width * w.height ≤ w.place → None ≡ walked w number
    unfolding numbered_step
    place_leaves h =
        let ss = steps w.direction in
        let go = step_from w.width w.height w.place in
        decided
        (⊎_elim
        (λ l. get_or-eq_default (map go ss) leaves (omega (arith, length-map ss go)))
        (λ l. map_at go ss number (step_at 0 0) leaves l ∙ off _ h)
        (le_or_lt (length ss) number))

    pub no_direction_leaves : 4 ≤ index_of w.direction → None ≡ walked w number
    no_direction_leaves h = decided (direction_leaves w.width w.height w.direction number w.place h)

    module _ (known : index_of w.direction < 4) where
      pub no_number_leaves : 3 ≤ number → None ≡ walked w number
      no_number_leaves h = decided (number_leaves w.width w.height w.direction number w.place known h)

      module _ (numbered : number < 3) (on : w.place < w.width * w.height) where
        abbrev by_column : ℤ
        by_column = pos (w.place % w.width) +ℤ (step_at (index_of w.direction) number).column

        abbrev by_row : ℤ
        by_row = pos (w.place / w.width) +ℤ (step_at (index_of w.direction) number).row

        taken : (q : Reached) → place_at w.width w.height by_column by_row ≡ q → moved w q ≡ walked w number
        unfolding step_from
        taken q e =
            let here : step_from w.width w.height w.place (step_at (index_of w.direction) number) ≡ q = rw (lt-ltb _ _ on) e in
            decided (step_taken w.width w.height w.direction number w.place known numbered ∙ here)

        pub column_off : None ≡ within w.width by_column → None ≡ walked w number
        column_off e = taken leaves (column_leaves w.width w.height _ _ (sym e))

        pub row_off : None ≡ within w.height by_row → None ≡ walked w number
        row_off e = taken leaves (row_leaves w.width w.height _ _ (sym e))

        pub walker_moves : {column row : ℕ} → Some column ≡ within w.width by_column → Some row ≡ within w.height by_row → Some (record { width = w.width; height = w.height; direction = w.direction; place = row * w.width + column }) ≡ walked w number
        walker_moves {column} {row} p q =
            taken (at (row * w.width + column)) (place_reached w.width w.height _ _ column row (sym p) (sym q))
