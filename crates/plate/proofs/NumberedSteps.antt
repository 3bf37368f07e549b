-- The numbered step of a direction, as the walker finds it: by the direction's index in the table, and by the column and the row that it leads to.
use Prim.Native.Nat.{ℕ, ◌+◌, ◌*◌, ◌≤◌, ◌<◌}
use mathlib.Core.Path.{◌≡◌, refl}
use mathlib.Core.List.{List, [], ◌∷◌, map}
use mathlib.Core.Logic.{⊎_elim}
use native.Mathlib.Omega.{arith}
use lib.Dec.{eqb}
use Rattle.std.specs.Prelude.{Some, None}
use lib.ListN.{length, get_or, length-map, get_or-eq_default}
use lib.IntN.{ℤ, pos, negsuc}
use borrow.Author.Tests.{lt-ltb, le-ltb}
use Rattle.basics.specs.Lists.{first_of}
use Rattle.basics.proofs.Numbers.{le_or_lt, below_four}
use Rattle.basics.proofs.Tests.{true_or_false}
use Rattle.basics.proofs.Lists.{map_at}
use Rattle.plate.specs.Directions.{Step, Direction, table, steps_in, steps, index_of, step_at}
use Rattle.plate.specs.Paths.{Reached.at, Reached.leaves, place_at, step_from, numbered_step}
use Rattle.plate.specs.Within.{within}
use Rattle.plate.proofs.Within.{within_some, within_none}

-- ---- the direction, by its index

steps_in_index : (ds : List Direction) (bit : ℕ) → steps_in ds bit ≡ get_or (map (λ d. d.steps) ds) (first_of (λ d. eqb d.bit bit) ds) []
unfolding steps_in first_of
steps_in_index [] bit = refl
steps_in_index (d ∷ ds) bit =
    ⊎_elim (λ e. rw e) (λ e. rw e (steps_in_index ds bit)) (true_or_false (eqb d.bit bit))

abbrev steps_at : ℕ → List Step
steps_at index = get_or (map (λ d. d.steps) table) index []

pub steps_index : (bit : ℕ) → steps bit ≡ steps_at (index_of bit)
unfolding steps index_of
steps_index bit = steps_in_index table bit

steps_length : (index : ℕ) → index < 4 → length (steps_at index) ≡ 3
unfolding table
steps_length index h = below_four (λ (i : ℕ). length (steps_at i) ≡ 3) refl refl refl refl index h

module _ (W H bit number p : ℕ) where
  pub step_taken : index_of bit < 4 → number < 3 → numbered_step W H bit number p ≡ step_from W H p (step_at (index_of bit) number)
  unfolding numbered_step step_at
  step_taken h k =
      rw (steps_index bit)
      (map_at (step_from W H p) (steps_at (index_of bit)) number _ leaves (omega (arith, steps_length (index_of bit) h)))

  none_past : length (steps bit) ≤ number → numbered_step W H bit number p ≡ leaves
  unfolding numbered_step
  none_past h =
      get_or-eq_default (map (step_from W H p) (steps bit)) leaves
      (omega (arith, length-map (steps bit) (step_from W H p)))

  pub number_leaves : index_of bit < 4 → 3 ≤ number → numbered_step W H bit number p ≡ leaves
  number_leaves h k = none_past (rw (steps_index bit) (omega (arith, steps_length (index_of bit) h)))

  pub direction_leaves : 4 ≤ index_of bit → numbered_step W H bit number p ≡ leaves
  unfolding table
  direction_leaves h =
      none_past (rw (steps_index bit, get_or-eq_default (map (λ d. d.steps) table) [] h) (omega arith))

-- ---- where it leads, by column and row

pub column_leaves : (W H : ℕ) (x y : ℤ) → within W x ≡ None → place_at W H x y ≡ leaves
unfolding place_at
column_leaves W H (negsuc c) y e = refl
column_leaves W H (pos c) (negsuc r) e = refl
column_leaves W H (pos c) (pos r) e = rw (le-ltb c W (within_none W c e))

pub row_leaves : (W H : ℕ) (x y : ℤ) → within H y ≡ None → place_at W H x y ≡ leaves
unfolding place_at
row_leaves W H (negsuc c) y e = refl
row_leaves W H (pos c) (negsuc r) e = refl
row_leaves W H (pos c) (pos r) e =
    let h = le-ltb r H (within_none H r e) in
    ⊎_elim (λ g. rw (le-ltb c W g)) (λ g. rw (lt-ltb c W g, h)) (le_or_lt W c)

pub place_reached : (W H : ℕ) (x y : ℤ) (c r : ℕ) → within W x ≡ Some c → within H y ≡ Some r → place_at W H x y ≡ at (r * W + c)
unfolding place_at
place_reached W H x y c r p q =
    let h = within_some W x c p in
    let k = within_some H y r q in
    rw (h.0, k.0, lt-ltb c W h.1, lt-ltb r H k.1)
