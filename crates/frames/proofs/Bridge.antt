-- The steps of the table in the terms of the definitions of paths: the greatest of the numbers at the three spots that they lead to is the best of the
-- next places, or backwards of the places before.
use Prim.Native.Nat.{ℕ, ◌+◌, ◌*◌, ◌/◌, ◌%◌, ◌^◌, ◌<◌, max}
use mathlib.Core.Path.{◌≡◌, refl, ap, ◌∙◌}
use mathlib.Core.Bool.{Bool, true, false}
use mathlib.Core.List.{List, [], ◌∷◌, map}
use native.Mathlib.Omega.{arith}
use Rattle.basics.proofs.Numbers.{below_three, below_four}
use Rattle.plate.specs.Directions.{Step, table, step_at, steps_in, steps}
use Rattle.plate.specs.Paths.{Reached, Reached.at, Reached.leaves, step_from, arrivals, reached_by, next}
use Rattle.frames.specs.Steps.{columns_on, rows_on, toward}
use Rattle.theory.specs.Walks.{minus, back, around}
use Rattle.theory.specs.BestWalks.{best}
use Rattle.frames.proofs.PlateSpots.{plate_spot}
use Rattle.frames.proofs.Landing.{Small, Small.one_less, Small.no_change, Small.one_more, landing, step_spot}

-- ---- the steps of the table

pub record SmallStep (s : Step) : Type 0 where
  pub column : Small s.column
  pub row : Small s.row

small : {s : Step} → Small s.column → Small s.row → SmallStep s
small c r = record { column = c; row = r }

pub small_steps : (index number : ℕ) → index < 4 → number < 3 → SmallStep (step_at index number)
unfolding step_at table
small_steps index number h k =
    below_four (λ (i : ℕ). SmallStep (step_at i number))
    (below_three (λ (n : ℕ). SmallStep (step_at 0 n)) (small one_less one_less) (small no_change one_less) (small one_more one_less) number k)
    (below_three (λ (n : ℕ). SmallStep (step_at 1 n)) (small one_more one_less) (small one_more no_change) (small one_more one_more) number k)
    (below_three (λ (n : ℕ). SmallStep (step_at 2 n)) (small one_more no_change) (small one_more one_less) (small no_change one_less) number k)
    (below_three (λ (n : ℕ). SmallStep (step_at 3 n)) (small one_more no_change) (small one_more one_more) (small no_change one_more) number k)
    index h

-- the direction at an index of the table has the bit 2 ^ index
pub steps_at_lem : (index : ℕ) → index < 4 → steps (2 ^ index) ≡ step_at index 0 ∷ step_at index 1 ∷ step_at index 2 ∷ []
unfolding steps steps_in step_at table
steps_at_lem index h = below_four (λ (i : ℕ). steps (2 ^ i) ≡ step_at i 0 ∷ step_at i 1 ∷ step_at i 2 ∷ []) refl refl refl refl index h

-- ---- the best of three places

best_first : (g : ℕ → ℕ) (r : Reached) (rs : List Reached) → best g (arrivals (r ∷ rs)) ≡ max (landing g r) (best g (arrivals rs))
unfolding best arrivals landing
best_first g (at q) rs = refl
best_first g leaves rs = omega arith

best_none : (g : ℕ → ℕ) → best g (arrivals []) ≡ 0
unfolding best arrivals
best_none g = refl

best_three :
    (g : ℕ → ℕ) (W H p : ℕ) (s₀ s₁ s₂ : Step) →
    best g (reached_by W H (s₀ ∷ s₁ ∷ s₂ ∷ []) p)
    ≡ max (max (landing g (step_from W H p s₀)) (landing g (step_from W H p s₁))) (landing g (step_from W H p s₂))
unfolding reached_by
best_three g W H p s₀ s₁ s₂ =
    let a = best_first g (step_from W H p s₀) (step_from W H p s₁ ∷ step_from W H p s₂ ∷ []) in
    let b = best_first g (step_from W H p s₁) (step_from W H p s₂ ∷ []) in
    let c = best_first g (step_from W H p s₂) [] in
    let d = best_none g in
    omega arith

pub around_steps :
    (backwards : Bool) (W H index p : ℕ) → index < 4 →
    around backwards W H (2 ^ index) p ≡ reached_by W H (toward backwards (step_at index 0) ∷ toward backwards (step_at index 1) ∷ toward backwards (step_at index 2) ∷ []) p
unfolding around back next toward
around_steps true W H index p h = ap (λ (ss : List Step). reached_by W H (map minus ss) p) (steps_at_lem index h)
around_steps false W H index p h = ap (λ (ss : List Step). reached_by W H ss p) (steps_at_lem index h)

-- the best place that one step leads to, in coordinates plus one
pub best_around :
    (f : ℕ → ℕ) (W H index : ℕ) (backwards : Bool) (p : ℕ) → index < 4 → p < W * H →
    best f (around backwards W H (2 ^ index) p)
    ≡ max
    (max
    (plate_spot f W H (p / W + rows_on index 0 backwards) (p % W + columns_on index 0 backwards))
    (plate_spot f W H (p / W + rows_on index 1 backwards) (p % W + columns_on index 1 backwards)))
    (plate_spot f W H (p / W + rows_on index 2 backwards) (p % W + columns_on index 2 backwards))
unfolding columns_on rows_on
best_around f W H index backwards p known on =
    let s₀ = small_steps index 0 known (omega arith) in
    let s₁ = small_steps index 1 known (omega arith) in
    let s₂ = small_steps index 2 known (omega arith) in
    ap (best f) (around_steps backwards W H index p known)
    ∙ best_three f W H p (toward backwards (step_at index 0)) (toward backwards (step_at index 1)) (toward backwards (step_at index 2))
    ∙ rw (
      step_spot f W H backwards (step_at index 0) p s₀.column s₀.row on,
      step_spot f W H backwards (step_at index 1) p s₁.column s₁.row on,
      step_spot f W H backwards (step_at index 2) p s₂.column s₂.row on,
    )
