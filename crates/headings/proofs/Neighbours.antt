-- The neighbours of a pixel by numbered steps: what the three steps of a heading reach are just the places around the pixel. And a search that has
-- tried some of the steps.
use Prim.Native.Nat.{ℕ, zero, suc, ◌+◌, ◌*◌, ◌/◌, ◌%◌, ◌≤◌, ◌<◌}
use mathlib.Core.Path.{◌≡◌, refl, sym, ap}
use mathlib.Core.List.{[], ◌∷◌, Memᴰ}
use Rattle.std.specs.Prelude.{Option, Some, None, unwrap_or}
use Rattle.std.proofs.lemmas.Option.{none-some}
use native.Mathlib.Omega.{arith}
use borrow.Author.Tests.{lt-ltb, le-ltb}
use Rattle.basics.proofs.Numbers.{below_three}
use Rattle.basics.proofs.Lists.{one_of_three}
use Rattle.plate.specs.Directions.{Step, step_at}
use Rattle.plate.specs.Paths.{Reached, Reached.at, Reached.leaves, place_at, step_from, reached_by}
use Rattle.theory.proofs.Steps.{stepped, landed_on, reached_find, reached_keep}
use Rattle.frames.specs.Steps.{columns_on, rows_on, toward}
use Rattle.frames.proofs.Landing.{less, step_place}
use Rattle.frames.proofs.Bridge.{small_steps, around_steps}
use Rattle.headings.specs.Headings.{onward, room_at, reached_at, landed}
use Rattle.headings.specs.Choosing.{Fitting}
use Rattle.headings.specs.declared.heading.Heading.{Heading}

-- ---- a place by its column X − 1 and row Y − 1

pub off_left : (W H X Y : ℕ) → (1 ≤ X → ⊥) → landed (place_at W H (less X) (less Y)) ≡ None
unfolding less place_at
off_left W H zero Y l = refl
off_left W H (suc x) Y l = absurd (l (omega arith))

pub off_top : (W H X Y : ℕ) → (1 ≤ Y → ⊥) → landed (place_at W H (less X) (less Y)) ≡ None
unfolding less place_at
off_top W H zero Y l = refl
off_top W H (suc x) zero l = refl
off_top W H (suc x) (suc y) l = absurd (l (omega arith))

module _ (W H X Y x y : ℕ) (is-x : X ≡ suc x) (is-y : Y ≡ suc y) where
  pub off_right : W ≤ x → landed (place_at W H (less X) (less Y)) ≡ None
  unfolding less place_at
  off_right l = rw (is-x, is-y, le-ltb x W l) refl

  pub off_bottom : x < W → H ≤ y → landed (place_at W H (less X) (less Y)) ≡ None
  unfolding less place_at
  off_bottom h l = rw (is-x, is-y, lt-ltb x W h, le-ltb y H l) refl

  pub on_place : x < W → y < H → landed (place_at W H (less X) (less Y)) ≡ Some (y * W + x)
  unfolding less place_at
  on_place h l = rw (is-x, is-y, lt-ltb x W h, lt-ltb y H l) refl

-- ---- the steps of a heading

module _ (h : Heading) (p : ℕ) where
  module _ (on : p < h.width * h.height) (number : ℕ) (l : number < 3) where
    -- in coordinates plus one
    reached_place :
        reached_at h number p
        ≡ place_at h.width h.height (less (p % h.width + columns_on h.index number h.backwards)) (less (p / h.width + rows_on h.index number h.backwards))
    unfolding reached_at columns_on rows_on
    reached_place =
        let s = small_steps h.index number h.listed l in
        step_place h.width h.height h.backwards (step_at h.index number) p s.column s.row on

    -- the place that the code computes
    pub reached_by_lem : (X Y : ℕ) (r : Option ℕ) → X ≡ columns_on h.index number h.backwards → Y ≡ rows_on h.index number h.backwards →
        landed (place_at h.width h.height (less (p % h.width + X)) (less (p / h.width + Y))) ≡ r → r ≡ landed (reached_at h number p)
    reached_by_lem X Y r ex ey e = rw (reached_place, ← ex, ← ey) (sym e)

  pub reached_around : (number q : ℕ) → number < 3 → reached_at h number p ≡ at q → Memᴰ q (onward h p)
  unfolding reached_at
  reached_around number q l e =
      rw (around_steps h.backwards h.width h.height h.index p h.listed)
      (below_three (λ (i : ℕ). reached_at h i p ≡ at q → Memᴰ q (reached_by h.width h.height (toward h.backwards (step_at h.index 0) ∷ toward h.backwards (step_at h.index 1) ∷ toward h.backwards (step_at h.index 2) ∷ []) p))
      (λ z. reached_keep h.width h.height p q (Memᴰ.head refl) z)
      (λ z. reached_keep h.width h.height p q (Memᴰ.tail (Memᴰ.head refl)) z)
      (λ z. reached_keep h.width h.height p q (Memᴰ.tail (Memᴰ.tail (Memᴰ.head refl))) z)
      number l e)

  pub around_reached : (q : ℕ) → Memᴰ q (onward h p) → (number : ℕ) × (number < 3) × (reached_at h number p ≡ at q)
  unfolding reached_at
  around_reached q i =
      let f = reached_find h.width h.height _ p q (rw (around_steps h.backwards h.width h.height h.index p h.listed) at i) in
      one_of_three (λ (s : Step). step_from h.width h.height p s ≡ at q → (number : ℕ) × (number < 3) × (reached_at h number p ≡ at q))
      (λ z. (0, omega arith, z)) (λ z. (1, omega arith, z)) (λ z. (2, omega arith, z)) f.1 f.2

  pub reached_on : (number q : ℕ) → reached_at h number p ≡ at q → q < h.width * h.height
  unfolding reached_at
  reached_on number q e = landed_on (stepped h.width h.height _ p q e).1

-- the place that a step landed at was reached
landed_at : (r : Reached) (q : ℕ) → Some q ≡ landed r → r ≡ at q
landed_at (at p) q e = ap (λ (o : Option ℕ). at (unwrap_or o p)) (sym e)
landed_at leaves q e = absurd (none-some q (sym e))

pub landed_within : (h : Heading) (p number q : ℕ) → Some q ≡ landed (reached_at h number p) → q < h.width * h.height
landed_within h p number q e = reached_on h p number q (landed_at (reached_at h number p) q e)

-- ---- a search that has tried the first steps

module _ (h : Heading) (p m : ℕ) where
  -- none of them leads to a neighbour that fits
  pub record Tried (number : ℕ) : Type 0 where
    pub none : (i q : ℕ) → i < number → reached_at h i p ≡ at q → Fitting h p m q → ⊥

  pub roomy_chosen : (number x n : ℕ) → Some x ≡ landed (reached_at h number p) → n ≡ room_at h x → number < 3 → m ≤ n → Fitting h p m x
  roomy_chosen number x n is e l enough =
      record { near = reached_around h p number x l (landed_at (reached_at h number p) x is); roomy = omega arith }

  pub none_chosen : (number : ℕ) → 3 ≤ number → Tried number → (q : ℕ) → Fitting h p m q → ⊥
  none_chosen number l d q f = let r = around_reached h p q f.near in d.none r.0 q (omega (arith, r.1)) r.2 f
