-- How the states of any plan grow, as far as one argument serves all: a row of no steps tells the walks that start where the plan says, and the walks of
-- a step more obey the recursion of `best_walk_to`, whose best neighbour is the greatest of three spots. It is left to each plan that its three steps find
-- these spots.
use Prim.Native.Nat.{ℕ, zero, suc, ◌+◌, ◌-◌, ◌^◌, ◌≤◌, ◌<◌, min, max}
use mathlib.Core.Path.{◌≡◌, refl, sym, ap, ◌∙◌}
use mathlib.Core.Bool.{Bool, true, false, cond}
use mathlib.Core.List.{List}
use native.Mathlib.Omega.{arith}
use lib.Dec.{eqb}
use borrow.Author.Tests.{eqb-true, eqb-false}
use Rattle.theory.proofs.WalksTo.{from_start, from_step}
use Rattle.frames.specs.Frames.{Framed, place_in, onward}
use Rattle.frames.specs.declared.frame.Frame.{Frame}
use Rattle.plans.specs.Plans.{rows_in, line_at, row_lo, row_hi, row_at, starts, starts_at, steps_at}
use Rattle.states.specs.Rows.{gate}
use Rattle.states.specs.States.{ahead, Grown}
use Rattle.plans.specs.declared.plan.Plan.{Plan}
use Rattle.directions.specs.Numbers.{pixel_in, number_at}
use Rattle.theory.specs.BestWalks.{alone, fewer, best, best_walk_to}
use Rattle.theory.specs.Walks.{around}

-- ---- what is asked of the pixels of a state

-- something holds of row and pixel, for all pixels of the state
abbrev pub AtPixels : Plan → ℕ → (ℕ → ℕ → Type 0) → Type 0
AtPixels p e P = (m x : ℕ) → m < rows_in p e → row_lo p e m ≤ x → x < row_hi p e m → P m x

-- the keys of the state are those of its pixels
abbrev pub Keyed : Frame → Plan → ℕ → (keys g : ℕ → ℕ) → Type 0
Keyed r p e keys g = AtPixels p e (λ m x. keys (row_at p e m + x) ≡ g (pixel_in r p.ranked (line_at p e m) x))

-- walks start where the test passes
abbrev pub StartsBy : Frame → Plan → ℕ → (ℕ → Bool) → Type 0
StartsBy r p e passes = AtPixels p e (λ m x. starts p e m ≡ true → starts_at p m x ≡ passes (pixel_in r p.ranked (line_at p e m) x))

-- the line of a pixel of row m
abbrev pub line_in : Plan → ℕ → ℕ → ℕ → ℕ
line_in p e m x = cond p.ranked (line_at p e m - x) (line_at p e m)

-- ---- rows of no steps and others

gated : (b : Bool) (v : ℕ) → cond b v 0 ≡ gate b v
gated true v = refl
gated false v = refl

zero_steps : (ranked : Bool) (e m : ℕ) → cond ranked (eqb e 0) (eqb m 0) ≡ true → cond ranked e m ≡ 0
zero_steps true e m h = eqb-true e 0 h
zero_steps false e m h = eqb-true m 0 h

some_steps : (n : ℕ) → eqb n 0 ≡ false → n ≡ suc (n - 1)
some_steps zero h = absurd (eqb-false 0 0 h refl)
some_steps (suc n) h = omega arith

more_steps : (ranked : Bool) (e m : ℕ) → cond ranked (eqb e 0) (eqb m 0) ≡ false → cond ranked e m ≡ suc (cond ranked e m - 1)
more_steps true e m h = some_steps e h
more_steps false e m h = some_steps m h

-- ---- one step more

module _ (r : Frame) (W H index : ℕ) (framed : Framed r W H index) (back : Bool) (p : Plan) (g : ℕ → ℕ) (passes : ℕ → Bool) where
  abbrev next : ℕ → List ℕ
  next = around back W H (2 ^ index)

  abbrev walks : ℕ → ℕ → ℕ → ℕ
  walks = best_walk_to p.slack next g passes

  module _ (n i x : ℕ) (on : i < r.lines) (column : x < r.across) where
    fewer_onward : (j : ℕ) → fewer (λ b. best (walks n b) (next (place_in r i x))) j ≡ fewer (λ b. onward (walks n b) r back i x) j
    unfolding fewer
    fewer_onward zero = refl
    fewer_onward (suc j) = framed.near (walks n j) back i x on column

    step_onward : (j : ℕ) →
        walks (suc n) j (place_in r i x)
        ≡ max (min (g (place_in r i x)) (onward (walks n j) r back i x)) (fewer (λ b. onward (walks n b) r back i x) j)
    step_onward j = from_step p.slack next g passes n j (place_in r i x) ∙ rw (framed.near (walks n j) back i x on column, fewer_onward j)

    module _ (e m : ℕ) (last this : ℕ → ℕ → ℕ → ℕ)
        (onto : (j : ℕ) → ahead p e last this (suc j) m x ≡ onward (walks n j) r back i x) where
      fewer_ahead : (j : ℕ) → fewer (λ b. onward (walks n b) r back i x) j ≡ ahead p e last this j m x
      unfolding fewer ahead
      fewer_ahead zero = refl
      fewer_ahead (suc j) = sym (onto j)

      step_ahead : (j : ℕ) →
          walks (suc n) j (place_in r i x) ≡ max (min (g (place_in r i x)) (ahead p e last this (suc j) m x)) (ahead p e last this j m x)
      step_ahead j = step_onward j ∙ rw (fewer_ahead j, onto j)

  -- ---- so the states grow, if the three steps of the plan find the three spots

  module _ (e : ℕ) (keys : ℕ → ℕ) (keyed : Keyed r p e keys g) (started : StartsBy r p e passes) (last : ℕ → ℕ → ℕ → ℕ) where
    abbrev this : ℕ → ℕ → ℕ → ℕ
    this = number_at r p next g passes e

    first_row : (m j x : ℕ) → m < rows_in p e → row_lo p e m ≤ x → x < row_hi p e m → starts p e m ≡ true →
        this m j x ≡ gate (starts_at p m x) (alone p.slack (keys (row_at p e m + x)) j)
    unfolding number_at starts
    first_row m j x h a b s =
        let q : ℕ = pixel_in r p.ranked (line_at p e m) x in
        ap (λ (n : ℕ). walks n j q) (zero_steps p.ranked e m s)
        ∙ from_start p.slack next g passes j q
        ∙ gated (passes q) (alone p.slack (g q) j)
        ∙ rw (keyed m x h a b, started m x h a b s)

    pub grown_by :
        AtPixels p e (λ m x. (line_in p e m x < r.lines) × (x < r.across)) →
        AtPixels p e (λ m x. (n : ℕ) → steps_at p e m ≡ suc n → (j : ℕ) →
        ahead p e last (number_at r p (around back W H (2 ^ index)) g passes e) (suc j) m x
        ≡ onward (best_walk_to p.slack (around back W H (2 ^ index)) g passes n j) r back (line_in p e m x) x) →
        Grown p e keys last (number_at r p (around back W H (2 ^ index)) g passes e)
    unfolding number_at starts
    grown_by on onto =
        record {
          first = λ m j x h k a b s. first_row m j x h a b s;
          later = λ m j x h k a b s.
              let n : ℕ = steps_at p e m - 1 in
              let is : steps_at p e m ≡ suc n = more_steps p.ranked e m s in
              let o = on m x h a b in
              ap (λ (i : ℕ). walks i j (pixel_in r p.ranked (line_at p e m) x)) is
              ∙ step_ahead n (line_in p e m x) x o.0 o.1 e m last this (onto m x h a b n is) j
              ∙ ap (λ (v : ℕ). max (min v (ahead p e last this (suc j) m x)) (ahead p e last this j m x)) (sym (keyed m x h a b));
        }
