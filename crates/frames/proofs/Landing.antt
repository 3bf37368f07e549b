-- The number at a step's end. In coordinates plus one it is a spot of the plate, in the signed coordinates of the definitions the number at the place that the
-- step reaches, 0 where it leaves: the two are the same, because a change plus one never falls below zero.
use Prim.Native.Nat.{ℕ, zero, suc, ◌+◌, ◌-◌, ◌*◌, ◌/◌, ◌%◌, ◌<◌}
use mathlib.Core.Path.{◌≡◌, refl, sym, ap, ◌∙◌}
use mathlib.Core.Logic.{inl, inr}
use mathlib.Core.Bool.{Bool, true, false, cond}
use native.Mathlib.Omega.{arith}
use lib.IntN.{ℤ, pos, negsuc, neg_ℤ, ◌+ℤ◌}
use borrow.Author.Tests.{le-ltb, lt-ltb}
use Rattle.basics.proofs.Numbers.{le_or_lt}
use Rattle.plate.specs.Directions.{Step}
use Rattle.plate.specs.Paths.{Reached, Reached.at, Reached.leaves, place_at, step_from}
use Rattle.frames.specs.Steps.{plus_one, biased, toward}
use Rattle.theory.specs.Walks.{minus}
use Rattle.frames.proofs.PlateSpots.{plate_spot, spot_on, spot_above, spot_below, spot_left, spot_right}

-- a change by −1, 0 or 1
pub data Small : ℤ → Type 0 where
  one_less : Small (negsuc 0)
  no_change : Small (pos 0)
  one_more : Small (pos 1)

-- what g says of the place reached, 0 where the step leaves
unfoldable pub landing : (ℕ → ℕ) → Reached → ℕ
landing g (at q) = g q
landing g leaves = 0

-- ---- coordinates plus one

-- the coordinate that is X plus one
unfoldable pub less : ℕ → ℤ
less zero = negsuc 0
less (suc X) = pos X

less_down : (c : ℕ) → pos c +ℤ negsuc 0 ≡ less (c + 0)
unfolding less
less_down zero = refl
less_down (suc c) =
    let e : suc c - 1 ≡ c = omega arith in
    let f : suc c + 0 ≡ suc c = omega arith in
    simp (le-ltb (suc c) 1 (omega arith), e, f)

less_none : (c : ℕ) → pos c +ℤ pos 0 ≡ less (c + 1)
unfolding less
less_none c =
    let e : c + 1 ≡ suc c = omega arith in
    let f : c + 0 ≡ c = omega arith in
    simp (e, f)

less_up : (c : ℕ) → pos c +ℤ pos 1 ≡ less (c + 2)
unfolding less
less_up c = let e : c + 2 ≡ suc (c + 1) = omega arith in rw e

moved : (back : Bool) (c : ℕ) {d : ℤ} → Small d → pos c +ℤ cond back (neg_ℤ d) d ≡ less (c + biased back d)
unfolding biased plus_one
moved true c one_less = less_up c
moved true c no_change = less_none c
moved true c one_more = less_down c
moved false c one_less = less_down c
moved false c no_change = less_none c
moved false c one_more = less_up c

-- where a step leads from a place of the plate
pub step_place :
    (W H : ℕ) (back : Bool) (s : Step) (p : ℕ) → Small s.column → Small s.row → p < W * H →
    step_from W H p (toward back s) ≡ place_at W H (less (p % W + biased back s.column)) (less (p / W + biased back s.row))
unfolding step_from toward minus
step_place W H true s p dc dr l = rw (lt-ltb p (W * H) l, moved true (p % W) dc, moved true (p / W) dr)
step_place W H false s p dc dr l = rw (lt-ltb p (W * H) l, moved false (p % W) dc, moved false (p / W) dr)

-- ---- the place reached

module _ (f : ℕ → ℕ) (W H : ℕ) where
  on_plate : (c r : ℕ) → c < W → r < H → landing f (place_at W H (pos c) (pos r)) ≡ plate_spot f W H (suc r) (suc c)
  unfolding landing place_at
  on_plate c r l m =
      rw (lt-ltb c W l, lt-ltb r H m)
      (sym
      (spot_on f W H (suc r) (suc c) (omega arith) (omega arith) (omega arith) (omega arith)
      ∙ ap f
      (let e : (suc r - 1) * W + (suc c - 1) ≡ r * W + c = omega (arith, ap (λ (x : ℕ). x * W) (let e : suc r - 1 ≡ r = omega arith in e)) in e)))

  landing_spot : (Y X : ℕ) → landing f (place_at W H (less X) (less Y)) ≡ plate_spot f W H Y X
  unfolding landing place_at less
  landing_spot zero zero = sym (spot_above f W H 0 0 (omega arith))
  landing_spot zero (suc c) = sym (spot_above f W H 0 (suc c) (omega arith))
  landing_spot (suc r) zero = sym (spot_left f W H (suc r) 0 (omega arith))
  landing_spot (suc r) (suc c) =
      elim (le_or_lt W c) [
        | inl l ↦ rw (le-ltb c W l) (sym (spot_right f W H (suc r) (suc c) (omega arith)))
        | inr l ↦ elim (le_or_lt H r) [
          | inl m ↦ rw (lt-ltb c W l, le-ltb r H m) (sym (spot_below f W H (suc r) (suc c) (omega arith)))
          | inr m ↦ on_plate c r l m
        ]
      ]

  -- what a step leads to
  pub step_spot :
      (back : Bool) (s : Step) (p : ℕ) → Small s.column → Small s.row → p < W * H →
      landing f (step_from W H p (toward back s)) ≡ plate_spot f W H (p / W + biased back s.row) (p % W + biased back s.column)
  step_spot back s p dc dr l =
      rw (step_place W H back s p dc dr l) (landing_spot (p / W + biased back s.row) (p % W + biased back s.column))
