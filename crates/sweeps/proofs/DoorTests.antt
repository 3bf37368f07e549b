-- The tests of specs/Doors.antt: what its numbers come to, and that a call with all that is asked passes. Said of any numbers, so that no term is large.
use Prim.Native.Nat.{ℕ, ◌+◌, ◌-◌, ◌*◌, ◌≤◌}
use mathlib.Core.Path.{◌≡◌, refl, sym}
use mathlib.Core.Bool.{Bool, true, false}
use native.Mathlib.Omega.{arith}
use borrow.Author.Tests.{le-leb}
use Rattle.plans.specs.Plans.{half_of, keys_size, state_size}
use Rattle.plans.specs.Forms.{well_formed}
use Rattle.plans.specs.declared.plan.Plan.{Plan}
use Rattle.plans.specs.declared.plan.Reach.{Reach}
use Rattle.plans.proofs.FormFacts.{Formed}
use Rattle.plans.proofs.FormTests.{orders_ranked, orders_lines}
use Rattle.states.specs.Doors.{can_hold}
use Rattle.states.proofs.DoorTests.{hold_if}
use Rattle.sweeps.specs.Doors.{states_of, other_end, room_for, sweepable}

-- ---- the parts of a sweep

module _ (p : Plan) where
  -- as many lines and ranks as a plate has
  pub orders_few : Formed p → p.orders ≤ 2048
  orders_few f = go p.ranked refl
    where
      go : (b : Bool) → p.ranked ≡ b → p.orders ≤ 2048
      go true r =
          omega (arith, f.counted.orders, orders_ranked p r, f.area.low, f.area.narrow, f.limits.few_lines, f.limits.few_across)
      go false r = omega (arith, f.counted.orders, orders_lines p r, f.area.low, f.limits.few_lines)

  pub states_still : p.still ≡ true → p.orders ≡ states_of p
  unfolding states_of
  states_still a = rw a refl

  pub states_moving : p.still ≡ false → p.orders + 1 - p.rows ≡ states_of p
  unfolding states_of
  states_moving a = rw a refl

  pub room_linked : p.linked ≡ true → keys_size p + 2 * state_size p ≡ room_for p
  unfolding room_for
  room_linked a = rw a refl

  pub room_alone : p.linked ≡ false → keys_size p + state_size p ≡ room_for p
  unfolding room_for
  room_alone a = rw a (omega arith)

  pub room_one : keys_size p + state_size p ≤ room_for p
  room_one = go p.linked refl
    where
      go : (b : Bool) → p.linked ≡ b → keys_size p + state_size p ≤ room_for p
      go true l = omega (arith, room_linked l)
      go false l = omega (arith, room_alone l)

-- ---- a sweep

module _ (p : Plan) (reach : Reach) (work best : ℕ) where
  pub sweeps_6 : can_hold p 24480 ≡ true → well_formed (other_end p reach) ≡ true → (n : ℕ) → n ≡ states_of p → n ≤ 1024 →
      (m : ℕ) → m ≡ room_for p → m ≤ work → keys_size p ≤ best → true ≡ sweepable p reach work best
  unfolding sweepable
  sweeps_6 a b n e d m f g h = rw (a, b, sym e, le-leb n 1024 d, sym f, le-leb m work g, le-leb (keys_size p) best h) refl

  -- a sweep of plans that can be followed, with room, is taken
  pub sweeps_if : well_formed p ≡ true → half_of p + half_of p ≤ 24480 → well_formed (other_end p reach) ≡ true → states_of p ≤ 1024 → room_for p ≤ work →
      keys_size p ≤ best → sweepable p reach work best ≡ true
  sweeps_if w h o s r b =
      sym
      (sweeps_6
      (hold_if p 24480 w h (omega arith))
      o (states_of p) refl s (room_for p) refl r b)
