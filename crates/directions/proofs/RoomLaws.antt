-- The plans of the filter find room. None has more rows than the frame has lines, so that a state takes at most as much as the plates of all planes; and
-- the rows of linked states are short, since they are no longer than there are lines, and both together make at most 65,536 pixels.
use Prim.Native.Nat.{ℕ, ◌+◌, ◌-◌, ◌*◌, ◌≤◌}
use mathlib.Core.Path.{◌≡◌, refl, sym}
use mathlib.Core.Bool.{Bool, true, cond, ◌&&◌, true≢false}
use mathlib.Core.Logic.{inl, inr}
use native.Mathlib.Nat.{mul-le-mul, mul-le-mul_right, mul_left_comm}
use native.Mathlib.Omega.{arith}
use Rattle.basics.proofs.Numbers.{le_or_lt}
use Rattle.basics.proofs.Tests.{true_or_false}
use Rattle.frames.specs.Frames.{Framed}
use Rattle.frames.specs.declared.frame.Frame.{Frame}
use Rattle.plans.specs.Plans.{half_of, state_size, keys_size}
use Rattle.plans.specs.Forms.{well_formed}
use Rattle.plans.specs.declared.plan.Plan.{Plan}
use Rattle.plans.proofs.FormFacts.{formed}
use Rattle.sweeps.specs.Doors.{room_for}
use Rattle.sweeps.proofs.DoorTests.{room_linked, room_alone}
use Rattle.directions.specs.Plans.{filter_plan, by_ranks, FrameOf}
use Rattle.directions.proofs.ChoiceLaws.{filter_choice}
use Rattle.directions.proofs.FilterLaws.{ranks_fit, still_few, straight_few, filter_formed}

-- the keys and a state find room, where states are linked two of them, and the rows held of two numbers too
pub record Roomy (p : Plan) (room : ℕ) : Type 0 where
  pub alone : keys_size p + state_size p ≤ room
  pub pair : p.linked ≡ true → keys_size p + 2 * state_size p ≤ room
  pub halves : half_of p + half_of p ≤ 18720
  pub keys : keys_size p ≤ 65536
  pub some : 1 ≤ state_size p

-- ---- numbers

product_some : (a b : ℕ) → 1 ≤ a → 1 ≤ b → 1 ≤ a * b
product_some a b h k = mul-le-mul {n₁ = 1} {m₁ = 1} {n₂ = a} {m₂ = b} h k

state_below : (rows lines across planes : ℕ) → rows ≤ lines → rows * (planes * across) ≤ planes * (lines * across)
state_below rows lines across planes h = omega (arith, mul-le-mul_right (planes * across) h, mul_left_comm lines planes across)

keys_below : (planes n : ℕ) → 1 ≤ planes → n ≤ planes * n
keys_below planes n h = omega (arith, mul-le-mul_right n h)

short_below : (lines across : ℕ) → across ≤ lines → lines * across ≤ 65536 → across ≤ 256
short_below lines across h few =
    elim (le_or_lt across 256) [
      | inl k ↦ k
      | inr k ↦ absurd (omega (arith, mul-le-mul_right across h, mul-le-mul {n₁ = 257} {m₁ = 257} {n₂ = across} {m₂ = across} k k))
    ]

block_below : (planes across n : ℕ) → planes ≤ 9 → across ≤ n → planes * (across + 16) ≤ 9 * (n + 16)
block_below planes across n h k = mul-le-mul {n₁ = planes} {m₁ = across + 16} {n₂ = 9} {m₂ = n + 16} h (omega arith)

-- ---- plans

half_below : (p : Plan) → p.planes ≤ 9 → p.across ≤ 1024 → (p.linked ≡ true → p.across ≤ 256) → half_of p + half_of p ≤ 18720
unfolding half_of
half_below p few wide short =
    elim (true_or_false p.linked) [
      | inl e ↦ rw e (omega (arith, block_below p.planes p.across 256 few (short e)))
      | inr e ↦ rw e (omega (arith, block_below p.planes p.across 1024 few wide))
    ]

pub roomy : (p : Plan) (room : ℕ) → well_formed p ≡ true → p.rows ≤ p.lines → (p.linked ≡ true → p.across ≤ p.lines) →
    4 * p.planes * (p.lines * p.across) ≤ room → Roomy p room
roomy p room form fit slim h =
    let l = (formed p form).limits in
    let state : state_size p ≤ p.planes * (p.lines * p.across) = state_below p.rows p.lines p.across p.planes fit in
    let kept : keys_size p ≤ p.planes * (p.lines * p.across) = keys_below p.planes (p.lines * p.across) l.some_planes in
    record {
      alone = omega arith;
      pair = λ _. omega arith;
      halves = half_below p l.few_planes l.few_across (λ e. short_below p.lines p.across (slim e) l.few_pixels);
      keys = l.few_pixels;
      some = product_some p.rows (p.planes * p.across) l.some_rows (product_some p.planes p.across l.some_planes l.some_across);
    }

-- so much as a sweep asks for
pub room_asked : (p : Plan) (room : ℕ) → Roomy p room → room_for p ≤ room
room_asked p room h =
    elim (true_or_false p.linked) [
      | inl e ↦ omega (arith, room_linked p e, h.pair e)
      | inr e ↦ omega (arith, room_alone p e, h.alone)
    ]

-- ---- what the plan says of itself

module _ (r : Frame) (along_rows back : Bool) (L planes slack : ℕ) where
  abbrev plan : Plan
  plan = filter_plan r along_rows back L planes slack

  pub filter_planes : plan.planes ≡ planes
  filter_planes = filter_choice r L along_rows planes slack (λ (p : Bool → Plan) (n : ℕ). (p back).planes ≡ planes) (λ d k. refl) (λ d k. refl) (λ d. refl)

  pub filter_lines : plan.lines ≡ r.lines
  filter_lines = filter_choice r L along_rows planes slack (λ (p : Bool → Plan) (n : ℕ). (p back).lines ≡ r.lines) (λ d k. refl) (λ d k. refl) (λ d. refl)

  pub filter_across : plan.across ≡ r.across
  filter_across = filter_choice r L along_rows planes slack (λ (p : Bool → Plan) (n : ℕ). (p back).across ≡ r.across) (λ d k. refl) (λ d k. refl) (λ d. refl)

  pub filter_ranked : plan.ranked ≡ (r.diagonal && by_ranks r L)
  filter_ranked =
      filter_choice r L along_rows planes slack (λ (p : Bool → Plan) (n : ℕ). (p back).ranked ≡ (r.diagonal && by_ranks r L))
      (λ d k. rw (k, d))
      (λ d k. rw (k, d))
      (λ d. rw d)

-- ---- the plans of the filter

module _ (r : Frame) {W H index : ℕ} (L : ℕ) (framed : Framed r W H index) (of : FrameOf r W H index) (some : 1 ≤ L) (few : L ≤ 1024)
    (fit : L ≤ r.lines + cond r.diagonal (r.across - 1) 0) (along_rows back : Bool) (planes slack : ℕ) where
  filter_fits : ((filter_plan r along_rows back L planes slack).rows ≤ r.lines) × ((filter_plan r along_rows back L planes slack).linked ≡ true → r.across ≤ r.lines)
  filter_fits =
      filter_choice r L along_rows planes slack (λ (p : Bool → Plan) (n : ℕ). ((p back).rows ≤ r.lines) × ((p back).linked ≡ true → r.across ≤ r.lines))
      (λ d k. (ranks_fit r L k, λ _. of.slim d))
      (λ d k. (still_few r L framed of some few fit d k, λ _. of.slim d))
      (λ d. (straight_few r L framed of some few fit d, λ f. absurd (true≢false (sym f))))

  pub filter_room : (room : ℕ) → 1 ≤ planes → planes ≤ 9 → 4 * planes * (r.lines * r.across) ≤ room → Roomy (filter_plan r along_rows back L planes slack) room
  filter_room room some_planes few_planes h =
      let lines = filter_lines r along_rows back L planes slack in
      let across = filter_across r along_rows back L planes slack in
      roomy (filter_plan r along_rows back L planes slack) room (filter_formed r L framed of some few fit along_rows planes slack back some_planes few_planes)
      (rw lines filter_fits.0) (rw (lines, across) filter_fits.1) (rw (lines, across, filter_planes r along_rows back L planes slack) h)
