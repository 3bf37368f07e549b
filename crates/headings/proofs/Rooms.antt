-- Rank and room of a pixel, as the code computes them: the rank from what its row adds to its column, the room from the rank.
use Prim.Native.Nat.{ℕ, zero, suc, ◌+◌, ◌-◌, ◌*◌, ◌/◌, ◌%◌, ◌^◌, ◌≤◌, ◌<◌}
use mathlib.Core.Path.{◌≡◌, refl}
use mathlib.Core.Bool.{Bool, true, false}
use native.Mathlib.Omega.{arith}
use Rattle.basics.proofs.Numbers.{below_four}
use Rattle.plate.specs.Paths.{span}
use Rattle.theory.proofs.Ranks.{ranked, bit_listed}
use Rattle.headings.specs.Headings.{shift}
use Rattle.theory.specs.Ranks.{rank_at, rank, steps_left}

pub span_small : (W H index : ℕ) → index < 4 → W ≤ 1024 → H ≤ 1024 → span W H (2 ^ index) ≤ 2048
unfolding span
span_small W H index l w h =
    below_four (λ (i : ℕ). span W H (2 ^ i) ≤ 2048) (omega arith) (omega arith) (omega arith) (omega arith) index l

module _ (W H p : ℕ) where
  pub rank_north : (index : ℕ) → index ≡ 0 → rank W H (2 ^ index) p ≡ shift index H (p / W)
  unfolding rank rank_at shift
  rank_north index e = rw e

  pub rank_else : (index : ℕ) → index < 4 → (index ≡ 0 → ⊥) → rank W H (2 ^ index) p ≡ p % W + shift index H (p / W)
  unfolding rank rank_at shift
  rank_else index h n =
      below_four (λ (i : ℕ). (i ≡ 0 → ⊥) → rank W H (2 ^ i) p ≡ p % W + shift i H (p / W))
      (λ z. absurd (z refl)) (λ z. omega arith) (λ z. refl) (λ z. refl) index h n

  pub rank_below : (index : ℕ) → index < 4 → p < W * H → rank W H (2 ^ index) p < span W H (2 ^ index)
  rank_below index h on = (ranked W H (2 ^ index) (bit_listed index h)).rank_bound p on

  pub room_back : (bit : ℕ) (b : Bool) → b ≡ true → steps_left W H bit b p ≡ rank W H bit p
  room_back bit b e = rw e

  pub room_on : (bit : ℕ) (b : Bool) → b ≡ false → steps_left W H bit b p ≡ span W H bit - 1 - rank W H bit p
  room_on bit b e = rw e

-- ---- what a row adds, as the code tells the directions apart

pub shift_east : (index h r : ℕ) → index ≡ 1 → 0 ≡ shift index h r
unfolding shift
shift_east index h r e = rw e

pub shift_south_east : (index h r : ℕ) → index ≡ 3 → r ≡ shift index h r
unfolding shift
shift_south_east index h r e = rw e

pub shift_north : (index h r : ℕ) → index < 4 → (index ≡ 1 → ⊥) → (index ≡ 3 → ⊥) → h - 1 - r ≡ shift index h r
unfolding shift
shift_north zero h r l n m = refl
shift_north (suc zero) h r l n m = absurd (n refl)
shift_north (suc (suc zero)) h r l n m = refl
shift_north (suc (suc (suc zero))) h r l n m = absurd (m refl)
shift_north (suc (suc (suc (suc index)))) h r l n m = absurd (omega arith)
