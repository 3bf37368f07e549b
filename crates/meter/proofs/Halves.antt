-- Rounding halves away from zero: z eighths rounded to the nearest whole number, a half up in size, are the level that the definition has.
use Rattle.std.proofs.Common.{◌≡◌, ℕ, zero, suc, ◌+◌, ◌/◌, ◌≤◌, Bool, true, false, Float, ℤ, pos, negsuc, neg_ℤ, nat_abs, sym, refl, ap, ◌∙◌, arith}
use lib.IntN.{pos-ne-negsuc}
use lib.Signed.{mag}
use lib.Ieee.{binary32, add, of_int, of_bits, to_signed}
use Rattle.std.specs.Float.{float_round}
use Rattle.meter.specs.Corrections.{rounded}
use Rattle.meter.specs.Eighths.{IsEighths}
use Rattle.meter.proofs.Values.{Equals, with_sign}
use Rattle.meter.proofs.Cutting.{nearest_value, in_16_bits, own_value}
use Rattle.meter.proofs.Exact.{eighths_value}

level_of : (s : Bool) (z : ℤ) → z ≡ with_sign s (nat_abs z) → with_sign s ((nat_abs z + 4) / 8) ≡ rounded z
level_of false (pos n) e = refl
level_of false (negsuc n) e = absurd (pos-ne-negsuc (suc n) n (sym e))
level_of true (pos zero) e = refl
level_of true (pos (suc n)) e = absurd (pos-ne-negsuc (suc n) n e)
level_of true (negsuc n) e = refl

pub rounds : (d : Float) (z : ℤ) → IsEighths d z → to_signed 15 (float_round binary32 d) ≡ rounded z
rounds d z h =
    let v : Equals d z 8 = eighths_value d z h.equal in
    let room : (nat_abs z + 4) / 8 ≤ 32767 = omega (arith, h.small) in
    in_16_bits (float_round binary32 d) v.sign ((nat_abs z + 4) / 8) room (nearest_value (nat_abs z) (omega arith) d v.sign v.value)
    ∙ level_of v.sign z v.number

-- and plus 0.0 they are the level's own float
pub rounds_own : (d : Float) (z : ℤ) → IsEighths d z → add binary32 (float_round binary32 d) (of_bits binary32 0) ≡ of_int binary32 (rounded z)
rounds_own d z h =
    let v : Equals d z 8 = eighths_value d z h.equal in
    own_value (float_round binary32 d) v.sign ((nat_abs z + 4) / 8) (nearest_value (nat_abs z) (omega (arith, h.small)) d v.sign v.value)
    ∙ ap (of_int binary32) (level_of v.sign z v.number)

-- a level is at most 8,192 in size
pub rounded_small : (z : ℤ) → nat_abs z ≤ 65536 → mag (rounded z) ≤ 8192
rounded_small (pos n) h = omega arith
rounded_small (negsuc n) h = neg_small ((suc n + 4) / 8) (omega arith)
  where
    neg_small : (n : ℕ) → n ≤ 8192 → mag (neg_ℤ (pos n)) ≤ 8192
    neg_small zero h = omega arith
    neg_small (suc n) h = omega arith
