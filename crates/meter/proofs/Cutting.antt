-- Rounding a float N / D to a whole number: cut off, or to the nearest. A whole number of at most 24 digits is an f32 itself, so the result is exact, with
-- the float's sign; and one of at most 32,767 in size is the same in 16 bits.
use Rattle.std.proofs.Common.{◌≡◌, ℕ, ◌+◌, ◌-◌, ◌*◌, ◌/◌, ◌^◌, ◌<◌, ◌≤◌, min, zero, suc, Bool, true, false, T, Float, ℤ, pos, negsuc, neg_ℤ, refl, ap, ◌∙◌, subst, mul_left_comm, add-mul, arith, lit<, le→leb, lt→ltb, le-ltb, lt-ltb}
use native.Mathlib.Nat.{min-eq_left}
use lib.Signed.{mag}
use lib.Ieee.{nan, inf, fin, binary32, up, down, round, sum, add, of_int, of_bits, in_float, in_signed, to_signed}
use lib.Ieee.Back.{round_whole, positive_back, negative_back}
use lib.Ieee.Exact.{HasValue}
use lib.Ieee.Fits.{down_pos}
use lib.Ieee.Nearest.{div_same}
use Rattle.std.specs.Float.{round_with, ratio_floor, ratio_round_half_up, trunc, float_round}
use Rattle.meter.proofs.Values.{with_sign, add_at}

-- by any rule that gives k for every way to write N / D
module _ (rule : ℕ → ℕ → ℕ) (N D k : ℕ) (gives : (a b : ℕ) → 0 < b → a * D ≡ N * b → rule a b ≡ k) (small : k ≤ 2 ^ 24) where
  whole_value : (x : Float) (s : Bool) → HasValue x s N D → HasValue (round_with rule rule binary32 x) s k 1
  unfolding round_with
  whole_value nan s v = absurd v
  whole_value (inf u) s v = absurd v
  whole_value (fin false m e) s v =
      rw (gives (m * up e) (down e) (down_pos e) v.1) (subst (λ (t : Bool). HasValue (round binary32 false k 1) t k 1) v.0 (round_whole binary32 false k small))
  whole_value (fin true m e) s v =
      rw (gives (m * up e) (down e) (down_pos e) v.1) (subst (λ (t : Bool). HasValue (round binary32 true k 1) t k 1) v.0 (round_whole binary32 true k small))

pub cut_value : (N D : ℕ) → 0 < D → N / D ≤ 2 ^ 24 → (x : Float) (s : Bool) → HasValue x s N D → HasValue (trunc binary32 x) s (N / D) 1
cut_value N D D-pos small = whole_value ratio_floor N D (N / D) (λ a b h e. div_same a b N D h D-pos e) small

-- eighths to the nearest, a half up in size
nearest_of : (N a b : ℕ) → 0 < b → a * 8 ≡ N * b → (2 * a + b) / (2 * b) ≡ (N + 4) / 8
nearest_of N a b h e = div_same (2 * a + b) (2 * b) (N + 4) 8 (omega arith) (lit< tt) (omega (arith, e, add-mul N 4 (2 * b), mul_left_comm N 2 b))

pub nearest_value : (N : ℕ) → (N + 4) / 8 ≤ 2 ^ 24 → (x : Float) (s : Bool) → HasValue x s N 8 → HasValue (float_round binary32 x) s ((N + 4) / 8) 1
nearest_value N small = whole_value ratio_round_half_up N 8 ((N + 4) / 8) (nearest_of N) small

-- in 16 bits
same_signed : (k m : ℕ) (e : ℤ) (top : ℕ) → k ≤ top → m * up e * 1 ≡ k * down e → min (m * up e / down e) top ≡ k
same_signed k m e top h p =
    let whole : m * up e / down e ≡ k / 1 = div_same (m * up e) (down e) k 1 (down_pos e) (lit< tt) p in
    ap (λ (n : ℕ). min n top) (whole ∙ (let one : k / 1 ≡ k = omega arith in one)) ∙ min-eq_left h

pub in_16_bits : (x : Float) (s : Bool) (k : ℕ) → k ≤ 32767 → HasValue x s k 1 → to_signed 15 x ≡ with_sign s k
unfolding to_signed
in_16_bits nan s k h v = absurd v
in_16_bits (inf u) s k h v = absurd v
in_16_bits (fin false m e) s k h v =
    subst (λ (t : Bool). pos (min (m * up e / down e) (2 ^ 15 - 1)) ≡ with_sign t k) v.0 (ap pos (same_signed k m e (2 ^ 15 - 1) h v.1))
in_16_bits (fin true m e) s k h v =
    subst (λ (t : Bool). neg_ℤ (pos (min (m * up e / down e) (2 ^ 15))) ≡ with_sign t k) v.0 (ap (λ (n : ℕ). neg_ℤ (pos n)) (same_signed k m e (2 ^ 15) (omega arith) v.1))

-- plus 0.0 it is the float of the integer itself, which −0 is not
own : (s : Bool) (k : ℕ) → sum binary32 s k false 0 1 ≡ of_int binary32 (with_sign s k)
unfolding sum of_int
own false k = rw (let e : k + 0 ≡ k = omega arith in e)
own true zero = refl
own true (suc n) = rw (le-ltb (suc n) 0 (omega arith), lt-ltb 0 (suc n) (omega arith), let e : suc n - 0 ≡ suc n = omega arith in e) refl

pub own_value : (x : Float) (s : Bool) (k : ℕ) → HasValue x s k 1 → add binary32 x (of_bits binary32 0) ≡ of_int binary32 (with_sign s k)
unfolding of_bits
own_value x s k v = add_at binary32 x (fin false 0 (pos 0)) s false k 0 1 (lit< tt) v (refl, refl) ∙ own s k

-- which has no fraction and is in the range of 16 bits
small_float : (z : ℤ) → mag z ≤ 32767 → T (in_float binary32 z)
unfolding in_float
small_float (pos n) h = le→leb n 16777216 (omega (arith, h))
small_float (negsuc n) h = lt→ltb n 16777216 (omega (arith, h))

pub own_in_16_bits : (z : ℤ) → mag z ≤ 32767 → T (in_signed binary32 15 (of_int binary32 z)) × (to_signed 15 (of_int binary32 z) ≡ z)
own_in_16_bits (pos n) h = positive_back binary32 15 n (small_float (pos n) h) (omega (arith, h))
own_in_16_bits (negsuc n) h = negative_back binary32 15 n (small_float (negsuc n) h) (omega (arith, h))
