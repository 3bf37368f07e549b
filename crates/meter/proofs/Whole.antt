-- Adding 3 * 2 ^ 22 to a float from zero to less than 2 ^ 22, and taking it away again, rounds the fraction away, since floats are 1 apart from 2 ^ 23 to
-- 2 ^ 24. So the float is the same again exactly if it is whole, that is if cutting it changes nothing.
use Rattle.std.proofs.Common.{◌≡◌, ℕ, ◌+◌, ◌-◌, ◌*◌, ◌/◌, ◌%◌, ◌^◌, ◌<◌, ◌≤◌, Bool, true, false, T, eqb, Float, ℤ, pos, sym, refl, ap, ◌∙◌, subst, le_trans, lt_of_lt_of_le, lt_of_le_of_lt, not-le_of_lt, lt_of_not-le, mul-le-mul_right, div-lt_iff_lt-mul, le-div_iff_mul-le, mul-div_cancel, mul-pos, mul-one, zero-mul, arith, lit<, ltb→lt, eqb→eq, pow_mono, le-ltb, lt-ltb}
use Prim.Native.Nat.{compare}
use native.Mathlib.Nat.{eq_of_mul-eq-mul_right}
use lib.Ieee.{nan, inf, fin, binary32, up, down, size, units, round, sum, neg, add, sub, eq, lt, le, level, of_bits}
use lib.Ieee.Back.{round_whole}
use lib.Ieee.Digits.{size-lt, size-le}
use lib.Ieee.Exact.{HasValue, units_val}
use lib.Ieee.Fits.{and_l, core, down_pos, nearest-le, round_is}
use lib.Ieee.Nearest.{closest, closest_same, nearest-ge}
use Rattle.std.specs.Float.{trunc}
use Rattle.basics.proofs.Numbers.{eqb_same}
use Rattle.meter.proofs.Values.{add_at, eq_at}
use Rattle.meter.proofs.Cutting.{cut_value}

-- ---- from 2 ^ 23 to 2 ^ 24 a fraction is rounded to a whole number

size-gt : (n j : ℕ) → 2 ^ j ≤ n → j < size n
size-gt n j h = lt_of_not-le (λ (g : size n ≤ j). not-le_of_lt (lt_of_lt_of_le (size-lt n) (pow_mono g)) h)

scaled_down : (x : Float) (n l : ℕ) → 0 < l → HasValue x false (n * l) l → HasValue x false n 1
scaled_down nan n l p v = absurd v
scaled_down (inf s) n l p v = absurd v
scaled_down (fin s m e) n l p v = (v.0, eq_of_mul-eq-mul_right l p (m * up e * 1) (n * down e) (omega (arith, v.1)))

at_most : (a D : ℕ) → 0 < D → a < 2 ^ 24 * D → closest a D ≤ 2 ^ 24
at_most a D D-pos hi =
    let w : a / D < 2 ^ 24 = (div-lt_iff_lt-mul D-pos).1 hi in
    omega (arith, nearest-le (a / D) (compare (a % D * 2) D))

at_least : (k a D : ℕ) → 0 < D → k * D ≤ a → k ≤ closest a D
at_least k a D D-pos lo = le_trans ((le-div_iff_mul-le D-pos).1 lo) (nearest-ge (a / D) (compare (a % D * 2) D))

spaced : (a D : ℕ) → 0 < D → 2 ^ 23 * D ≤ a → a < 2 ^ 24 * D → HasValue (round binary32 false a D) false (closest a D) 1
spaced a D D-pos lo hi =
    let n : ℕ = a * 2 ^ 149 in
    let c : ℕ = closest a D in
    let from : 2 ^ 172 * D ≤ n = omega (arith, lo) in
    let below : n < 2 ^ 173 * D = omega (arith, hi) in
    let dropped : size (n / D) - 24 ≡ 149 =
    omega (arith, size-gt (n / D) 172 ((le-div_iff_mul-le D-pos).1 from), size-le (n / D) 173 ((div-lt_iff_lt-mul D-pos).1 below)) in
    let kept : closest n (D * 2 ^ 149) ≡ c = closest_same n (D * 2 ^ 149) a D (mul-pos D-pos (lit< tt)) D-pos (omega arith) in
    let same : round binary32 false a D ≡ units binary32 false c 149 =
    round_is binary32 false a D ∙ ap (core binary32 false n D) dropped ∙ ap (λ (q : ℕ). units binary32 false q 149) kept in
    scaled_down (round binary32 false a D) c (2 ^ 149) (lit< tt)
    (subst (λ (x : Float). HasValue x false (c * 2 ^ 149) (2 ^ 149)) (sym same)
    (units_val binary32 false c 149 (lt_of_le_of_lt (mul-le-mul_right (2 ^ 149) (at_most a D D-pos hi)) (lit< tt))))

-- ---- the sum, and what is left of it

-- 12582912.0 as the code has it, which is 3 * 2 ^ 22
abbrev pub one_apart : Float
one_apart = of_bits binary32 1262485504

plus : (s : Bool) (N M D : ℕ) → (s ≡ true → N ≡ 0) → 0 < M → sum binary32 s N false M D ≡ round binary32 false (N + M) D
unfolding sum
plus false N M D none h = refl
plus true N M D none h = rw (lt-ltb N M (omega (arith, none refl))) (ap (λ (k : ℕ). round binary32 false k D) (omega (arith, none refl)))

-- what is left of a whole number
left : (w : Float) (K : ℕ) → 12582912 ≤ K → K ≤ 2 ^ 24 → HasValue w false K 1 → HasValue (sub binary32 w one_apart) false (K - 12582912) 1
unfolding of_bits sub neg sum
left w K lo hi v =
    rw (add_at binary32 w (fin true 3 (pos 22)) false true K 12582912 1 (lit< tt) v (refl, refl), le-ltb K 12582912 lo)
    (round_whole binary32 false (K - 12582912) (omega (arith, hi)))

-- whole numbers are kept
closest_whole : (k : ℕ) → closest k 1 ≡ k
closest_whole k = rw (let e : k % 1 * 2 ≡ 0 = omega arith in e) (omega arith)

-- the sign of a number that is 0 makes no difference
pub sign_aside : (s : Bool) (n k : ℕ) → (s ≡ true → n ≡ 0) → level s n s k ≡ level s n false k
sign_aside false n k h = refl
sign_aside true n k h = rw (h refl)

-- ---- y = N / D

module _ (s : Bool) (m : ℕ) (e : ℤ) (none : s ≡ true → m * up e ≡ 0) (small : m * up e < 2 ^ 22 * down e) where
  abbrev N : ℕ
  N = m * up e

  abbrev D : ℕ
  D = down e

  abbrev K : ℕ
  K = closest (N + 12582912 * D) D

  lo : 12582912 * D ≤ N + 12582912 * D
  lo = omega arith

  from : 2 ^ 23 * D ≤ N + 12582912 * D
  from = omega arith

  hi : N + 12582912 * D < 2 ^ 24 * D
  hi = omega (arith, small)

  rest : HasValue (sub binary32 (add binary32 (fin s m e) one_apart) one_apart) false (K - 12582912) 1
  unfolding of_bits
  rest =
      let summed : add binary32 (fin s m e) (fin false 3 (pos 22)) ≡ round binary32 false (N + 12582912 * D) D =
      add_at binary32 (fin s m e) (fin false 3 (pos 22)) s false N (12582912 * D) D (down_pos e) (refl, refl) (refl, omega arith)
      ∙ plus s N (12582912 * D) D none (omega (arith, down_pos e)) in
      rw summed (left (round binary32 false (N + 12582912 * D) D) K (at_least 12582912 _ D (down_pos e) lo) (at_most _ D (down_pos e) hi) (spaced (N + 12582912 * D) D (down_pos e) from hi))

  forth : N * 1 ≡ (K - 12582912) * D → N * 1 ≡ N / D * D
  forth h =
      let q : N ≡ (K - 12582912) * D = sym (mul-one N) ∙ h in
      let d : N / D ≡ K - 12582912 = ap (λ (n : ℕ). n / D) q ∙ mul-div_cancel (K - 12582912) (down_pos e) in
      h ∙ ap (λ (k : ℕ). k * D) (sym d)

  home : N * 1 ≡ N / D * D → N * 1 ≡ (K - 12582912) * D
  home h =
      let k : K ≡ N / D + 12582912 = closest_same (N + 12582912 * D) D (N / D + 12582912) 1 (down_pos e) (lit< tt) (omega (arith, h)) ∙ closest_whole (N / D + 12582912) in
      h ∙ ap (λ (n : ℕ). n * D) (let r : N / D ≡ K - 12582912 = omega (arith, k) in r)

  whole_fin : eq (fin s m e) (sub binary32 (add binary32 (fin s m e) one_apart) one_apart) ≡ eq (fin s m e) (trunc binary32 (fin s m e))
  whole_fin =
      let y : Float = fin s m e in
      let c : N / D < 2 ^ 22 = (div-lt_iff_lt-mul (down_pos e)).1 small in
      eq_at y (sub binary32 (add binary32 y one_apart) one_apart) s false N D (K - 12582912) 1 (down_pos e) (lit< tt) (refl, refl) rest
      ∙ rw (eqb_same (N * 1) ((K - 12582912) * D) (N * 1) (N / D * D) forth home)
      (sym (sign_aside s (N * 1) (N / D * D) (λ w. mul-one N ∙ none w))
      ∙ sym (eq_at y (trunc binary32 y) s s N D (N / D) 1 (down_pos e) (lit< tt) (refl, refl) (cut_value N D (down_pos e) (omega (arith, c)) y s (refl, refl))))

pub whole : (y : Float) → T (le (fin false 0 (pos 0)) y) → T (lt y (fin false 1 (pos 22))) →
    eq y (sub binary32 (add binary32 y one_apart) one_apart) ≡ eq y (trunc binary32 y)
unfolding le lt eq
whole nan l h = absurd l
whole (inf false) l h = absurd h
whole (inf true) l h = absurd l
whole (fin false m e) l h = whole_fin false m e (λ z. absurd (subst T (sym z) tt)) (let g : m * up e * 1 < 1 * 2 ^ 22 * down e = ltb→lt _ _ h in omega arith)
whole (fin true m e) l h =
    let z : 0 * down e ≡ m * up e * 1 = eqb→eq (0 * down e) (m * up e * 1) (and_l (eqb (0 * down e) (m * up e * 1)) (eqb (0 * down e) 0) l) in
    let y : m * up e ≡ 0 = omega (arith, zero-mul (down e)) in
    whole_fin true m e (λ w. y) (omega (arith, down_pos e))
