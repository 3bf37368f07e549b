-- Which floats are whole counts of quarters: the code's test passes exactly at those that the definition counts. In the range four times x is N / D, its
-- whole part cast back equals it where x equals the quarters, and out of the range nothing is counted.
use Rattle.std.proofs.Common.{◌≡◌, ℕ, ◌+◌, ◌*◌, ◌/◌, ◌^◌, ◌<◌, ◌≤◌, Bool, true, false, not, ◌&&◌, ◌||◌, T, eqb, ltb, leb, ℤ, pos, sym, refl, ap, ◌∙◌, subst, le_trans, le_of_eq, mul-le-mul_right, div-lt_iff_lt-mul, zero-mul, mul-one, mul-div_cancel, arith, lit<, lit≤, eqb→eq, lt→ltb, leb→le, ltb-false, ltb-true, eq-eqb, le-leb}
use mathlib.Core.Bool.{beq}
use denote.Floats.{passes}
use lib.Ieee.{Float, nan, inf, fin, binary32, up, down, fits, mul, eq, lt, le, of_bits, level}
use lib.Ieee.Exact.{HasValue}
use lib.Ieee.Fits.{and_l, and_r, and_i, down_pos}
use lib.Ieee.Order.{transfer}
use Rattle.basics.proofs.Numbers.{factor_zero}
use Rattle.basics.proofs.Tests.{or_left, not-false}
use Rattle.meter.specs.Numbers.{max_quarters, quarters, is_quarters, quarters_of, bad_number}
use Rattle.std.specs.Float.{trunc}
use Rattle.meter.proofs.Values.{eq_at}
use Rattle.meter.proofs.FourTimes.{times_four}
use Rattle.meter.proofs.Cutting.{cut_value}
use Rattle.meter.proofs.Whole.{sign_aside}

-- ---- the definition counts what equals a count, and nothing else

pub counted : (x : Float) (q : ℕ) → T (is_quarters x q) → quarters_of x ≡ q
unfolding is_quarters quarters_of eq
counted nan q t = absurd t
counted (inf s) q t = absurd t
counted (fin s m e) q t =
    let a : Bool = eqb (m * up e * 4) (q * 1 * down e) in
    let b : Bool = beq s false || eqb (m * up e * 4) 0 in
    let n : m * up e * 4 ≡ q * 1 * down e = eqb→eq (m * up e * 4) (q * 1 * down e) (and_l a b (and_l (a && b) (leb q max_quarters) t)) in
    ap (λ (k : ℕ). k / down e) (n ∙ ap (λ (k : ℕ). k * down e) (mul-one q)) ∙ mul-div_cancel q (down_pos e)

pub good_is_one : (x : Float) → bad_number x ≡ false → T (is_quarters x (quarters_of x))
unfolding bad_number
good_is_one x e = passes (is_quarters x (quarters_of x)) (not-false (is_quarters x (quarters_of x)) e)

pub bad_is_none : (x : Float) → bad_number x ≡ true → (q : ℕ) → is_quarters x q ≡ false
unfolding bad_number
bad_is_none x e q = go (is_quarters x q) refl
  where
    go : (b : Bool) → is_quarters x q ≡ b → b ≡ false
    go true f = sym e ∙ rw (counted x q (passes (is_quarters x q) f), f)
    go false f = refl

-- ---- the range

le_or : (a b : ℕ) → a ≤ b → T (ltb a b || (eqb a b && true))
le_or a b h = go (ltb a b) refl
  where
    go : (r : Bool) → ltb a b ≡ r → T (r || (eqb a b && true))
    go true e = tt
    go false e =
        let f : a ≡ b = omega (arith, ltb-false a b e) in
        and_i (eqb a b) true (passes (eqb a b) (eq-eqb a b f)) tt

or_le : (a b : ℕ) → T (ltb a b || (eqb a b && true)) → a ≤ b
or_le a b t = go (ltb a b) refl t
  where
    go : (r : Bool) → ltb a b ≡ r → T (r || (eqb a b && true)) → a ≤ b
    go true e t = omega (arith, ltb-true a b e)
    go false e t = le_of_eq (eqb→eq a b (and_l (eqb a b) true t))

-- a number of the range: not below zero, and at most 8,192
record Inside (s : Bool) (m : ℕ) (e : ℤ) : Type 0 where
  sign : s ≡ true → m * up e ≡ 0
  bound : m * up e ≤ 8192 * down e

inside : (s : Bool) (m : ℕ) (e : ℤ) → T (le (fin false 0 (pos 0)) (fin s m e)) → T (le (fin s m e) (fin false 1 (pos 13))) → Inside s m e
unfolding le lt eq
inside false m e l h = record { sign = λ z. absurd (subst T (sym z) tt); bound = let k : m * up e * 1 ≤ 1 * 8192 * down e = or_le (m * up e * 1) (1 * 8192 * down e) h in omega arith }
inside true m e l h =
    let z : 0 * down e ≡ m * up e * 1 = eqb→eq (0 * down e) (m * up e * 1) (and_l (eqb (0 * down e) (m * up e * 1)) (eqb (0 * down e) 0) l) in
    let y : m * up e ≡ 0 = omega (arith, zero-mul (down e)) in
    record { sign = λ w. y; bound = omega arith }

-- a count of quarters is in the range
in_range : (x : Float) (q : ℕ) → T (is_quarters x q) → T (le (fin false 0 (pos 0)) x) × T (le x (fin false 1 (pos 13)))
unfolding is_quarters le lt eq
in_range nan q t = absurd t
in_range (inf s) q t = absurd t
in_range (fin false m e) q t =
    let a : Bool = eqb (m * up e * 4) (q * 1 * down e) in
    let n : m * up e * 4 ≡ q * 1 * down e = eqb→eq (m * up e * 4) (q * 1 * down e) (and_l a true (and_l (a && true) (leb q max_quarters) t)) in
    let l : q * 1 * down e ≤ 32768 * down e = mul-le-mul_right (down e) (omega (arith, leb→le q 32768 (and_r (a && true) (leb q max_quarters) t))) in
    (le_or (0 * down e) (m * up e * 1) (omega (arith, zero-mul (down e))), le_or (m * up e * 1) (8192 * down e) (omega arith))
in_range (fin true m e) q t =
    let a : Bool = eqb (m * up e * 4) (q * 1 * down e) in
    let b : Bool = eqb (m * up e * 4) 0 in
    let n : m * up e * 4 ≡ 0 = eqb→eq (m * up e * 4) 0 (and_r a b (and_l (a && b) (leb q max_quarters) t)) in
    let z : 0 * down e ≡ m * up e * 1 = omega (arith, zero-mul (down e)) in (
      and_i (eqb (0 * down e) (m * up e * 1)) (eqb (0 * down e) 0) (passes (eqb (0 * down e) (m * up e * 1)) (eq-eqb (0 * down e) (m * up e * 1) z)) (passes (eqb (0 * down e) 0) (eq-eqb (0 * down e) 0 (zero-mul (down e)))),
      or_left (ltb 0 (m * up e * 1 + 8192 * down e)) (eqb (m * up e * 1) (8192 * down e) && eqb (m * up e * 1) 0) (lt→ltb 0 (m * up e * 1 + 8192 * down e) (omega (arith, down_pos e))),
    )

-- so what a test of the range refuses is none
none_there : (x : Float) → (T (is_quarters x (quarters_of x)) → ⊥) → bad_number x ≡ true
unfolding bad_number
none_there x f = refuted (is_quarters x (quarters_of x)) f
  where
    refuted : (b : Bool) → (T b → ⊥) → not b ≡ true
    refuted true f = absurd (f tt)
    refuted false f = refl

-- 0.0 and 8192.0 as the code has them
pub below_range : (x : Float) → le (of_bits binary32 0) x ≡ false → bad_number x ≡ true
unfolding of_bits
below_range x f = none_there x (λ t. subst T f (in_range x (quarters_of x) t).0)

pub above_range : (x : Float) → le x (of_bits binary32 1174405120) ≡ false → bad_number x ≡ true
unfolding of_bits
above_range x f = none_there x (λ t. subst T f (in_range x (quarters_of x) t).1)

-- ---- y = 4 x in the range, and y cut to a whole number

-- 4.0 as the code has it
abbrev pub four_times : Float → Float
four_times x = mul binary32 x (of_bits binary32 1082130432)

kept : (a b : Bool) → b ≡ true → a ≡ not (not (a && b))
kept true b e = rw e
kept false b e = refl

told_fin : (s : Bool) (m : ℕ) (e : ℤ) → T (fits binary32 (fin s m e)) → Inside s m e →
    eq (four_times (fin s m e)) (trunc binary32 (four_times (fin s m e))) ≡ not (bad_number (fin s m e))
unfolding of_bits bad_number is_quarters quarters_of
told_fin s m e t r =
    let N : ℕ = m * up e * 4 in
    let D : ℕ = down e in
    let y : Float = mul binary32 (fin s m e) (fin false 1 (pos 2)) in
    let v : HasValue y s N D = times_four s m e t r.bound in
    let b : N ≤ 32768 * D = let h : m * up e ≤ 8192 * D = r.bound in omega arith in
    let c : N / D ≤ max_quarters = let h : N / D < 32769 = (div-lt_iff_lt-mul (down_pos e)).1 (omega (arith, down_pos e)) in omega arith in
    let none : s ≡ true → N ≡ 0 = λ w. ap (λ (a : ℕ). a * 4) (r.sign w) in
    eq_at y (trunc binary32 y) s s N D (N / D) 1 (down_pos e) (lit< tt) v (cut_value N D (down_pos e) (le_trans c (lit≤ tt)) y s v)
    ∙ ap (λ (a : ℕ). level s a s (N / D * D)) (mul-one N)
    ∙ sign_aside s N (N / D * D) none
    ∙ sym (eq_at (fin s m e) (quarters (N / D)) s false (m * up e) D (N / D) 4 (down_pos e) (lit< tt) (refl, refl) (refl, ap (λ (a : ℕ). a * 4) (mul-one (N / D))))
    ∙ kept (eq (fin s m e) (quarters (N / D))) (leb (N / D) max_quarters) (le-leb (N / D) max_quarters c)

-- in the range y is whole exactly where x is a count of quarters
pub told : (x : Float) → fits binary32 x ≡ true → le (of_bits binary32 0) x ≡ true → le x (of_bits binary32 1174405120) ≡ true →
    eq (four_times x) (trunc binary32 (four_times x)) ≡ not (bad_number x)
unfolding of_bits le lt eq
told nan f l h = absurd (passes false l)
told (inf false) f l h = absurd (passes false h)
told (inf true) f l h = absurd (passes false l)
told (fin s m e) f l h = told_fin s m e (passes (fits binary32 (fin s m e)) f) (inside s m e (passes (le (fin false 0 (pos 0)) (fin s m e)) l) (passes (le (fin s m e) (fin false 1 (pos 13))) h))

-- and y is small enough for the code's test of a whole number (Whole.antt): not below zero, and less than 2 ^ 22
room_at : (y : Float) (s : Bool) (N D : ℕ) → 0 < D → HasValue y s N D → (s ≡ true → N ≡ 0) → N ≤ 32768 * D
    → T (le (fin false 0 (pos 0)) y) × T (lt y (fin false 1 (pos 22)))
unfolding le lt eq
room_at nan s N D D-pos v none b = absurd v
room_at (inf u) s N D D-pos v none b = absurd v
room_at (fin false m e) s N D D-pos v none b =
    let h : m * up e * 1 ≤ 32768 * down e = transfer (m * up e) 32768 (down e) 1 N 32768 D 1 D-pos (lit< tt) v.1 refl (omega (arith, b)) in
    (le_or (0 * down e) (m * up e * 1) (omega (arith, zero-mul (down e))), lt→ltb (m * up e * 1) (1 * 2 ^ 22 * down e) (omega (arith, down_pos e)))
room_at (fin true m e) s N D D-pos v none b =
    let y : m * up e ≡ 0 = factor_zero (m * up e) D D-pos (v.1 ∙ ap (λ (n : ℕ). n * down e) (none (sym v.0)) ∙ zero-mul (down e)) in
    let z : 0 * down e ≡ m * up e * 1 = omega (arith, zero-mul (down e)) in (
      and_i (eqb (0 * down e) (m * up e * 1)) (eqb (0 * down e) 0) (passes (eqb (0 * down e) (m * up e * 1)) (eq-eqb (0 * down e) (m * up e * 1) z)) (passes (eqb (0 * down e) 0) (eq-eqb (0 * down e) 0 (zero-mul (down e)))),
      lt→ltb 0 (m * up e * 1 + 1 * 2 ^ 22 * down e) (omega (arith, down_pos e)),
    )

pub room : (x : Float) → fits binary32 x ≡ true → le (of_bits binary32 0) x ≡ true → le x (of_bits binary32 1174405120) ≡ true
    → T (le (fin false 0 (pos 0)) (four_times x)) × T (lt (four_times x) (fin false 1 (pos 22)))
unfolding of_bits le lt eq
room nan f l h = absurd (passes false l)
room (inf false) f l h = absurd (passes false h)
room (inf true) f l h = absurd (passes false l)
room (fin s m e) f l h =
    let r : Inside s m e = inside s m e (passes (le (fin false 0 (pos 0)) (fin s m e)) l) (passes (le (fin s m e) (fin false 1 (pos 13))) h) in
    room_at (mul binary32 (fin s m e) (fin false 1 (pos 2))) s (m * up e * 4) (down e) (down_pos e)
    (times_four s m e (passes (fits binary32 (fin s m e)) f) r.bound)
    (λ w. ap (λ (a : ℕ). a * 4) (r.sign w))
    (let g : m * up e ≤ 8192 * down e = r.bound in omega arith)
