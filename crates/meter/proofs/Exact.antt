-- What the code does with whole eighths, in floats: a steady number, a mean and a difference are the eighths that the definition counts, and a half
-- more, cut, is the rounded level.
use Rattle.std.proofs.Common.{◌≡◌, ℕ, zero, suc, ◌+◌, ◌*◌, ◌≤◌, Bool, true, false, leb, ℤ, pos, negsuc, ◌-ℤ◌, nat_abs, refl, ⊎_elim, mul_assoc, arith, lit<, lit≤, leb→le, le-ltb, lt-ltb}
use lib.IntN.{pos-ne-negsuc}
use lib.Ieee.{Float, nan, inf, fin, up, down, binary32, add, sub, div, eq, of_bits}
use lib.Ieee.Exact.{HasValue}
use lib.Ieee.Fits.{and_l, and_r}
use Rattle.basics.proofs.Numbers.{le_or_lt}
use Rattle.basics.proofs.Tests.{T_true, true_T, or_false_left, or_false_right}
use Rattle.meter.specs.Numbers.{max_quarters, quarters, is_quarters, quarters_of, bad_number}
use Rattle.meter.specs.Corrections.{bad_figure, eighths_of, difference_of}
use Rattle.meter.specs.declared.figure.Figure.{Figure}
use Rattle.meter.specs.declared.figure.Figure.TheVariants.{Steady, Drifting}
use Rattle.meter.specs.declared.Meter.{Meter}
use Rattle.meter.specs.Eighths.{eighths, Exactly, IsEighths}
use Rattle.meter.proofs.Values.{Equals, with_sign, is_negative, value_of, equal_of, add_exact, sub_exact, half_exact}
use Rattle.meter.proofs.Quarters.{good_is_one}

-- ---- between the definition's counts and values

pub quarters_value : (x : Float) → bad_number x ≡ false → Equals x (pos (quarters_of x)) 4
unfolding is_quarters
quarters_value x g =
    value_of x false (quarters_of x) 1 (and_l (eq x (quarters (quarters_of x))) (leb (quarters_of x) max_quarters) (good_is_one x g))

pub quarters_small : (x : Float) → bad_number x ≡ false → quarters_of x ≤ max_quarters
unfolding is_quarters
quarters_small x g =
    leb→le (quarters_of x) max_quarters (and_r (eq x (quarters (quarters_of x))) (leb (quarters_of x) max_quarters) (good_is_one x g))

eighths_fin : (z : ℤ) → eighths z ≡ fin (is_negative z) (nat_abs z) (negsuc 2)
eighths_fin (pos n) = refl
eighths_fin (negsuc n) = refl

pub eighths_value : (x : Float) (z : ℤ) → Exactly x z → Equals x z 8
eighths_value x (pos n) h = value_of x false n 2 (true_T _ h)
eighths_value x (negsuc n) h = value_of x true (suc n) 2 (true_T _ h)

pub exactly : (x : Float) (z : ℤ) → Equals x z 8 → Exactly x z
exactly x z v = rw (eighths_fin z) (T_true _ (equal_of x z 2 v))

is_eighths : (x : Float) (z : ℤ) → nat_abs z ≤ 65536 → Equals x z 8 → IsEighths x z
is_eighths x z h v = record { equal = exactly x z v; small = h }

-- ---- means and differences

-- q quarters are 2 q eighths
twice : (x : Float) (s : Bool) (q : ℕ) → HasValue x s q 4 → HasValue x s (2 * q) 8
twice nan s q v = absurd v
twice (inf u) s q v = absurd v
twice (fin u m e) s q v = (v.0, (let h : m * up e * 4 ≡ q * down e = v.1 in let g : 2 * q * down e ≡ 2 * (q * down e) = mul_assoc 2 q (down e) in omega arith))

not_negative : (s : Bool) (q n : ℕ) → pos q ≡ with_sign s q → (q ≡ 0 → n ≡ 0) → pos n ≡ with_sign s n
not_negative false q n e z = refl
not_negative true zero n e z = rw (z refl)
not_negative true (suc q) n e z = absurd (pos-ne-negsuc (suc q) q e)

pub steady_exact : (x : Float) → bad_number x ≡ false → IsEighths x (pos (2 * quarters_of x))
steady_exact x g =
    let v : Equals x (pos (quarters_of x)) 4 = quarters_value x g in
    is_eighths x (pos (2 * quarters_of x)) (omega (arith, quarters_small x g))
    (record { sign = v.sign; value = twice x v.sign (quarters_of x) v.value; number = not_negative v.sign (quarters_of x) (2 * quarters_of x) v.number (λ z. rw z) })

pub mean_exact : (x y : Float) → bad_number x ≡ false → bad_number y ≡ false
    → IsEighths (div binary32 (add binary32 x y) (of_bits binary32 1073741824)) (pos (quarters_of x + quarters_of y))
mean_exact x y g h =
    let a : quarters_of x ≤ 32768 = quarters_small x g in
    let b : quarters_of y ≤ 32768 = quarters_small y h in
    is_eighths _ (pos (quarters_of x + quarters_of y)) (omega arith)
    (half_exact 2 (lit< tt) (add binary32 x y) (pos (quarters_of x + quarters_of y)) (omega arith)
    (add_exact 2 (lit≤ tt) x y (pos (quarters_of x)) (pos (quarters_of y)) (omega arith) (quarters_value x g) (quarters_value y h)))

sub_small : (d l : ℕ) → d ≤ 65536 → l ≤ 65536 → nat_abs (pos d -ℤ pos l) ≤ 65536
sub_small d zero h k = omega arith
sub_small d (suc l) h k = ⊎_elim (λ b. rw (le-ltb d (suc l) b) (omega arith)) (λ b. rw (lt-ltb d (suc l) b) (omega arith)) (le_or_lt (suc l) d)

pub difference_exact : (x y : Float) (l d : ℕ) → IsEighths x (pos l) → IsEighths y (pos d) → IsEighths (sub binary32 y x) (pos d -ℤ pos l)
difference_exact x y l d p q =
    is_eighths (sub binary32 y x) (pos d -ℤ pos l) (sub_small d l q.small p.small)
    (sub_exact 3 (lit≤ tt) y x (pos d) (pos l) (omega (arith, p.small, q.small)) (eighths_value y (pos d) q.equal) (eighths_value x (pos l) p.equal))

-- ---- how large a figure and a difference can be

figure_small : (f : Figure) → bad_figure f ≡ false → eighths_of f ≤ 65536
figure_small (Steady x) g = omega (arith, quarters_small x g)
figure_small (Drifting x y) g =
    omega (arith, quarters_small x (or_false_left (bad_number x) (bad_number y) g), quarters_small y (or_false_right (bad_number x) (bad_number y) g))

pub difference_small : (m : Meter) → bad_figure m.lamp ≡ false → bad_figure m.dark ≡ false → nat_abs (difference_of m) ≤ 65536
difference_small m l d = sub_small (eighths_of m.dark) (eighths_of m.lamp) (figure_small m.dark d) (figure_small m.lamp l)
