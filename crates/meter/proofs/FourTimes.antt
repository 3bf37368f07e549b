-- Four times an f32 of at most 8,192 is exact, whatever the f32 is: it has at most 24 digits, its least digit stands for 2 ^ -149 or more, and two
-- places up there is room.
use Rattle.std.proofs.Common.{◌≡◌, ℕ, zero, suc, ◌+◌, ◌-◌, ◌*◌, ◌%◌, ◌^◌, ◌<◌, ◌≤◌, Bool, true, false, ◌&&◌, T, eqb, ltb, leb, ℤ, pos, negsuc, sym, refl, ap, ◌∙◌, subst, le_trans, lt_of_lt_of_le, lt_of_le_of_lt, lt_irrefl, mul-le-mul_right, mul_assoc, lt_of_not-le, mul-one, arith, lit<, lit≤, le→leb, eqb→eq, ltb→lt, leb→le, pow_pos, pow_mono, pow-add, shl_lt}
use denote.Floats.{passes, is_true}
use lib.Pow.{pow-lt}
use lib.Ieee.{fin, binary32, up, down, fits, round, mul}
use lib.Ieee.Digits.{back}
use lib.Ieee.Exact.{HasValue, round_exact}
use lib.Ieee.Fits.{and_l, and_r}
use Rattle.meter.proofs.Values.{same_sign}

-- ---- what an f32 holds

small_digits : (s : Bool) (m : ℕ) (e : ℤ) → T (fits binary32 (fin s m e)) → m < 2 ^ 24
unfolding fits
small_digits s zero e t = lit< tt
small_digits s (suc m) e t =
    let a : Bool = eqb (suc m % 2) 1 in
    let b : Bool = ltb (suc m) (2 ^ 24) in
    let c : Bool = leb (down e) (2 ^ 149) in
    ltb→lt (suc m) (2 ^ 24) (and_r a b (and_l (a && b) c (and_l (a && b && c) (ltb (suc m * up e) (2 ^ 128 * down e)) t)))

small_down : (s : Bool) (m k : ℕ) → T (fits binary32 (fin s m (negsuc k))) → 2 ^ suc k ≤ 2 ^ 149
unfolding fits
small_down s zero k t =
    let e : 1 * 2 ^ suc k ≡ 1 = eqb→eq (1 * 2 ^ suc k) 1 t in
    let f : 1 ≤ 2 ^ 149 = lit≤ tt in
    le_trans (omega (arith, e)) f
small_down s (suc m) k t =
    let a : Bool = eqb (suc m % 2) 1 in
    let b : Bool = ltb (suc m) (2 ^ 24) in
    let c : Bool = leb (2 ^ suc k) (2 ^ 149) in
    leb→le (2 ^ suc k) (2 ^ 149) (and_r (a && b) c (and_l (a && b && c) (ltb (suc m * 1) (2 ^ 128 * 2 ^ suc k)) t))

small_exponent : (s : Bool) (m k : ℕ) → T (fits binary32 (fin s m (negsuc k))) → suc k ≤ 149
small_exponent s m k t = go (leb (suc k) 149) refl
  where
    go : (b : Bool) → leb (suc k) 149 ≡ b → suc k ≤ 149
    go true e = leb→le (suc k) 149 (passes (leb (suc k) 149) e)
    go false e = absurd (lt_irrefl (2 ^ 149) (lt_of_lt_of_le (pow-lt (lt_of_not-le (λ (h : suc k ≤ 149). let z : true ≡ false = sym (is_true (leb (suc k) 149) (le→leb (suc k) 149 h)) ∙ e in subst T z tt))) (small_down s m k t)))

-- ---- four times a number of the range

pub times_four : (s : Bool) (m : ℕ) (e : ℤ) → T (fits binary32 (fin s m e)) → m * up e ≤ 8192 * down e
    → HasValue (mul binary32 (fin s m e) (fin false 1 (pos 2))) s (m * up e * 4) (down e)
unfolding mul
times_four s m (pos k) t h =
    let split : m * 2 ^ (k + 151) ≡ m * 2 ^ k * 2 ^ 151 = ap (λ (x : ℕ). m * x) (pow-add 2 k 151) ∙ sym (mul_assoc m (2 ^ k) (2 ^ 151)) in
    let fine : m * 2 ^ k * 2 ^ 151 < 2 ^ 277 = lt_of_le_of_lt (mul-le-mul_right (2 ^ 151) h) (lit< tt) in
    subst (λ (u : Bool). HasValue (round binary32 u (m * 2 ^ k * 4) 1) s (m * 2 ^ k * 4) 1) (sym (same_sign s))
    (round_exact binary32 s (m * 2 ^ k * 4) 1 m (k + 151) (lit< tt) (small_digits s m (pos k) t) (rw split fine) (rw split (mul_assoc (m * 2 ^ k) 4 (2 ^ 149) ∙ sym (mul-one (m * 2 ^ k * 2 ^ 151)))))
times_four s m (negsuc k) t h =
    let low : suc k ≤ 151 = le_trans (small_exponent s m k t) (lit≤ tt) in
    let j : ℕ = 151 - suc k in
    let split : m * 2 ^ j * 2 ^ suc k ≡ m * 2 ^ 151 = mul_assoc m (2 ^ j) (2 ^ suc k) ∙ ap (λ (x : ℕ). m * x) (sym (pow-add 2 j (suc k)) ∙ ap (λ (x : ℕ). 2 ^ x) (back 151 (suc k) low)) in
    let fine : m * 2 ^ j < 2 ^ 277 = lt_of_lt_of_le (shl_lt 24 j (small_digits s m (negsuc k) t)) (pow_mono {i = 24 + j} {j = 277} (omega arith)) in
    subst (λ (u : Bool). HasValue (round binary32 u (m * 1 * 4) (2 ^ suc k * 1)) s (m * 1 * 4) (2 ^ suc k)) (sym (same_sign s))
    (subst (λ (d : ℕ). HasValue (round binary32 s (m * 1 * 4) d) s (m * 1 * 4) (2 ^ suc k)) (sym (mul-one (2 ^ suc k)))
    (round_exact binary32 s (m * 1 * 4) (2 ^ suc k) m j (pow_pos (suc k)) (small_digits s m (negsuc k) t) fine
    (rw split (ap (λ (x : ℕ). x * 4 * 2 ^ 149) (mul-one m) ∙ mul_assoc m 4 (2 ^ 149)))))
