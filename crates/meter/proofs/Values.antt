-- Exact arithmetic of floats. `Equals x z c` says that the float x is the number z / c. The sum of two such floats with the same c, the difference
-- and the half are z / c again, as long as they have no more than 24 digits: what is rounded is then the number itself.
use Rattle.std.proofs.Common.{◌≡◌, ℕ, zero, suc, ◌+◌, ◌-◌, ◌*◌, ◌^◌, ◌<◌, ◌≤◌, Bool, true, false, cond, not, ◌&&◌, ◌||◌, T, eqb, ltb, ◌⊎◌, ℤ, pos, negsuc, ◌+ℤ◌, ◌-ℤ◌, neg_ℤ, nat_abs, sym, refl, ap, ◌∙◌, subst, inl, inr, ⊎_elim, le_of_eq, lt_of_lt_of_le, mul_assoc, mul_comm, add-mul, le_antisymm, lt_of_mul-lt-mul_right, mul-lt-mul_of_pos_right, mul-pos, zero-mul, mul-one, mul_right_comm, mul_left_comm, sub-eq-zero_of_le, arith, eqb→eq, pow_pos, pow_mono, pow-add, shl_lt, le-ltb, lt-ltb}
use mathlib.Core.Bool.{beq}
use native.Mathlib.Nat.{mul-sub}
use lib.IntN.{+ℤ_comm, neg_ℤ-+ℤ, neg_ℤ-neg_ℤ, pos-ne-negsuc}
use lib.Ieee.{Float, nan, inf, fin, Format, binary32, up, down, round, neg, sum, add, sub, div, eq, unlike, level, of_bits}
use lib.Ieee.Digits.{back}
use lib.Ieee.Exact.{HasValue, round_exact}
use lib.Ieee.Fits.{down_pos, eq→eqb}
use lib.Ieee.Order.{transfer}
use lib.Ieee.Scale.{round_same}
use Rattle.basics.proofs.Numbers.{le_or_lt, ltb_same, eqb_same, factor_zero}
use Rattle.basics.proofs.Tests.{not-not, beq_same, and_both, both_and, or_left, or_right}

-- a size with a sign, as a number
abbrev pub with_sign : Bool → ℕ → ℤ
with_sign false n = pos n
with_sign true n = neg_ℤ (pos n)

-- is a number below zero?
abbrev pub is_negative : ℤ → Bool
is_negative (pos n) = false
is_negative (negsuc n) = true

pub record Equals (x : Float) (z : ℤ) (c : ℕ) : Type 0 where
  pub sign : Bool
  pub value : HasValue x sign (nat_abs z) c
  pub number : z ≡ with_sign sign (nat_abs z)

abs_sign : (s : Bool) (n : ℕ) → nat_abs (with_sign s n) ≡ n
abs_sign false n = refl
abs_sign true zero = refl
abs_sign true (suc n) = refl

pub equals : (x : Float) (s : Bool) (n c : ℕ) → HasValue x s n c → Equals x (with_sign s n) c
equals x s n c v = record { sign = s; value = rw (abs_sign s n) v; number = ap (with_sign s) (sym (abs_sign s n)) }

-- ---- a number of at most 24 digits over a power of two is not rounded

pub not_rounded : (s : Bool) (n k : ℕ) → n < 2 ^ 24 → k ≤ 149 → HasValue (round binary32 s n (2 ^ k)) s n (2 ^ k)
not_rounded s n k h low =
    let j : ℕ = 149 - k in
    let split : n * 2 ^ j * 2 ^ k ≡ n * 2 ^ 149 = mul_assoc n (2 ^ j) (2 ^ k) ∙ ap (λ (x : ℕ). n * x) (sym (pow-add 2 j k) ∙ ap (λ (x : ℕ). 2 ^ x) (back 149 k low)) in
    round_exact binary32 s n (2 ^ k) n j (pow_pos k) h (lt_of_lt_of_le (shl_lt 24 j h) (pow_mono {i = 24 + j} {j = 277} (omega arith))) (sym split)

-- ---- a sum does not depend on how its fractions are written

-- A / C is a / c, and B / C is b / c
module _ (f : Format) (A a B b C c : ℕ) (C-pos : 0 < C) (c_pos : 0 < c) (p : A * c ≡ a * C) (q : B * c ≡ b * C) where
  less : (A a B b : ℕ) → A * c ≡ a * C → B * c ≡ b * C → A < B → a < b
  less A a B b p q h = lt_of_mul-lt-mul_right C (rw (p, q) at (mul-lt-mul_of_pos_right h c_pos))

  more : (A a B b : ℕ) → A * c ≡ a * C → B * c ≡ b * C → a < b → A < B
  more A a B b p q h = lt_of_mul-lt-mul_right c (rw (← p, ← q) at (mul-lt-mul_of_pos_right h C-pos))

  left : (A a B b : ℕ) → A * c ≡ a * C → B * c ≡ b * C → (A - B) * c ≡ (a - b) * C
  left A a B b p q = mul_comm (A - B) c ∙ mul-sub c A B ∙ rw (mul_comm c A, mul_comm c B, p, q, mul_comm a C, mul_comm b C) (sym (mul-sub C a b) ∙ mul_comm C (a - b))

  sum_same : (s t : Bool) → sum f s A t B C ≡ sum f s a t b c
  unfolding sum
  sum_same s t =
      rw (
        ltb_same A B a b (less A a B b p q) (more A a B b p q),
        ltb_same B A b a (less B b A a q p) (more B b A a q p),
        round_same f s (A + B) C (a + b) c C-pos c_pos (add-mul A B c ∙ rw (p, q) (sym (add-mul a b C))),
        round_same f t (B - A) C (b - a) c C-pos c_pos (left B b A a q p),
        round_same f (s && ltb b a) (A - B) C (a - b) c C-pos c_pos (left A a B b p q),
      )

pub add_at : (f : Format) (x y : Float) (s t : Bool) (a b c : ℕ) → 0 < c → HasValue x s a c → HasValue y t b c → add f x y ≡ sum f s a t b c
unfolding add
add_at f nan y s t a b c h p q = absurd p
add_at f (inf u) y s t a b c h p q = absurd p
add_at f (fin u m e) nan s t a b c h p q = absurd q
add_at f (fin u m e) (inf v) s t a b c h p q = absurd q
add_at f (fin u m e) (fin v n d) s t a b c h p q =
    let A : ℕ = m * up e * down d in
    let B : ℕ = n * up d * down e in
    let C : ℕ = down e * down d in
    let l : A * c ≡ a * C = mul_right_comm (m * up e) (down d) c ∙ ap (λ (z : ℕ). z * down d) p.1 ∙ mul_assoc a (down e) (down d) in
    let r : B * c ≡ b * C = mul_right_comm (n * up d) (down e) c ∙ ap (λ (z : ℕ). z * down e) q.1 ∙ mul_assoc b (down d) (down e) ∙ ap (λ (z : ℕ). b * z) (mul_comm (down d) (down e)) in
    rw (p.0, q.0) (sum_same f A a B b C c (mul-pos (down_pos e) (down_pos d)) h l r s t)

-- ---- sums, differences and halves

-- sizes of unlike signs are taken from each other
pos_apart : (a b : ℕ) → b ≤ a → pos (a - b) ≡ pos a +ℤ neg_ℤ (pos b)
pos_apart a zero h = ap pos (omega arith)
pos_apart a (suc b) h = rw (le-ltb a (suc b) h)

sign_apart : (s : Bool) (a b : ℕ) → b ≤ a → with_sign s (a - b) ≡ with_sign s a +ℤ with_sign (not s) b
sign_apart false a b h = pos_apart a b h
sign_apart true a b h = ap neg_ℤ (pos_apart a b h) ∙ neg_ℤ-+ℤ (pos a) (neg_ℤ (pos b)) ∙ ap (λ (z : ℤ). neg_ℤ (pos a) +ℤ z) (neg_ℤ-neg_ℤ (pos b))

-- and zero has no sign
sign_kept : (s : Bool) (a b : ℕ) → b ≤ a → with_sign (s && ltb b a) (a - b) ≡ with_sign s (a - b)
sign_kept false a b h = refl
sign_kept true a b h = ⊎_elim (λ l. rw (le-ltb b a l, sub-eq-zero_of_le l)) (λ l. rw (lt-ltb b a l)) (le_or_lt a b)

module _ (k : ℕ) (low : k ≤ 149) where
  rounded_at : (s : Bool) (n : ℕ) (z : ℤ) → n < 2 ^ 24 → with_sign s n ≡ z → Equals (round binary32 s n (2 ^ k)) z (2 ^ k)
  rounded_at s n z h e = subst (λ (r : ℤ). Equals (round binary32 s n (2 ^ k)) r (2 ^ k)) e (equals (round binary32 s n (2 ^ k)) s n (2 ^ k) (not_rounded s n k h low))

  -- a sum of unlike signs, as `sum` has it
  apart_exact : (s : Bool) (a b : ℕ) → a + b < 2 ^ 24
      → Equals (cond (ltb a b) (round binary32 (not s) (b - a) (2 ^ k)) (round binary32 (s && ltb b a) (a - b) (2 ^ k))) (with_sign s a +ℤ with_sign (not s) b) (2 ^ k)
  apart_exact s a b h =
      let z : ℤ = with_sign s a +ℤ with_sign (not s) b in ⊎_elim
      (λ l. rw (le-ltb a b l) (rounded_at (s && ltb b a) (a - b) z (omega arith) (sign_kept s a b l ∙ sign_apart s a b l)))
      (λ l. rw (lt-ltb a b l) (rounded_at (not s) (b - a) z (omega arith) (sign_apart (not s) b a (omega arith) ∙ rw (not-not s) (+ℤ_comm (with_sign (not s) b) (with_sign s a)))))
      (le_or_lt b a)

  sum_exact : (s t : Bool) (a b : ℕ) → a + b < 2 ^ 24 → Equals (sum binary32 s a t b (2 ^ k)) (with_sign s a +ℤ with_sign t b) (2 ^ k)
  unfolding sum
  sum_exact false false a b h = rounded_at false (a + b) (pos a +ℤ pos b) h refl
  sum_exact true true a b h = rounded_at true (a + b) (neg_ℤ (pos a) +ℤ neg_ℤ (pos b)) h (neg_ℤ-+ℤ (pos a) (pos b))
  sum_exact false true a b h = apart_exact false a b h
  sum_exact true false a b h = apart_exact true a b h

  pub add_exact : (x y : Float) (p q : ℤ) → nat_abs p + nat_abs q < 2 ^ 24 → Equals x p (2 ^ k) → Equals y q (2 ^ k) → Equals (add binary32 x y) (p +ℤ q) (2 ^ k)
  add_exact x y p q h u v =
      rw (add_at binary32 x y u.sign v.sign (nat_abs p) (nat_abs q) (2 ^ k) (pow_pos k) u.value v.value)
      (subst (λ (r : ℤ). Equals (sum binary32 u.sign (nat_abs p) v.sign (nat_abs q) (2 ^ k)) r (2 ^ k)) (rw (← u.number, ← v.number)) (sum_exact u.sign v.sign (nat_abs p) (nat_abs q) h))

neg_sign : (s : Bool) (n : ℕ) → with_sign (not s) n ≡ neg_ℤ (with_sign s n)
neg_sign false n = refl
neg_sign true zero = refl
neg_sign true (suc n) = refl

abs_neg : (z : ℤ) → nat_abs (neg_ℤ z) ≡ nat_abs z
abs_neg (pos zero) = refl
abs_neg (pos (suc n)) = refl
abs_neg (negsuc n) = refl

neg_value : (x : Float) (s : Bool) (n c : ℕ) → HasValue x s n c → HasValue (neg x) (not s) n c
unfolding neg
neg_value nan s n c v = absurd v
neg_value (inf u) s n c v = absurd v
neg_value (fin u m e) s n c v = (ap not v.0, v.1)

pub neg_exact : (x : Float) (z : ℤ) (c : ℕ) → Equals x z c → Equals (neg x) (neg_ℤ z) c
neg_exact x z c v =
    subst (λ (r : ℤ). Equals (neg x) r c) (neg_sign v.sign (nat_abs z) ∙ ap neg_ℤ (sym v.number)) (equals (neg x) (not v.sign) (nat_abs z) c (neg_value x v.sign (nat_abs z) c v.value))

pub sub_exact : (k : ℕ) → k ≤ 149 → (x y : Float) (p q : ℤ) → nat_abs p + nat_abs q < 2 ^ 24 → Equals x p (2 ^ k) → Equals y q (2 ^ k) → Equals (sub binary32 x y) (p -ℤ q) (2 ^ k)
unfolding sub
sub_exact k low x y p q h u v = add_exact k low x (neg y) p (neg_ℤ q) (rw (abs_neg q) h) u (neg_exact y q (2 ^ k) v)

pub same_sign : (s : Bool) → unlike s false ≡ s
same_sign true = refl
same_sign false = refl

-- the constant is 2.0
half_value : (k : ℕ) → k < 149 → (x : Float) (s : Bool) (n : ℕ) → n < 2 ^ 24 → HasValue x s n (2 ^ k) → HasValue (div binary32 x (of_bits binary32 1073741824)) s n (2 ^ suc k)
unfolding div of_bits
half_value k low nan s n h v = absurd v
half_value k low (inf u) s n h v = absurd v
half_value k low (fin u m e) s n h v =
    let x : ℕ = m * up e in
    let double : 2 ^ suc k ≡ 2 * 2 ^ k = ap (λ (i : ℕ). 2 ^ i) (let e : suc k ≡ 1 + k = omega arith in e) ∙ pow-add 2 1 k in
    let twice : x * 1 * 2 ^ suc k ≡ n * (2 * down e) = rw (mul-one x, double) (mul_left_comm x 2 (2 ^ k) ∙ ap (λ (z : ℕ). 2 * z) v.1 ∙ mul_left_comm 2 n (down e)) in
    rw (same_sign u, v.0, round_same binary32 s (x * 1) (2 * down e) n (2 ^ suc k) (omega (arith, down_pos e)) (pow_pos (suc k)) twice) (not_rounded s n (suc k) h low)

pub half_exact : (k : ℕ) → k < 149 → (x : Float) (z : ℤ) → nat_abs z < 2 ^ 24 → Equals x z (2 ^ k) → Equals (div binary32 x (of_bits binary32 1073741824)) z (2 ^ suc k)
half_exact k low x z h v = record { sign = v.sign; value = half_value k low x v.sign (nat_abs z) h v.value; number = v.number }

-- ---- what a comparison says

-- x / de is a / c, and y / dd is b / d: the comparison does not depend on how the fractions are written
module _ (x de a c y dd b d : ℕ) (c_pos : 0 < c) (d-pos : 0 < d) (de-pos : 0 < de) (dd-pos : 0 < dd) (p : x * c ≡ a * de) (q : y * d ≡ b * dd) where
  level_same : (s t : Bool) → level s (x * dd) t (y * de) ≡ level s (a * d) t (b * c)
  level_same s t =
      rw (
        eqb_same (x * dd) (y * de) (a * d) (b * c)
            (λ e. le_antisymm (transfer a b c d x y de dd de-pos dd-pos (sym p) (sym q) (le_of_eq e)) (transfer b a d c y x dd de dd-pos de-pos (sym q) (sym p) (le_of_eq (sym e))))
            (λ e. le_antisymm (transfer x y de dd a b c d c_pos d-pos p q (le_of_eq e)) (transfer y x dd de b a d c d-pos c_pos q p (le_of_eq (sym e)))),
        eqb_same (x * dd) 0 (a * d) 0
            (λ e. ap (λ (n : ℕ). n * d) (factor_zero a de de-pos (sym p ∙ ap (λ (n : ℕ). n * c) (factor_zero x dd dd-pos e) ∙ zero-mul c)) ∙ zero-mul d)
            (λ e. ap (λ (n : ℕ). n * dd) (factor_zero x c c_pos (p ∙ ap (λ (n : ℕ). n * de) (factor_zero a d d-pos e) ∙ zero-mul de)) ∙ zero-mul dd),
      )

pub eq_at : (x y : Float) (s t : Bool) (a c b d : ℕ) → 0 < c → 0 < d → HasValue x s a c → HasValue y t b d → eq x y ≡ level s (a * d) t (b * c)
unfolding eq
eq_at nan y s t a c b d C D p q = absurd p
eq_at (inf u) y s t a c b d C D p q = absurd p
eq_at (fin u k f) nan s t a c b d C D p q = absurd q
eq_at (fin u k f) (inf v) s t a c b d C D p q = absurd q
eq_at (fin u k f) (fin v l g) s t a c b d C D p q =
    rw (p.0, q.0) (level_same (k * up f) (down f) a c (l * up g) (down g) b d C D (down_pos f) (down_pos g) p.1 q.1 s t)

-- the sign is that of the number, unless this is 0
pub sign_of : (s : Bool) (z : ℤ) → z ≡ with_sign s (nat_abs z) → (s ≡ is_negative z) ⊎ (nat_abs z ≡ 0)
sign_of false (pos n) e = inl refl
sign_of false (negsuc n) e = absurd (pos-ne-negsuc (suc n) n (sym e))
sign_of true (pos zero) e = inr refl
sign_of true (pos (suc n)) e = absurd (pos-ne-negsuc (suc n) n e)
sign_of true (negsuc n) e = inl refl

-- x equals n / 2 ^ (k + 1) with the sign t
pub value_of : (x : Float) (t : Bool) (n k : ℕ) → T (eq x (fin t n (negsuc k))) → Equals x (with_sign t n) (2 ^ suc k)
unfolding eq
value_of nan t n k h = absurd h
value_of (inf u) t n k h = absurd h
value_of (fin u m e) t n k h =
    let c : ℕ = 2 ^ suc k in
    let x : ℕ = m * up e * c in
    let both = and_both (eqb x (n * 1 * down e)) (beq u t || eqb x 0) h in
    let same : x ≡ n * down e = eqb→eq x (n * 1 * down e) both.0 ∙ ap (λ (a : ℕ). a * down e) (mul-one n) in
    subst (λ (z : ℤ). Equals (fin u m e) z c) (one_sign u t both.1 (λ e'. factor_zero n (down e) (down_pos e) (sym same ∙ e'))) (equals (fin u m e) u n c (refl, same))
  where
    one_sign : (u t : Bool) {x : ℕ} → T (beq u t || eqb x 0) → (x ≡ 0 → n ≡ 0) → with_sign u n ≡ with_sign t n
    one_sign true true h z = refl
    one_sign false false h z = refl
    one_sign true false {x} h z = rw (z (eqb→eq x 0 h))
    one_sign false true {x} h z = rw (z (eqb→eq x 0 h))

pub equal_of : (x : Float) (z : ℤ) (k : ℕ) → Equals x z (2 ^ suc k) → T (eq x (fin (is_negative z) (nat_abs z) (negsuc k)))
unfolding eq
equal_of nan z k v = absurd v.value
equal_of (inf u) z k v = absurd v.value
equal_of (fin u m e) z k v =
    let x : ℕ = m * up e * 2 ^ suc k in
    let n : ℕ = nat_abs z in
    let same : x ≡ n * 1 * down e = v.value.1 ∙ ap (λ (a : ℕ). a * down e) (sym (mul-one n)) in
    both_and (eqb x (n * 1 * down e)) (beq u (is_negative z) || eqb x 0) (eq→eqb same)
    (⊎_elim
    (λ s. or_left (beq u (is_negative z)) (eqb x 0) (subst (λ (b : Bool). T (beq b (is_negative z))) (sym (v.value.0 ∙ s)) (beq_same (is_negative z))))
    (λ o. or_right (beq u (is_negative z)) (eqb x 0) (eq→eqb (v.value.1 ∙ ap (λ (a : ℕ). a * down e) o ∙ zero-mul (down e))))
    (sign_of v.sign z v.number))
