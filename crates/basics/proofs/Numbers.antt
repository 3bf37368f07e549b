-- General laws of natural numbers, for what `omega` does not find by itself: the cases of an order, of a maximum and of a small number, one number
-- more, the equality of two numbers or two tests from both directions, and products.
use Prim.Native.Nat.{ℕ, zero, suc, ◌+◌, ◌*◌, ◌≤◌, ◌<◌, max}
use mathlib.Core.Path.{◌≡◌, refl, sym, ◌∙◌, subst}
use mathlib.Core.Bool.{Bool, true, false}
use mathlib.Core.Logic.{◌⊎◌, inl, inr, ⊎_elim, by_cases}
use native.Mathlib.Decide.{dec_le}
use native.Mathlib.Nat.{add-mul, mul-le-mul_right, eq_of_mul-eq-mul_right, zero-mul}
use native.Mathlib.Omega.{arith, max_cases}
use lib.Dec.{ltb, eqb}
use borrow.Author.Tests.{lt-ltb, le-ltb, eq-eqb, ne_eqb, eqb-true, eqb-false}

pub le_or_lt : (a b : ℕ) → (a ≤ b) ⊎ (b < a)
le_or_lt a b = by_cases (dec_le a b) inl (λ n. inr (omega arith))

-- what holds below n and at n holds below n + 1
pub below_more : (P : ℕ → Type 0) (n : ℕ) → P n → ((i : ℕ) → i < n → P i) → (i : ℕ) → i < n + 1 → P i
below_more P n here before i h = ⊎_elim (λ e. let same : n ≡ i = omega arith in subst P same here) (before i) (le_or_lt n i)

-- what is not above a maximum is not above one of the two
pub le_max_split : (t a b : ℕ) → t ≤ max a b → (t ≤ a) ⊎ (t ≤ b)
le_max_split t a b h = max_cases a b ((t ≤ a) ⊎ (t ≤ b)) (λ p e. inr (omega arith)) (λ p e. inl (omega arith))

-- a number is known by the positive numbers up to it
pub known_below :
    (a b : ℕ) → ((t : ℕ) → 1 ≤ t → t ≤ a → t ≤ b) → ((t : ℕ) → 1 ≤ t → t ≤ b → t ≤ a) → a ≡ b
known_below zero zero up down = refl
known_below zero (suc b) up down = absurd (omega (arith, down (suc b) (omega arith) (omega arith)))
known_below (suc a) zero up down = absurd (omega (arith, up (suc a) (omega arith) (omega arith)))
known_below (suc a) (suc b) up down =
    omega (arith, up (suc a) (omega arith) (omega arith), down (suc b) (omega arith) (omega arith))

-- two tests of order agree where the orders do
pub ltb_same : (a b c d : ℕ) → (a < b → c < d) → (c < d → a < b) → ltb a b ≡ ltb c d
ltb_same a b c d up down = ⊎_elim
    (λ h. rw (le-ltb a b h) (sym (le-ltb c d (⊎_elim (λ l. l) (λ l. absurd (omega (arith, down l))) (le_or_lt d c)))))
    (λ h. rw (lt-ltb a b h) (sym (lt-ltb c d (up h))))
    (le_or_lt b a)

-- two tests of equality likewise
pub eqb_same : (a b c d : ℕ) → (a ≡ b → c ≡ d) → (c ≡ d → a ≡ b) → eqb a b ≡ eqb c d
eqb_same a b c d forth home = go (eqb c d) refl
  where
    go : (r : Bool) → eqb c d ≡ r → eqb a b ≡ r
    go true e = eq-eqb a b (home (eqb-true c d e))
    go false e = ne_eqb a b (λ (h : a ≡ b). eqb-false c d e (forth h))

-- a number below three or four is one of those
pub below_three : (P : ℕ → Type 0) → P 0 → P 1 → P 2 → (n : ℕ) → n < 3 → P n
below_three P a b c zero h = a
below_three P a b c (suc zero) h = b
below_three P a b c (suc (suc zero)) h = c
below_three P a b c (suc (suc (suc n))) h = absurd (omega arith)

pub below_four : (P : ℕ → Type 0) → P 0 → P 1 → P 2 → P 3 → (n : ℕ) → n < 4 → P n
below_four P a b c d zero h = a
below_four P a b c d (suc n) h = below_three (λ (m : ℕ). P (suc m)) b c d n (omega arith)

-- k rows of w numbers after the first r rows end within h rows
pub rows_fit : (r k h w : ℕ) → r + k ≤ h → r * w + k * w ≤ h * w
rows_fit r k h w p = subst (λ (n : ℕ). n ≤ h * w) (add-mul r k w) (mul-le-mul_right w p)

-- a product is zero with a factor that is not
pub factor_zero : (n d : ℕ) → 0 < d → n * d ≡ 0 → n ≡ 0
factor_zero n d p e = eq_of_mul-eq-mul_right d p n 0 (e ∙ sym (zero-mul d))
