-- Laws of the decimal digits that are printed: the count of digits asked for does not matter once it is enough, so a number of two or more digits is
-- its tenth with one digit more.
use Prim.Native.Nat.{ℕ, zero, suc, ◌+◌, ◌*◌, ◌/◌, ◌%◌, ◌^◌, ◌≤◌, ◌<◌}
use mathlib.Core.Path.{◌≡◌, ap}
use mathlib.Core.Bool.{cond}
use mathlib.Core.List.{List, [], ◌∷◌, ◌++◌}
use mathlib.Core.Logic.{⊎_elim}
use native.Mathlib.Nat.{pow-suc}
use native.Mathlib.Omega.{arith}
use lib.Dec.{ltb}
use lib.ListN.{length, length-append}
use borrow.Author.Tests.{lt-ltb, le-ltb}
use Rattle.basics.proofs.Numbers.{le_or_lt}
use Rattle.text_lines.specs.Bytes.{zero_digit}
use Rattle.survey_text.specs.Printing.{digits, decimal}

-- any two counts above the number give the same
digits_enough : (a b n : ℕ) → n < a → n < b → digits a n ≡ digits b n
unfolding digits
digits_enough zero b n h k = absurd (omega arith)
digits_enough (suc a) zero n h k = absurd (omega arith)
digits_enough (suc a) (suc b) n h k =
    ⊎_elim
    (λ l. ap (λ (ds : List ℕ). cond (ltb n 10) ((zero_digit + n) ∷ []) (ds ++ ((zero_digit + n % 10) ∷ []))) (digits_enough a b (n / 10) (omega arith) (omega arith)))
    (λ l. rw (lt-ltb n 10 l))
    (le_or_lt 10 n)

pub decimal_one : (n : ℕ) → n < 10 → decimal n ≡ (zero_digit + n) ∷ []
unfolding decimal digits
decimal_one n h = rw (lt-ltb n 10 h)

pub decimal_more : (n : ℕ) → 10 ≤ n → decimal n ≡ decimal (n / 10) ++ ((zero_digit + n % 10) ∷ [])
unfolding decimal digits
decimal_more n h = rw (le-ltb n 10 h) (ap (λ (ds : List ℕ). ds ++ ((zero_digit + n % 10) ∷ [])) (digits_enough n (suc (n / 10)) (n / 10) (omega arith) (omega arith)))

-- at most k digits below 10 ^ k
pub decimal_length : (k n : ℕ) → n < 10 ^ suc k → length (decimal n) ≤ suc k
decimal_length zero n h = omega (arith, ap length (decimal_one n (omega arith)))
decimal_length (suc k) n h =
    ⊎_elim
    (λ l. let t : n < 10 ^ suc k * 10 = rw (pow-suc 10 (suc k)) at h in
    omega (arith, ap length (decimal_more n l), length-append (decimal (n / 10)) ((zero_digit + n % 10) ∷ []), decimal_length k (n / 10) (omega arith)))
    (λ l. omega (arith, ap length (decimal_one n l)))
    (le_or_lt 10 n)
