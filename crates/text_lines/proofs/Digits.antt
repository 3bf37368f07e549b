-- Laws of decimal digits that are read: a walk over them holds the value of those it has passed, and the number is what it holds at the end. An edition
-- is a single digit.
use Prim.Native.Nat.{ℕ, ◌+◌, ◌-◌, ◌*◌, ◌^◌, ◌≤◌, ◌<◌}
use mathlib.Core.Path.{◌≡◌, refl, ◌∙◌}
use mathlib.Core.Bool.{Bool, true, false, cond, ◌&&◌}
use mathlib.Core.List.{List, [], ◌∷◌}
use mathlib.Core.Option.{Option, none, some}
use mathlib.Core.Logic.{⊎_elim}
use native.Mathlib.Numerals.{add-one}
use native.Mathlib.Nat.{pow-suc}
use native.Mathlib.Omega.{arith}
use lib.Dec.{eqb, leb}
use lib.ListN.{length, get_or, drop, drop_of_length-le}
use lib.Seq.{drop-cons}
use borrow.Author.Tests.{leb-true, le-leb, lt-leb, eq-eqb, ne_eqb}
use Rattle.std.specs.Bool.{then_some}
use Rattle.std.specs.Char.{is_ascii_digit}
use Rattle.basics.proofs.Tests.{true_or_false, and_both, true_T, T_true}
use Rattle.text_lines.specs.Bytes.{zero_digit}
use Rattle.text_lines.specs.Answers.{number_read}
use Rattle.text_lines.specs.Format.{◌>>=◌, max_digits, max_number, is, is_digit, value_after, number, edition}

-- std's test of a digit is the format's
pub digit_same : (b : ℕ) → is_digit b ≡ is_ascii_digit b
unfolding is_digit
digit_same b = refl

pub digit_range : (b : ℕ) → is_digit b ≡ true → (48 ≤ b) × (b ≤ 57)
unfolding is_digit
digit_range b e =
    let t = and_both (leb 48 b) (leb b 57) (true_T _ e) in (leb-true 48 b (T_true _ t.0), leb-true b 57 (T_true _ t.1))

module _ (s : List ℕ) (i v : ℕ) (walk : value_after 0 s ≡ value_after v (drop i s)) where
  pub valued_more : i < length s → is_digit (get_or s i 0) ≡ true → value_after 0 s ≡ value_after (v * 10 + (get_or s i 0 - zero_digit)) (drop (i + 1) s)
  unfolding value_after
  valued_more h e = walk ∙ rw (add-one, drop-cons s i 0 h, e)

  pub valued_stop : i < length s → is_digit (get_or s i 0) ≡ false → value_after 0 s ≡ none
  unfolding value_after
  valued_stop h e = walk ∙ rw (drop-cons s i 0 h, e)

  pub valued_end : length s ≤ i → value_after 0 s ≡ some v
  unfolding value_after
  valued_end h = walk ∙ rw (drop_of_length-le s h)

-- no number has no digit or more than six
pub number_empty : (s : List ℕ) → length s ≡ 0 → number s ≡ none
unfolding number
number_empty [] h = refl
number_empty (b ∷ bs) h = absurd (omega arith)

pub filled_in : (s : List ℕ) → eqb (length s) 0 ≡ false → 1 ≤ length s
filled_in [] e = absurd (let z : ◌≡◌ {A = ℕ} 0 1 = cc in omega arith)
filled_in (b ∷ bs) e = omega arith

pub number_long : (s : List ℕ) → max_digits < length s → number s ≡ none
unfolding number
number_long s h = rw (le-leb 1 (length s) (omega arith), lt-leb (length s) max_digits h)

-- a number of a length that is allowed
pub number_sized : (s : List ℕ) → 1 ≤ length s → length s ≤ max_digits → number s ≡ (value_after 0 s >>= λ v. cond (leb v max_number) (some v) none)
unfolding number
number_sized s h k = rw (le-leb 1 (length s) h, le-leb (length s) max_digits k)

-- what the test at the end makes of the value
pub small_read : (small : Bool) (v : ℕ) → number_read (then_some small v) ≡ cond small (some v) none
small_read true v = refl
small_read false v = refl

-- a number is at most 65,535
at_most : (o : Option ℕ) (v : ℕ) → some v ≡ (o >>= λ w. cond (leb w max_number) (some w) none) → v ≤ max_number
at_most none v e = absurd (let z : ◌≡◌ {A = ℕ} 0 1 = cc in omega arith)
at_most (some w) v e =
    ⊎_elim (λ t. let f : some v ≡ some w = rw t at e in let g : v ≡ w = cc in omega (arith, leb-true w max_number t))
    (λ t. let f : ◌≡◌ {A = Option ℕ} (some v) none = rw t at e in absurd (let z : ◌≡◌ {A = ℕ} 0 1 = cc in omega arith))
    (true_or_false (leb w max_number))

pub number_small : (s : List ℕ) (v : ℕ) → some v ≡ number s → v ≤ max_number
unfolding number
number_small s v e =
    ⊎_elim (λ t. at_most (value_after 0 s) v (rw t at e))
    (λ t. let f : ◌≡◌ {A = Option ℕ} (some v) none = rw t at e in absurd (let z : ◌≡◌ {A = ℕ} 0 1 = cc in omega arith))
    (true_or_false (leb 1 (length s) && leb (length s) max_digits))

-- i digits hold less than 10 ^ i
pub ten_more : (v d i : ℕ) → v < 10 ^ i → d < 10 → v * 10 + d < 10 ^ (i + 1)
ten_more v d i h k = rw (add-one, pow-suc 10 i) (omega arith)

-- ---- editions

pub edition_sized : (s : List ℕ) → (length s ≡ 1 → ⊥) → edition s ≡ none
unfolding edition
edition_sized [] h = refl
edition_sized (b ∷ []) h = absurd (h refl)
edition_sized (b ∷ c ∷ bs) h = refl

-- the definition, at the one byte
edition_byte : (s : List ℕ) → length s ≡ 1 → edition s ≡ cond (is 49 (get_or s 0 0)) (some 1) (cond (is 50 (get_or s 0 0)) (some 2) none)
unfolding edition
edition_byte [] h = absurd (omega arith)
edition_byte (b ∷ []) h = refl
edition_byte (b ∷ c ∷ bs) h = absurd (omega arith)

module _ (s : List ℕ) (one : length s ≡ 1) where
  pub edition_one : get_or s 0 0 ≡ 49 → edition s ≡ some 1
  unfolding is
  edition_one e = edition_byte s one ∙ rw (eq-eqb (get_or s 0 0) 49 e)

  module _ (other : get_or s 0 0 ≡ 49 → ⊥) where
    pub edition_two : get_or s 0 0 ≡ 50 → edition s ≡ some 2
    unfolding is
    edition_two e = edition_byte s one ∙ rw (ne_eqb (get_or s 0 0) 49 other, eq-eqb (get_or s 0 0) 50 e)

    pub edition_none : (get_or s 0 0 ≡ 50 → ⊥) → edition s ≡ none
    unfolding is
    edition_none e = edition_byte s one ∙ rw (ne_eqb (get_or s 0 0) 49 other, ne_eqb (get_or s 0 0) 50 e)
