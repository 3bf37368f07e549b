-- Document 01, section 6: the form of a line of a plate's text, and of the numbers, editions and lists that stand on it, as lists of bytes, in both
-- editions (document 02, N5). A part that does not have its form is `none`, malformed. Which lines a text has: survey_text/specs/Reading.antt.
use Rattle.std.specs.Prelude.{ℕ, zero, suc, ◌+◌, ◌-◌, ◌*◌, Bool, cond, ◌&&◌, List, [], ◌∷◌, ltb, leb, eqb, length, take, drop}
use mathlib.Core.Option.{Option, none, some}
use Rattle.basics.specs.Lists.{first_of}
use Rattle.text_lines.specs.Bytes.{newline, comma, zero_digit}

-- is it this byte?
unfoldable pub is : ℕ → ℕ → Bool
is byte b = eqb b byte

-- one after the other: what the second makes of the first's value
infixl 20 ◌>>=◌
abbrev pub ◌>>=◌ : {A B : Type 0} → Option A → (A → Option B) → Option B
none >>= k = none
some a >>= k = k a

-- ---- numbers

-- the largest count of digits, and the largest number
abbrev pub max_digits : ℕ
max_digits = 6

abbrev pub max_number : ℕ
max_number = 65535

unfoldable pub is_digit : ℕ → Bool
is_digit b = leb zero_digit b && leb b (zero_digit + 9)

-- the value of decimal digits, with those of v in front of them
unfoldable pub value_after : ℕ → List ℕ → Option ℕ
value_after v [] = some v
value_after v (b ∷ bs) = cond (is_digit b) (value_after (v * 10 + (b - zero_digit)) bs) none

-- "a number is 1 to 6 decimal digits, leading zeros allowed, at most 65,535"
unfoldable pub number : List ℕ → Option ℕ
number bs = cond (leb 1 (length bs) && leb (length bs) max_digits)
    (value_after 0 bs >>= λ v. cond (leb v max_number) (some v) none)
    none

-- the edition of the format: the digit 1 or the digit 2, and nothing else
unfoldable pub edition : List ℕ → Option ℕ
edition [] = none
edition (b ∷ []) = cond (is (zero_digit + 1) b) (some 1) (cond (is (zero_digit + 2) b) (some 2) none)
edition (b ∷ c ∷ bs) = none

-- ---- lists

-- a byte more in front of the first part
abbrev pub lengthen : ℕ → List (List ℕ) → List (List ℕ)
lengthen b [] = (b ∷ []) ∷ []
lengthen b (p ∷ ps) = (b ∷ p) ∷ ps

-- the parts between the commas, one more than there are commas
unfoldable pub parts : List ℕ → List (List ℕ)
parts [] = [] ∷ []
parts (b ∷ bs) = let ps = parts bs in cond (is comma b) ([] ∷ ps) (lengthen b ps)

-- exactly n parts, each a number
unfoldable pub numbers : ℕ → List (List ℕ) → Option (List ℕ)
numbers zero [] = some []
numbers zero (p ∷ ps) = none
numbers (suc n) [] = none
numbers (suc n) (p ∷ ps) = do
  v ← number p
  vs ← numbers n ps
  some (v ∷ vs)

-- "lists have W numbers parted by commas"
unfoldable pub list : ℕ → List ℕ → Option (List ℕ)
list W bs = numbers W (parts bs)

-- ---- lines

-- "each line ends in one newline": the next line without its newline, and what follows it. Bytes that no newline ends are no line
unfoldable pub next_line : List ℕ → Option (List ℕ × List ℕ)
next_line bs = let n = first_of (is newline) bs in cond (ltb n (length bs)) (some (take n bs, drop (suc n) bs)) none

-- what follows these bytes at the front of a line
unfoldable pub after : List ℕ → List ℕ → Option (List ℕ)
after [] bs = some bs
after (c ∷ cs) [] = none
after (c ∷ cs) (b ∷ bs) = cond (is c b) (after cs bs) none

-- what stands on the next line behind its name, and what follows the line
unfoldable pub named : List ℕ → List ℕ → Option (List ℕ × List ℕ)
named name bs = do
  (line, rest) ← next_line bs
  value ← after name line
  some (value, rest)
