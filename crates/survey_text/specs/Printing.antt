-- Document 01, section 6: the lines that the program prints, "all decimal, levels below zero with a minus sign".
use Rattle.std.specs.Prelude.{ℕ, zero, suc, ◌+◌, ◌/◌, ◌%◌, cond, ltb, take, drop, ℤ, pos, negsuc}
use mathlib.Core.List.{List, [], ◌∷◌, ◌++◌, map, flat_map}
use Rattle.text_lines.specs.Bytes.{bytes, newline, comma, minus, zero_digit}

-- the last `count` decimal digits of n, without needless zeros
unfoldable pub digits : ℕ → ℕ → List ℕ
digits zero n = []
digits (suc count) n =
    cond (ltb n 10) ((zero_digit + n) ∷ []) (digits count (n / 10) ++ ((zero_digit + n % 10) ∷ []))

-- a number in decimal (n + 1 digits are more than enough)
unfoldable pub decimal : ℕ → List ℕ
decimal n = digits (suc n) n

-- a level in decimal, below zero with a minus sign (`negsuc n` is −(n + 1))
unfoldable pub signed_decimal : ℤ → List ℕ
signed_decimal (pos n) = decimal n
signed_decimal (negsuc n) = minus ∷ decimal (suc n)

-- texts parted by commas: the first, then each other one behind a comma
unfoldable pub parted : List (List ℕ) → List ℕ
parted [] = []
parted (x ∷ xs) = x ++ flat_map (λ y. comma ∷ y) xs

-- a line
unfoldable pub line : List ℕ → List ℕ → List ℕ
line name value = name ++ value ++ (newline ∷ [])

-- the rows of a plate: H lists of W levels
unfoldable pub rows : ℕ → ℕ → List ℤ → List (List ℤ)
rows W zero f = []
rows W (suc h) f = take W f ∷ rows W h (drop W f)

unfoldable pub out_line : List ℤ → List ℕ
out_line row = line (bytes "out=") (parted (map signed_decimal row))

-- the size, and one `out=` line of filtered levels a row
unfoldable pub out_text : ℕ → ℕ → List ℤ → List ℕ
out_text W H f = line (bytes "width=") (decimal W) ++ line (bytes "height=") (decimal H) ++ flat_map out_line (rows W H f)

unfoldable pub level_line : ℤ → List ℕ
level_line level = line (bytes "level=") (signed_decimal level)

unfoldable pub path_line : List ℕ → List ℕ
path_line path = line (bytes "path=") (parted (map decimal path))

-- the trace's way bit, its level and its places
unfoldable pub trace_text : ℕ → ℤ → List ℕ → List ℕ
trace_text way level path = line (bytes "way=") (decimal way) ++ level_line level ++ path_line path

-- "A refusal prints the lines `refused=` and `place=`"
unfoldable pub refusal_text : ℕ → ℕ → List ℕ
refusal_text number place = line (bytes "refused=") (decimal number) ++ line (bytes "place=") (decimal place)
