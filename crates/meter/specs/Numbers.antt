-- Document 02, N6: the numbers that the lamp meter may report, from 0 to 8,192 in quarters.
-- A float is `nan`, an infinity `inf s`, or `fin s m e`, the number m × 2 ^ e, negative where s is true (lib.Ieee). `negsuc n` is −(n + 1).
use Rattle.std.specs.Prelude.{ℕ, ◌*◌, ◌/◌, Bool, false, not, ◌&&◌, negsuc, nat_le, Float}
use Rattle.std.specs.Float.{nan, inf, fin}
use Rattle.std.specs.Float.Ieee.{up, down, eq}

-- 8,192 in quarters
abbrev pub max_quarters : ℕ
max_quarters = 32768

-- the number q / 4, that is q × 2 ^ −2
abbrev pub quarters : ℕ → Float
quarters q = fin false q (negsuc 1)

-- x is q quarters, and at most 8,192: it equals q / 4 as IEEE 754 compares numbers, which is exact. So minus zero is 0 quarters, and a NaN, an
-- infinity and a number below zero are no count of quarters.
unfoldable pub is_quarters : Float → ℕ → Bool
is_quarters x q = eq x (quarters q) && nat_le q max_quarters

-- the one count that x can be: four times its size, cut to a whole number (`up e / down e` is 2 ^ e)
unfoldable pub quarters_of : Float → ℕ
quarters_of nan = 0
quarters_of (inf s) = 0
quarters_of (fin s m e) = m * up e * 4 / down e

-- a number that is not finite, not a whole count of quarters, or out of its range. That this is so, that x is then q quarters for no q at all, and that
-- any other x is its count and no other, is shown in proofs/Quarters.antt (`bad_is_none`, `good_is_one`, `counted`).
unfoldable pub bad_number : Float → Bool
bad_number x = not (is_quarters x (quarters_of x))
