-- The limits of document 01, sections 1, 2 and 5, with the readings and corrections of document 02, N1, and its `ends`, N5.
use Rattle.std.specs.Prelude.{ℕ, ℤ, pos, negsuc}

-- the largest width or height, and the largest number of pixels
abbrev pub max_side : ℕ
max_side = 1024

abbrev pub max_pixels : ℕ
max_pixels = 65536

-- the largest reading; the least and the largest correction (`negsuc n` is −(n + 1))
abbrev pub max_reading : ℕ
max_reading = 16383

abbrev pub min_correction : ℤ
min_correction = negsuc 16383

abbrev pub max_correction : ℤ
max_correction = pos 16383

-- the largest length, gap count, set of directions, mode and `ends` of a setting
abbrev pub max_length : ℕ
max_length = 1024

abbrev pub max_gaps : ℕ
max_gaps = 8

abbrev pub max_directions : ℕ
max_directions = 15

abbrev pub max_mode : ℕ
max_mode = 1

abbrev pub max_ends : ℕ
max_ends = 1
