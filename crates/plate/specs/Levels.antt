-- Document 01, section 1: readings, corrections and levels; section 3: the mirror.
use Rattle.std.specs.Prelude.{ℕ, cond, ltb, ℤ, pos, negsuc, ◌+ℤ◌, ◌-ℤ◌, nat_abs}
use mathlib.Core.List.{List, zip_with}

-- a 16-bit word read in two's complement: from 32768 on it stands for the word less 65536
unfoldable pub signed : ℕ → ℤ
signed word = cond (ltb word 32768) (pos word) (pos word -ℤ pos 65536)

-- level = reading + correction, the correction given as a word
unfoldable pub corrected : ℕ → ℕ → ℤ
corrected reading word = pos reading +ℤ signed word

-- a plate of readings, each corrected by its word
unfoldable pub corrected_plate : List ℕ → List ℕ → List ℤ
corrected_plate readings words = zip_with corrected readings words

-- light and dark exchanged: −1 − v
unfoldable pub mirror : ℤ → ℤ
mirror v = negsuc 0 -ℤ v

-- the lowest level, −32,768
abbrev pub lowest : ℤ
lowest = negsuc 32767

-- the level that stands n above the lowest; and how far a level stands above the lowest, its key
abbrev pub level : ℕ → ℤ
level n = lowest +ℤ pos n

abbrev pub key : ℤ → ℕ
key v = nat_abs (v -ℤ lowest)
