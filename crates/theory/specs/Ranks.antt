-- How far a pixel stands along a direction, and how many steps lead on from it. These definitions serve contracts inside the engine and the laws; no
-- public contract cites them.
use Rattle.std.specs.Prelude.{ℕ, ◌+◌, ◌-◌, ◌/◌, ◌%◌, Bool, true, false, cond, eqb}
use Rattle.plate.specs.Paths.{span}
use Rattle.theory.specs.Walks.{opposite}

-- the rank of column c and row r: rows from the bottom for north, columns from the left for east, both together on the diagonals
unfoldable pub rank_at : ℕ → ℕ → ℕ → ℕ → ℕ
rank_at H bit c r = cond (eqb bit 1) (H - 1 - r) (cond (eqb bit 2) c (cond (eqb bit 4) (c + (H - 1 - r)) (c + r)))

unfoldable pub rank : ℕ → ℕ → ℕ → ℕ → ℕ
rank W H bit p = rank_at H bit (p % W) (p / W)

-- how many steps lead on from p: up to the highest rank, or back to the lowest
abbrev pub steps_left : ℕ → ℕ → ℕ → Bool → ℕ → ℕ
steps_left W H bit true p = rank W H bit p
steps_left W H bit false p = span W H bit - 1 - rank W H bit p

abbrev pub steps_behind : ℕ → ℕ → ℕ → Bool → ℕ → ℕ
steps_behind W H bit side p = steps_left W H bit (opposite side) p
