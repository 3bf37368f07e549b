-- The size of a plate: which sizes refusal 1 (document 01, section 5) allows, and how long the paths of a direction are on them.
use Rattle.std.specs.Prelude.{ℕ, ◌*◌, ◌^◌, ◌≤◌, cond, ◌||◌, leb, length}
use Rattle.plate.specs.Directions.{table}
use Rattle.plate.specs.Paths.{span}
use Rattle.plate.specs.Refusals.{bad_size}

-- a size that refusal 1 allows
pub record GoodSize (W H : ℕ) : Type 0 where
  pub wide : 1 ≤ W
  pub narrow : W ≤ 1024
  pub high : 1 ≤ H
  pub low : H ≤ 1024
  pub few : W * H ≤ 65536

-- the length of the longest paths of the direction at an index of the table; 0 where refusal 1 forbids the size or the table has no such index
unfoldable pub span_of : ℕ → ℕ → ℕ → ℕ
span_of W H index = cond (bad_size W H || leb (length table) index) 0 (span W H (2 ^ index))
