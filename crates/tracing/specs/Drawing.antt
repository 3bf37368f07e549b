-- What the path buffer holds in the end. This definition serves contracts inside the engine only: no public contract cites it.
use Rattle.std.specs.Prelude.{ℕ, ◌≤◌, get_or}
use mathlib.Core.List.{List, Memᴰ}
use Rattle.plate.specs.Paths.{next}
use Rattle.theory.specs.Walks.{Walk, last_of}
use Rattle.theory.specs.BestWalks.{low_pixels, ended}

-- a walk of m steps of the direction, through x, with at most k pixels below t, that may start and end where it does
pub record Drawn (slack W H bit : ℕ) (g : ℕ → ℕ) (t m k x : ℕ) (path : List ℕ) : Type 0 where
  pub walk : Walk (next W H bit) m (get_or path 0 0) path
  pub crosses : Memᴰ x path
  pub few : low_pixels g t path ≤ k
  pub starts : t ≤ ended slack (g (get_or path 0 0))
  pub ends : t ≤ ended slack (g (last_of path))
