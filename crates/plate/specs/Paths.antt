-- Document 01, section 2: places, steps and paths on a plate of W columns and H rows. The sizes have no limit here.
use Rattle.std.specs.Prelude.{ℕ, zero, suc, ◌+◌, ◌-◌, ◌*◌, ◌/◌, ◌%◌, Bool, cond, ◌&&◌, ltb, eqb, get_or, ℤ, pos, negsuc, ◌+ℤ◌}
use mathlib.Core.List.{List, [], ◌∷◌, map, flat_map}
use Rattle.basics.specs.Lists.{any, up_from}
use Rattle.plate.specs.Directions.{Step, steps, chosen}

-- the places of a plate: place = row × W + column
unfoldable pub places : ℕ → ℕ → List ℕ
places W H = up_from 0 (W * H)

-- where a step leads: to a place of the plate, or it leaves
pub data Reached : Type 0 where
  at : ℕ → Reached
  leaves : Reached

-- the place at a column and a row, if the plate has it
unfoldable pub place_at : ℕ → ℕ → ℤ → ℤ → Reached
place_at W H (pos c) (pos r) = cond (ltb c W && ltb r H) (at (r * W + c)) leaves
place_at W H (pos c) (negsuc r) = leaves
place_at W H (negsuc c) r = leaves

-- where a step leads from the place p; from a place that is off the plate every step leaves
unfoldable pub step_from : ℕ → ℕ → ℕ → Step → Reached
step_from W H p s = cond (ltb p (W * H)) (place_at W H (pos (p % W) +ℤ s.column) (pos (p / W) +ℤ s.row)) leaves

-- where the numbered step of a direction leads; a number or a bit that the table does not have leaves
unfoldable pub numbered_step : ℕ → ℕ → ℕ → ℕ → ℕ → Reached
numbered_step W H bit number p = get_or (map (step_from W H p) (steps bit)) number leaves

unfoldable pub arrivals : List Reached → List ℕ
arrivals [] = []
arrivals (at q ∷ rs) = q ∷ arrivals rs
arrivals (leaves ∷ rs) = arrivals rs

-- the places to which one of these steps leads from p
unfoldable pub reached_by : ℕ → ℕ → List Step → ℕ → List ℕ
reached_by W H ss p = arrivals (map (step_from W H p) ss)

-- the places to which one step of a direction leads from p
unfoldable pub next : ℕ → ℕ → ℕ → ℕ → List ℕ
next W H bit p = reached_by W H (steps bit) p

-- all paths of L pixels in a direction that start at p, each the list of its places in walking order
unfoldable pub paths_from : ℕ → ℕ → ℕ → ℕ → ℕ → List (List ℕ)
paths_from W H bit zero p = []
paths_from W H bit (suc zero) p = (p ∷ []) ∷ []
paths_from W H bit (suc (suc m)) p =
    map (λ path. p ∷ path) (flat_map (paths_from W H bit (suc m)) (next W H bit p))

-- all paths of length L in a direction
unfoldable pub paths_in : ℕ → ℕ → ℕ → ℕ → List (List ℕ)
paths_in W H L bit = flat_map (paths_from W H bit L) (places W H)

-- all paths of length L, each in one direction of a set
unfoldable pub paths : ℕ → ℕ → ℕ → ℕ → List (List ℕ)
paths W H set L = flat_map (paths_in W H L) (chosen set)

-- does a path go through the pixel x (document 01 also: cross it)?
unfoldable pub through : ℕ → List ℕ → Bool
through x path = any (λ p. eqb p x) path

-- the last of the pixels p and those after it
unfoldable pub last_after : ℕ → List ℕ → ℕ
last_after p [] = p
last_after p (q ∷ path) = last_after q path

-- the two end pixels of a path, its first and its last; a path of one pixel has it as both
unfoldable pub ends_of : List ℕ → List ℕ
ends_of [] = []
ends_of (p ∷ path) = p ∷ last_after p path ∷ []

-- does some path of length L, in a direction of the set, cross x?
unfoldable pub crossed : ℕ → ℕ → ℕ → ℕ → ℕ → Bool
crossed W H set L x = any (through x) (paths W H set L)

-- the length of the longest path in a direction, the same through every pixel: H north, W east, W + H − 1 on the diagonals
unfoldable pub span : ℕ → ℕ → ℕ → ℕ
span W H bit = cond (eqb bit 1) H (cond (eqb bit 2) W (W + H - 1))
