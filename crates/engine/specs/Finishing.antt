-- What holds of a call once every check has passed, and what is made of the gathered levels in the end. These definitions serve contracts inside
-- the engine only: no public contract cites them.
use Rattle.std.specs.Prelude.{ℕ, ◌-◌, ◌*◌, ◌≤◌, ◌<◌, min, max, ◌≡◌, cond, List, length, ℤ}
use Rattle.std.specs.Int.Signed.{mag}
use Rattle.plate.specs.Directions.{member, chosen}
use Rattle.plate.specs.Paths.{next}
use Rattle.plate.specs.Opening.{level_at}
use Rattle.plate.specs.Calls.{Passed}
use Rattle.plate.specs.declared.setting.Setting.{Setting}
use Rattle.frames.specs.Keys.{key_by, level_by}
use Rattle.theory.specs.Walks.{back}
use Rattle.theory.specs.BestWalks.{best, key_at, gap_end, best_through}

-- sizes, setting and the lengths of plate, result and work that pass every check
abbrev pub Accepted : ℕ → ℕ → Setting → ℕ → ℕ → ℕ → Type 0
Accepted W H s plate result work = Passed W H s plate (W * H) result work

-- the best path through a pixel in the direction with this bit, but for the pixel's own key
abbrev pub best_in : ℕ → ℕ → Setting → List ℤ → ℕ → ℕ → ℕ
best_in W H s plate bit x =
    best_through (gap_end s.ends) (next W H bit) (back W H bit) (λ p. key_by s.mode (level_at plate p)) (s.length - 1) s.gaps x

-- the same where the direction is chosen, else nothing
unfoldable pub best_if_chosen : ℕ → ℕ → Setting → List ℤ → ℕ → ℕ → ℕ
best_if_chosen W H s plate bit x = cond (member s.directions bit) (best_in W H s plate bit x) 0

-- and in all chosen directions
unfoldable pub best_of_all : ℕ → ℕ → Setting → List ℤ → ℕ → ℕ
best_of_all W H s plate x = best (λ bit. best_in W H s plate bit x) (chosen s.directions)

-- all levels are the lowest
pub record Blank (old new : List ℤ) : Type 0 where
  pub lowest : (x : ℕ) → key_at new x ≡ 0
  pub len : length new ≡ length old

-- every level has reached the pixel's own
pub record Complete (mode : ℕ) (plate result : List ℤ) : Type 0 where
  pub reached : (x : ℕ) → x < length plate → key_by mode (level_at plate x) ≤ key_at result x

-- the levels of the first n pixels have risen to the best, as far as the pixel's own lets it be seen
pub record Gathered (mode : ℕ) (plate : List ℤ) (best : ℕ → ℕ) (old new : List ℤ) (n : ℕ) : Type 0 where
  pub is : (x : ℕ) → x < n → min (key_by mode (level_at plate x)) (key_at new x) ≡ min (key_by mode (level_at plate x)) (max (key_at old x) (best x))
  pub len : length new ≡ length old

-- each level is what was gathered, but not above the pixel's own; and the plate's levels, each of which is read, have 16 bits
pub record Finished (mode : ℕ) (plate old new : List ℤ) : Type 0 where
  pub small : (x : ℕ) → x < length plate → mag (level_at plate x) < 32768
  pub is : (x : ℕ) → x < length plate → level_at new x ≡ level_by mode (min (key_by mode (level_at plate x)) (key_at old x))
  pub len : length new ≡ length old
