-- What the states of a sweep hold: at each pixel the best walk of a row's number of steps. And where the keys of the plate stand. These definitions
-- serve contracts inside the engine only: no public contract cites them.
use Rattle.std.specs.Prelude.{ℕ, ◌+◌, ◌-◌, ◌*◌, ◌/◌, ◌%◌, ◌≤◌, ◌<◌, ◌≡◌, Bool, true, cond, List, leb, ℤ}
use Rattle.std.specs.Int.Signed.{mag}
use Rattle.plate.specs.Opening.{level_at}
use Rattle.frames.specs.Keys.{key_by}
use Rattle.frames.specs.Frames.{place_in, Bounded}
use Rattle.frames.specs.declared.frame.Frame.{Frame}
use Rattle.plans.specs.Plans.{line_at, steps_at}
use Rattle.plans.specs.declared.plan.Plan.{Plan}
use Rattle.theory.specs.BestWalks.{best_walk_to}

-- the place of pixel x on a line or rank of the frame
abbrev pub pixel_in : Frame → Bool → ℕ → ℕ → ℕ
pixel_in r ranked line x = place_in r (cond ranked (line - x) line) x

-- the best walk at pixel x of row m of state e with at most j gaps, to a place that passes the test
unfoldable pub number_at : Frame → Plan → (ℕ → List ℕ) → (ℕ → ℕ) → (ℕ → Bool) → ℕ → ℕ → ℕ → ℕ → ℕ
number_at r p next g passes e m j x = best_walk_to p.slack next g passes (steps_at p e m) j (pixel_in r p.ranked (line_at p e m) x)

-- the line of the frame whose pixel x has its key in this row of keys: on ranks a row has the pixels of its rank, and those of the rank as many lines on
-- as the frame has
unfoldable pub line_kept : Frame → Bool → ℕ → ℕ → ℕ
line_kept r ranked row x = cond ranked (cond (leb x row) (row - x) (row + r.lines - x)) row

-- a frame whose keys can be kept so
pub record KeptOn (r : Frame) (ranked : Bool) : Type 0 where
  pub bounded : Bounded r
  pub lies : (i x : ℕ) → i < r.lines → x < r.across → place_in r i x < r.lines * r.across
  pub slim : ranked ≡ true → r.across ≤ r.lines

-- the place whose key stands at q
unfoldable pub place_kept : Frame → Bool → ℕ → ℕ
place_kept r ranked q = place_in r (line_kept r ranked (q / r.across) (q % r.across)) (q % r.across)

-- the keys of a plate, as the mode looks at it
unfoldable pub keys_by : ℕ → List ℤ → ℕ → ℕ
keys_by mode plate p = key_by mode (level_at plate p)

-- every level whose key stands from lo below hi has 16 bits, as each of them is read
pub record SmallKept (plate : List ℤ) (r : Frame) (ranked : Bool) (lo hi : ℕ) : Type 0 where
  pub size : (q : ℕ) → lo ≤ q → q < hi → mag (level_at plate (place_kept r ranked q)) < 32768
