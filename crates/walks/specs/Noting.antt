-- The best numbers of states, noted by the steps of their rows. A maximum is told by what it is not below, and by where it comes from. These
-- definitions serve contracts inside the engine only: no public contract cites them.
use Rattle.std.specs.Prelude.{ℕ, ◌+◌, ◌*◌, ◌≤◌, ◌<◌, ◌≡◌, cond, List, ◌⊎◌, length, get_or}
use Rattle.plans.specs.Plans.{rows_in, row_lo, row_hi, steps_at}
use Rattle.plans.specs.declared.plan.Plan.{Plan}
use Rattle.walks.specs.Endings.{ended_at}

-- r is the highest of v and of f at the places from lo below hi
pub record Highest (f : ℕ → ℕ) (lo hi v r : ℕ) : Type 0 where
  pub not_below : v ≤ r
  pub best : (x : ℕ) → lo ≤ x → x < hi → f x ≤ r
  pub source : (r ≡ v) ⊎ ((x : ℕ) × (lo ≤ x) × (x < hi) × (r ≡ f x))

-- the notes have risen to all numbers that belong to a place, and none further than one of them
pub record Lifted (of : ℕ → ℕ → Type 0) (old new : List ℕ) : Type 0 where
  pub grown : (q : ℕ) → get_or old q 0 ≤ get_or new q 0
  pub reached : (q v : ℕ) → of q v → v ≤ get_or new q 0
  pub source : (q : ℕ) → (get_or new q 0 ≡ get_or old q 0) ⊎ of q (get_or new q 0)
  pub len : length new ≡ length old

-- v is the number of a pixel from lo below hi in one of the first planes, which are noted from `to` on
pub record FromRow (f : ℕ → ℕ → ℕ) (lo hi to planes q v : ℕ) : Type 0 where
  pub plane : ℕ
  pub pixel : ℕ
  pub plane_below : plane < planes
  pub low : lo ≤ pixel
  pub high : pixel < hi
  pub at : q ≡ to + plane
  pub is : v ≡ f plane pixel

-- the numbers of a row that begins at a place of the work buffer, as walks that end there count for them; the row's keys stand at `keys`
abbrev pub row_ended : List ℕ → ℕ → ℕ → ℕ → ℕ → ℕ → ℕ → ℕ
row_ended work slack keys at across j x = ended_at work slack (keys + x) (at + (j * across + x))

-- v is a number of one of the first rows of state e, which are noted by their steps
pub record FromState (p : Plan) (f : ℕ → ℕ → ℕ → ℕ) (e rows q v : ℕ) : Type 0 where
  pub row : ℕ
  pub row_below : row < rows
  pub number : FromRow (f row) (row_lo p e row) (row_hi p e row) (steps_at p e row * p.planes) p.planes q v

-- one more than the most steps that walks of state e have
unfoldable pub steps_past : Plan → ℕ → ℕ
steps_past p e = cond p.ranked (e + 1) (rows_in p e)
