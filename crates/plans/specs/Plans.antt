-- The rows of a state: which pixels and keys they have, and which of them a step leads to. These definitions serve contracts inside the engine
-- only: no public contract cites them.
use Rattle.std.specs.Prelude.{ℕ, zero, suc, ◌+◌, ◌-◌, ◌*◌, ◌≤◌, ◌<◌, min, max, ◌≡◌, Bool, true, false, cond, ◌&&◌, leb, ltb, eqb}
use Rattle.plans.specs.declared.plan.Plan.{Plan}
use Rattle.plans.specs.declared.plan.Row.{Row}

-- ---- lines and ranks

-- the line or rank that has this number
unfoldable pub line_of : Plan → ℕ → ℕ
line_of p q = cond p.back (p.origin - q) (p.origin + q)

-- the pixels of a line or rank, from the first below the last
unfoldable pub first_in : Plan → ℕ → ℕ
first_in p line = cond p.ranked (max p.left (line + 1 - p.bottom)) p.left

unfoldable pub past_in : Plan → ℕ → ℕ
past_in p line = cond p.ranked (min p.right (line + 1 - p.top)) p.right

-- where its keys begin: a rank past the last line stands in the row of the rank so many lines before, whose pixels are others
unfoldable pub keys_of : Plan → ℕ → ℕ
keys_of p line = cond (leb p.lines line) (line - p.lines) line * p.across

-- ---- row m of state e

unfoldable pub order_of : Plan → ℕ → ℕ → ℕ
order_of p e m = cond p.still e (e + m)

abbrev pub line_at : Plan → ℕ → ℕ → ℕ
line_at p e m = line_of p (order_of p e m)

abbrev pub row_lo : Plan → ℕ → ℕ → ℕ
row_lo p e m = first_in p (line_at p e m)

abbrev pub row_hi : Plan → ℕ → ℕ → ℕ
row_hi p e m = past_in p (line_at p e m)

abbrev pub row_at : Plan → ℕ → ℕ → ℕ
row_at p e m = keys_of p (line_at p e m)

-- numbers so small that no line or key is out of reach
unfoldable pub is_small : Plan → ℕ → ℕ → Bool
is_small p e m = ltb e 65536 && ltb m 65536 && ltb p.origin 65536 && leb p.across 1024

-- the row itself, an empty one where the numbers are no row's
unfoldable pub row_of : Plan → ℕ → ℕ → Row
row_of p e m = cond (is_small p e m) (record { lo = row_lo p e m; hi = row_hi p e m; at = row_at p e m }) (record { lo = 0; hi = 0; at = 0 })

-- how many rows the state has: a state past the last number has none
unfoldable pub rows_in : Plan → ℕ → ℕ
rows_in p e = cond p.still (cond (leb (e + 1) p.orders) p.rows 0) (min p.rows (p.orders - e))

-- how many steps the walks of this row have
abbrev pub steps_at : Plan → ℕ → ℕ → ℕ
steps_at p e m = cond p.ranked e m

-- are the walks of this row those of no steps?
unfoldable pub starts : Plan → ℕ → ℕ → Bool
starts p e m = cond p.ranked (eqb e 0) (eqb m 0)

-- may a walk start at pixel x of row m?
unfoldable pub starts_at : Plan → ℕ → ℕ → Bool
starts_at p m x = cond p.lone (eqb m 0 && eqb x p.pixel) true

-- ---- the room that things take

-- a held row has a zero before its pixels and room for some numbers after them
abbrev pub pitch_of : Plan → ℕ
pitch_of p = p.across + 16

abbrev pub block_of : Plan → ℕ
block_of p = p.planes * pitch_of p

-- the rows held of one number: those of this state, and of the last one where states are linked
unfoldable pub half_of : Plan → ℕ
half_of p = cond p.linked (block_of p + block_of p) (block_of p)

-- the same where `more` states are made at once with the first
abbrev pub half_with : Plan → ℕ → ℕ
half_with p more = half_of p + more * block_of p

abbrev pub row_size : Plan → ℕ
row_size p = p.planes * p.across

abbrev pub state_size : Plan → ℕ
state_size p = p.rows * row_size p

abbrev pub keys_size : Plan → ℕ
keys_size p = p.lines * p.across

-- ---- plans whose rows fit

-- the pixels that are held of the row before row m (m counted from one; there is none before row 0, and all of it is zeros), as pixel plus one
unfoldable pub seen_lo : Plan → ℕ → ℕ → ℕ
seen_lo p e zero = 0
seen_lo p e (suc m) = row_lo p e m

unfoldable pub seen_hi : Plan → ℕ → ℕ → ℕ
seen_hi p e zero = p.across + 1
seen_hi p e (suc m) = row_hi p e m + 1

-- a row whose pixels and keys exist
pub record RowFits (p : Plan) (e m : ℕ) : Type 0 where
  pub small : order_of p e m < 65536
  pub counted : p.back ≡ true → order_of p e m ≤ p.origin
  pub ordered : row_lo p e m ≤ row_hi p e m
  pub wide : row_hi p e m ≤ p.across
  pub keyed : row_at p e m + p.across ≤ keys_size p

-- a step that finds its number in row y, x pixels further on less one: what it reads is held
pub record Readable (p : Plan) (e m y x : ℕ) : Type 0 where
  pub near : x ≤ 2
  pub own : y ≡ 0 → (c : ℕ) → row_lo p e m ≤ c → c < row_hi p e m → (seen_lo p e m ≤ c + x) × (c + x ≤ seen_hi p e m)
  pub before : y ≡ 1 → (d : ℕ) → e ≡ suc d → (c : ℕ) → row_lo p e m ≤ c → c < row_hi p e m → (seen_lo p d m ≤ c + x) × (c + x ≤ seen_hi p d m)
  pub beside : y ≡ 2 → (d : ℕ) → e ≡ suc d → (c : ℕ) → row_lo p e m ≤ c → c < row_hi p e m → (seen_lo p d (suc m) ≤ c + x) × (c + x ≤ seen_hi p d (suc m))
  pub few : y ≤ 2
  pub unlinked : p.linked ≡ false → y ≡ 0

pub record Sound (p : Plan) : Type 0 where
  pub some_planes : 1 ≤ p.planes
  pub few_planes : p.planes ≤ 9
  pub some_lines : 1 ≤ p.lines
  pub few_lines : p.lines ≤ 1024
  pub some_across : 1 ≤ p.across
  pub few_across : p.across ≤ 1024
  pub few_pixels : p.lines * p.across ≤ 65536
  pub some_rows : 1 ≤ p.rows
  pub few_rows : p.rows ≤ 1024
  pub near_origin : p.origin < 65536
  pub fits : (e m : ℕ) → m < rows_in p e → e < 65536 → RowFits p e m
  -- the state before has all rows that a state has
  pub more : (e : ℕ) → rows_in p (suc e) ≤ rows_in p e
  pub first : (e m : ℕ) → m < rows_in p e → e < 65536 → Readable p e m p.reach.y0 p.reach.x0
  pub second : (e m : ℕ) → m < rows_in p e → e < 65536 → Readable p e m p.reach.y1 p.reach.x1
  pub third : (e m : ℕ) → m < rows_in p e → e < 65536 → Readable p e m p.reach.y2 p.reach.x2
