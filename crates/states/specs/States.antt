-- A state is a function of row, plane and pixel. What it is to be made of the state before, and what the work buffer then holds. These definitions
-- serve contracts inside the engine only: no public contract cites them.
use Rattle.std.specs.Prelude.{ℕ, zero, suc, ◌+◌, ◌-◌, ◌*◌, ◌≤◌, ◌<◌, min, max, ◌≡◌, true, false, List, length, get_or}
use Rattle.states.specs.Runs.{Apart}
use Rattle.plans.specs.Plans.{rows_in, row_lo, row_hi, row_at, row_size, state_size, starts, starts_at}
use Rattle.states.specs.Rows.{gate, in_row}
use Rattle.plans.specs.declared.plan.Plan.{Plan}
use Rattle.states.specs.declared.state.Stretch.{Stretch}
use Rattle.theory.specs.BestWalks.{alone}

-- ---- where a step finds its numbers

-- the row before row m, at pixel X − 1; zeros where there is none
unfoldable pub row_before : Plan → ℕ → (ℕ → ℕ → ℕ → ℕ) → ℕ → ℕ → ℕ → ℕ
row_before p e f zero j X = 0
row_before p e f (suc m) j X = in_row (row_lo p e m) (row_hi p e m) (f m j) X

-- the same in the state before e
unfoldable pub last_before : Plan → ℕ → (ℕ → ℕ → ℕ → ℕ) → ℕ → ℕ → ℕ → ℕ
last_before p zero f m j X = 0
last_before p (suc e) f m j X = row_before p e f m j X

-- by the reach: the row before of this state (0), the row before of the last (1), the same row of the last (2)
unfoldable pub seen : Plan → ℕ → (last this : ℕ → ℕ → ℕ → ℕ) → ℕ → ℕ → ℕ → ℕ → ℕ
seen p e last this zero m j X = row_before p e this m j X
seen p e last this (suc zero) m j X = last_before p e last m j X
seen p e last this (suc (suc y)) m j X = last_before p e last (suc m) j X

-- the greatest number of a layer that the three steps lead on to pixel x of row m; layer j + 1 is plane j, and layer 0 is all zeros
unfoldable pub ahead : Plan → ℕ → (last this : ℕ → ℕ → ℕ → ℕ) → ℕ → ℕ → ℕ → ℕ
ahead p e last this zero m x = 0
ahead p e last this (suc j) m x =
    max
    (max (seen p e last this p.reach.y0 m j (x + p.reach.x0)) (seen p e last this p.reach.y1 m j (x + p.reach.x1)))
    (seen p e last this p.reach.y2 m j (x + p.reach.x2))

-- this is the state e, by the keys and the state before: its starting rows are the walks of no steps, the others come from the rows beside
pub record Grown (p : Plan) (e : ℕ) (keys : ℕ → ℕ) (last this : ℕ → ℕ → ℕ → ℕ) : Type 0 where
  pub first : (m j x : ℕ) → m < rows_in p e → j < p.planes → row_lo p e m ≤ x → x < row_hi p e m → starts p e m ≡ true →
      this m j x ≡ gate (starts_at p m x) (alone p.slack (keys (row_at p e m + x)) j)
  pub later : (m j x : ℕ) → m < rows_in p e → j < p.planes → row_lo p e m ≤ x → x < row_hi p e m → starts p e m ≡ false →
      this m j x ≡ max (min (keys (row_at p e m + x)) (ahead p e last this (suc j) m x)) (ahead p e last this j m x)

-- the states from first below past, each made of the one before
pub record Chain (p : Plan) (first past : ℕ) (keys : ℕ → ℕ) (f : ℕ → ℕ → ℕ → ℕ → ℕ) : Type 0 where
  pub grown : (e : ℕ) → first ≤ e → e < past → Grown p e keys (f (e - 1)) (f e)

-- how many states a stretch has besides its first
abbrev pub further_in : Stretch → ℕ
further_in s = s.past - 1 - s.first

-- ---- the work buffer

-- the state f stands at a place of the work buffer, its rows one after the other
pub record Holds (work : List ℕ) (at : ℕ) (p : Plan) (e : ℕ) (f : ℕ → ℕ → ℕ → ℕ) : Type 0 where
  pub is : (m j x : ℕ) → m < rows_in p e → j < p.planes → row_lo p e m ≤ x → x < row_hi p e m →
      get_or work (at + (m * row_size p + (j * p.across + x))) 0 ≡ f m j x

-- the state before e, where there is one and it matters
pub record LastHolds (work : List ℕ) (at : ℕ) (p : Plan) (e : ℕ) (f : ℕ → ℕ → ℕ → ℕ) : Type 0 where
  pub is : (d : ℕ) → p.linked ≡ true → e ≡ suc d → Holds work at p d f

-- the states from first below past are made of the one at `from`, whatever they are, and the last of them stands at `to`
pub record Advanced (p : Plan) (first past : ℕ) (old new : List ℕ) (from to : ℕ) : Type 0 where
  pub is : (f : ℕ → ℕ → ℕ → ℕ → ℕ) → LastHolds old from p first (f (first - 1)) → Chain p first past (λ q. get_or old q 0) f →
      Holds new to p (past - 1) (f (past - 1))
  pub apart : Apart old new to (to + state_size p)

-- best has risen to state e joined with another state, row by row: row m of the one and, counted from the last of `rows`, row m of the other
pub record StateJoined (p : Plan) (e : ℕ) (old new : List ℕ) (this other : ℕ → ℕ → ℕ → ℕ) (count : ℕ) : Type 0 where
  pub grown : (q : ℕ) → get_or old q 0 ≤ get_or new q 0
  pub reached : (m j x : ℕ) → m < count → j < p.planes → row_lo p e m ≤ x → x < row_hi p e m →
      min (this m j x) (other (p.rows - 1 - m) (p.planes - 1 - j) x) ≤ get_or new (row_at p e m + x) 0
  pub bounded : (b : ℕ → ℕ) →
      ((m j x : ℕ) → m < count → j < p.planes → row_lo p e m ≤ x → x < row_hi p e m →
      min (this m j x) (other (p.rows - 1 - m) (p.planes - 1 - j) x) ≤ b (row_at p e m + x)) →
      (q : ℕ) → get_or new q 0 ≤ max (get_or old q 0) (b q)
  pub len : length new ≡ length old

-- the other state stands at `ends`, with the same pixels row by row
pub record OtherHolds (work : List ℕ) (at : ℕ) (p : Plan) (e : ℕ) (f : ℕ → ℕ → ℕ → ℕ) : Type 0 where
  pub is : (m j x : ℕ) → m < p.rows → j < p.planes → row_lo p e m ≤ x → x < row_hi p e m →
      get_or work (at + ((p.rows - 1 - m) * row_size p + (j * p.across + x))) 0 ≡ f (p.rows - 1 - m) j x

-- the states from first below past are made of the one at `from`, and the last of them is joined with the one at `ends`, whatever they are
pub record Joined (p : Plan) (first past : ℕ) (work old new : List ℕ) (from ends : ℕ) : Type 0 where
  pub is : (f : ℕ → ℕ → ℕ → ℕ → ℕ) (other : ℕ → ℕ → ℕ → ℕ) → LastHolds work from p first (f (first - 1)) →
      Chain p first past (λ q. get_or work q 0) f → OtherHolds work ends p (past - 1) other → StateJoined p (past - 1) old new (f (past - 1)) other p.rows
