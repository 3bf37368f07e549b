-- A pixel whose number is high enough, picked in a state that stands in the work buffer. These definitions serve contracts inside the engine only: no
-- public contract cites them.
use Rattle.std.specs.Prelude.{ℕ, ◌+◌, ◌-◌, ◌*◌, ◌≤◌, ◌<◌, min, ◌≡◌, false, List, Option, MatchOption, ◌⊎◌, get_or}
use Rattle.plans.specs.Plans.{row_lo, row_hi, rows_in, steps_at, row_size}
use Rattle.plans.specs.declared.plan.Plan.{Plan}
use Rattle.walks.specs.declared.stand.Stand.{Stand}

-- pixel x of row m of state e has with j gaps a number that is at least t
pub record Tells (f : ℕ → ℕ → ℕ → ℕ → ℕ) (p : Plan) (j t e m x : ℕ) : Type 0 where
  pub row : m < rows_in p e
  pub low : row_lo p e m ≤ x
  pub high : x < row_hi p e m
  pub counts : t ≤ f e m j x

-- the numbers of the state that stands at a place of the work buffer, whichever it is
abbrev pub stored_at : List ℕ → ℕ → Plan → ℕ → ℕ → ℕ → ℕ → ℕ
stored_at work base p e m j x = get_or work (base + (m * row_size p + (j * p.across + x))) 0

-- s is such a pixel among some of them
pub record PickedAt (Among : ℕ → ℕ → ℕ → Type 0) (f : ℕ → ℕ → ℕ → ℕ → ℕ) (p : Plan) (j t : ℕ) (s : Stand) : Type 0 where
  pub is_gaps : s.gaps ≡ j
  pub on : s.pixel < p.across
  pub among : Among s.state s.row s.pixel
  pub tells : Tells f p j t s.state s.row s.pixel

-- r is such a pixel, where there is one
abbrev pub Picked : (ℕ → ℕ → ℕ → Type 0) → (ℕ → ℕ → ℕ → ℕ → ℕ) → Plan → (j t : ℕ) → Option Stand → Type 0
Picked Among f p j t r = MatchOption r ((e m x : ℕ) → Among e m x → Tells f p j t e m x → ⊥) (PickedAt Among f p j t)

-- r is the first place below n where f is at least t, if there is one
abbrev pub FirstOf : (ℕ → ℕ) → (n t : ℕ) → Option ℕ → Type 0
FirstOf f n t r = MatchOption r ((k : ℕ) → k < n → f k < t) (λ x. (x < n) × (t ≤ f x) × ((k : ℕ) → k < x → f k < t))

-- the pixels of some rows of a state
abbrev pub RowsFrom : ℕ → ℕ → ℕ → ℕ → ℕ → ℕ → Type 0
RowsFrom state first past e m x = (e ≡ state) × (first ≤ m) × (m < past)

-- the pixels of the walks of n steps: where there are no ranks, those of the one state
abbrev pub OfSteps : Plan → ℕ → ℕ → ℕ → ℕ → Type 0
OfSteps p n e m x = (steps_at p e m ≡ n) × (p.ranked ≡ false → e ≡ 0)

-- one pixel of a row
abbrev pub JustBefore : ℕ → ℕ → ℕ → ℕ → ℕ → ℕ → Type 0
JustBefore state row past e m x = (e ≡ state) × (m ≡ row) × (x + 1 ≡ past)

-- the pixel to which the step leads from a stand that finds its number in row y, X pixels on less one
pub record TapTo (s : Stand) (y X e m x : ℕ) : Type 0 where
  pub state : s.state ≡ e + min 1 y
  pub row : s.row ≡ m + min 1 (2 - y)
  pub pixel : s.pixel + X ≡ x + 1

-- the same for the three steps of a plan
abbrev pub StepTo : Plan → Stand → ℕ → ℕ → ℕ → Type 0
StepTo p s e m x =
    TapTo s p.reach.y0 p.reach.x0 e m x ⊎ (TapTo s p.reach.y1 p.reach.x1 e m x ⊎ TapTo s p.reach.y2 p.reach.x2 e m x)

-- a stand is in a row of the plan
pub record OnRow (p : Plan) (s : Stand) : Type 0 where
  pub state : s.state < 65536
  pub row : s.row < rows_in p s.state
  pub pixel : s.pixel < p.across
  pub gaps : s.gaps < p.planes
