-- Document 01, section 2: the table of directions (document 01: ways) and their steps.
use Rattle.std.specs.Prelude.{ℕ, zero, suc, ◌/◌, ◌%◌, Bool, cond, List, [], ◌∷◌, map, eqb, get_or, ℤ, pos, negsuc}
use Rattle.basics.specs.Lists.{keep, first_of}

-- a step: the column change and the row change
pub record Step : Type 0 where
  pub column : ℤ
  pub row : ℤ

-- a direction: its bit, and its steps, numbered 0, 1, 2 in this order
pub record Direction : Type 0 where
  pub bit : ℕ
  pub steps : List Step

abbrev −1 : ℤ
−1 = negsuc 0

abbrev ±0 : ℤ
±0 = pos 0

abbrev +1 : ℤ
+1 = pos 1

abbrev by : ℤ → ℤ → Step
by c r = record { column = c; row = r }

abbrev direction : ℕ → Step → Step → Step → Direction
direction bit s₀ s₁ s₂ = record { bit = bit; steps = s₀ ∷ s₁ ∷ s₂ ∷ [] }

-- the table: north, east, north_east, south_east
unfoldable pub table : List Direction
table =
    direction 1 (by −1 −1) (by ±0 −1) (by +1 −1)
    ∷ direction 2 (by +1 −1) (by +1 ±0) (by +1 +1)
    ∷ direction 4 (by +1 ±0) (by +1 −1) (by ±0 −1)
    ∷ direction 8 (by +1 ±0) (by +1 +1) (by ±0 +1)
    ∷ []

-- the index in the table, counted from 0, of the direction with this bit; the table's length where there is none
unfoldable pub index_of : ℕ → ℕ
index_of bit = first_of (λ d. eqb d.bit bit) table

-- the numbered step of the direction that stands at this index of the table, counted from 0; no change where there is none
unfoldable pub step_at : ℕ → ℕ → Step
step_at index number = get_or (get_or (map (λ d. d.steps) table) index []) number (by ±0 ±0)

-- a step's column change (part 0) or row change
abbrev pub change_of : ℕ → Step → ℤ
change_of zero s = s.column
change_of (suc part) s = s.row

unfoldable pub steps_in : List Direction → ℕ → List Step
steps_in [] bit = []
steps_in (d ∷ ds) bit = cond (eqb d.bit bit) d.steps (steps_in ds bit)

-- the steps of the direction with this bit; none where the table has no such bit
unfoldable pub steps : ℕ → List Step
steps bit = steps_in table bit

-- a set of directions is the sum of its bits: is this bit one of them?
unfoldable pub member : ℕ → ℕ → Bool
member set bit = eqb (set / bit % 2) 1

-- the bits of the directions in a set, in the table's order
unfoldable pub chosen : ℕ → List ℕ
chosen set = keep (member set) (map (λ d. d.bit) table)
