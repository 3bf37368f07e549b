-- Paths as walks: counted by steps (m steps, m + 1 pixels), over any function that gives the next places, so that one law serves both ways of
-- walking. These definitions serve contracts inside the engine
-- and the laws; no public contract cites them.
use Rattle.std.specs.Prelude.{ℕ, zero, suc, Bool, true, false, neg_ℤ}
use mathlib.Core.List.{List, [], ◌∷◌, map, Memᴰ}
use Rattle.plate.specs.Directions.{Step, steps}
use Rattle.plate.specs.Paths.{reached_by, next, last_after}

-- a walk of m steps from p, and its pixels in walking order
pub data Walk (next : ℕ → List ℕ) : ℕ → ℕ → List ℕ → Type 0 where
  stop : {p : ℕ} → Walk next zero p (p ∷ [])
  go : {m p q : ℕ} {ps : List ℕ} → Memᴰ q (next p) → Walk next m q ps → Walk next (suc m) p (p ∷ ps)

-- the last of its pixels, 0 where there is none
unfoldable pub last_of : List ℕ → ℕ
last_of [] = 0
last_of (p ∷ ps) = last_after p ps

-- a walk of m steps that has the pixels ps, from wherever it starts; and one that starts at p, over whatever pixels it goes
pub record WalkOf (next : ℕ → List ℕ) (m : ℕ) (ps : List ℕ) : Type 0 where
  pub start : ℕ
  pub walk : Walk next m start ps

pub record WalkFrom (next : ℕ → List ℕ) (m p : ℕ) : Type 0 where
  pub pixels : List ℕ
  pub walk : Walk next m p pixels

-- ---- walking back

-- a step with both changes negated
unfoldable pub minus : Step → Step
minus s = record { column = neg_ℤ s.column; row = neg_ℤ s.row }

-- the places from which one step of a direction leads to q
unfoldable pub back : ℕ → ℕ → ℕ → ℕ → List ℕ
back W H bit q = reached_by W H (map minus (steps bit)) q

-- the places to which one step of a direction leads, or from which it leads here
unfoldable pub around : Bool → ℕ → ℕ → ℕ → ℕ → List ℕ
around true W H bit p = back W H bit p
around false W H bit p = next W H bit p

abbrev pub opposite : Bool → Bool
opposite true = false
opposite false = true
