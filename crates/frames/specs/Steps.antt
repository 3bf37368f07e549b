-- The steps of the table in coordinates plus one, so that the edges of the plate are natural numbers. These definitions serve contracts inside the
-- engine only: no public contract cites them. proofs/Bridge.antt ties them to the definitions of paths.
use Rattle.std.specs.Prelude.{ℕ, zero, suc, ◌-◌, Bool, true, false, cond, ℤ, pos, negsuc}
use Rattle.plate.specs.Directions.{Step, step_at}
use Rattle.theory.specs.Walks.{minus}

-- a change by −1, 0 or 1, plus one
unfoldable pub plus_one : ℤ → ℕ
plus_one (pos zero) = 1
plus_one (pos (suc zero)) = 2
plus_one (pos (suc (suc n))) = 0
plus_one (negsuc n) = 0

-- the change as the table has it, or negated; plus one
unfoldable pub biased : Bool → ℤ → ℕ
biased true d = 2 - plus_one d
biased false d = plus_one d

-- by how many columns, and rows, the numbered step goes, plus one
unfoldable pub columns_on : ℕ → ℕ → Bool → ℕ
columns_on index number back = biased back (step_at index number).column

unfoldable pub rows_on : ℕ → ℕ → Bool → ℕ
rows_on index number back = biased back (step_at index number).row

-- a number, or 0 where a test fails
abbrev pub gate : Bool → ℕ → ℕ
gate true v = v
gate false v = 0

-- a step as it stands, or negated
unfoldable pub toward : Bool → Step → Step
toward back s = cond back (minus s) s
