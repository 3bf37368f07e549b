-- What a walk counts for that ends at a pixel. These definitions serve contracts inside the engine only: no public contract cites them.
use Rattle.std.specs.Prelude.{ℕ, ◌+◌, ◌*◌, min, List, get_or}
use Rattle.plans.specs.Plans.{row_at, row_size}
use Rattle.plans.specs.declared.plan.Plan.{Plan}
use Rattle.theory.specs.BestWalks.{ended}

-- the number at a place of the work buffer, but no more than a path may end at the pixel whose key stands at another
abbrev pub ended_at : List ℕ → ℕ → ℕ → ℕ → ℕ
ended_at work slack key at = min (get_or work at 0) (ended slack (get_or work key 0))

-- the same of pixel x of row m of state e, which stands at a place of the work buffer, whichever it is
abbrev pub ended_in : List ℕ → ℕ → ℕ → Plan → ℕ → ℕ → ℕ → ℕ → ℕ
ended_in work slack base p e m j x = ended_at work slack (row_at p e m + x) (base + (m * row_size p + (j * p.across + x)))
