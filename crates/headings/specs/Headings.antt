-- A heading is a direction of the table, walked on or back, on a plate of a size. These definitions serve contracts inside the engine only: no
-- public contract cites them.
use Rattle.std.specs.Prelude.{ℕ, zero, suc, ◌-◌, ◌^◌, List, Option, Some, None}
use Rattle.plate.specs.Directions.{step_at}
use Rattle.plate.specs.Paths.{Reached, Reached.at, Reached.leaves, step_from}
use Rattle.headings.specs.declared.heading.Heading.{Heading}
use Rattle.theory.specs.Walks.{around}
use Rattle.theory.specs.Ranks.{steps_left}
use Rattle.frames.specs.Steps.{toward}

-- the direction's bit
abbrev pub bit_of : Heading → ℕ
bit_of h = 2 ^ h.index

-- the places that a step leads to from p
abbrev pub onward : Heading → ℕ → List ℕ
onward h p = around h.backwards h.width h.height (bit_of h) p

-- how many steps lead on from p
abbrev pub room_at : Heading → ℕ → ℕ
room_at h p = steps_left h.width h.height (bit_of h) h.backwards p

-- where the numbered step leads from p
unfoldable pub reached_at : Heading → ℕ → ℕ → Reached
reached_at h number p = step_from h.width h.height p (toward h.backwards (step_at h.index number))

-- the place reached; none where the step leaves
abbrev pub landed : Reached → Option ℕ
landed (at q) = Some q
landed leaves = None

-- what a row adds to the rank of its pixels, beside their column
unfoldable pub shift : ℕ → ℕ → ℕ → ℕ
shift zero h r = h - 1 - r
shift (suc zero) h r = 0
shift (suc (suc zero)) h r = h - 1 - r
shift (suc (suc (suc index))) h r = r
