-- For the reader's inner contracts alone: what the functions that read a line answer, case by case, in the definitions' terms.
use Rattle.std.specs.Prelude.{ℕ, ◌+◌, ◌-◌, ◌≤◌, ◌<◌, Bool, true, false, Option, None, Some, List, [], ◌∷◌, take, drop}
use mathlib.Core.Option.{Option as Maybe, none, some}
use Rattle.text_lines.specs.Format.{number}
use Rattle.text_lines.specs.declared.value.Value.{Value}

-- a number
abbrev pub number_read : Option ℕ → Maybe ℕ
number_read (Some v) = some v
number_read None = none

-- what was found, or malformed
abbrev pub whether : {A : Type 0} → Bool → A → Maybe A
whether true a = some a
whether false a = none

-- what a list's reading leaves in the lent buffer: number by number it is filled from the front, as far as there are places, and up to the first part
-- that is no number
abbrev pub stored : Maybe ℕ → (ℕ → List ℕ) → List ℕ → List ℕ
stored (some v) more out = more v
stored none more out = out

unfoldable pub filled_by : List (List ℕ) → List ℕ → List ℕ
filled_by [] out = out
filled_by (p ∷ ps) [] = []
filled_by (p ∷ ps) (x ∷ out) = stored (number p) (λ v. v ∷ filled_by ps out) (x ∷ out)

-- where a named line's value stands, and where its newline is
abbrev pub value_read : List ℕ → Option Value → Maybe (List ℕ × List ℕ)
value_read text (Some v) = some (take (v.end - v.from) (drop v.from text), drop (v.end + 1) text)
value_read text None = none

-- the value and its newline lie behind this place, in a text of n bytes
abbrev pub Inside : ℕ → ℕ → Option Value → Type 0
Inside at n (Some v) = (at ≤ v.end) × (v.from ≤ v.end) × (v.end < n)
Inside at n None = Unit
