-- What calls take and hand over as numbers, for C and Rust, besides what plate/specs/Telling.antt has.
use Rattle.std.specs.Prelude.{ℕ, ◌+◌, ◌*◌, ◌≡◌, cond, ◌||◌, List, ltb, ℤ, Option, Some, None, Result, Ok, Err}
use Rattle.plate.specs.Limits.{max_gaps}
use Rattle.plate.specs.Refusals.{Verdict, Verdict.accepted, Verdict.refused, bad_size}
use Rattle.plate.specs.declared.setting.Setting.{Setting}
use Rattle.plate.specs.declared.answer.Trace.{Trace}
use Rattle.plate.specs.declared.refusal.Refusal.{Refusal}
use Rattle.plate.specs.declared.walker.Walker.{Walker}

-- a setting of five numbers
abbrev pub setting_of : ℕ → ℕ → ℕ → ℕ → ℕ → Setting
setting_of L k directions mode ends = record { length = L; gaps = k; directions = directions; mode = mode; ends = ends }

-- a lent work buffer: free after an accepted call, and as it was after a refusal
abbrev pub FreeAfter : {A X : Type 0} → Verdict A → X → X → Type 0
FreeAfter (accepted a) old new = Unit
FreeAfter (refused number place) old new = new ≡ old

-- a lent direction: the bit of the one that the trace shows, or what it was before a refusal
abbrev pub direction_after : Result Trace Refusal → ℕ → ℕ
direction_after (Ok trace) old = trace.direction
direction_after (Err r) old = old

-- the direction, the path and the work buffer lent to a trace: shown and spent, or as they were before a refusal
abbrev pub ShownAfter : Verdict ℤ → (ℕ → ℤ → List ℕ → Type 0) → ℕ → ℕ → List ℕ → List ℕ → List ℕ → List ℕ → Type 0
ShownAfter (accepted level) shown direction direction' path path' work work' = shown direction' level path'
ShownAfter (refused number place) shown direction direction' path path' work work' = (direction' ≡ direction) × (path' ≡ path) × (work' ≡ work)

-- a walker's step: 1 where it leads to a place, which is then written, 0 where it leaves
abbrev pub has_moved : Option Walker → ℕ
has_moved (Some w) = 1
has_moved None = 0

abbrev pub place_after : Option Walker → ℕ → ℕ
place_after (Some w) old = w.place
place_after None old = old

-- the length of the work buffer for a size and a gap count: 4 × (k + 1) × W × H; 0 where refusal 1 or the gap limit forbids them
unfoldable pub work_length : ℕ → ℕ → ℕ → ℕ
work_length W H k = cond (bad_size W H || ltb max_gaps k) 0 (4 * (k + 1) * (W * H))
