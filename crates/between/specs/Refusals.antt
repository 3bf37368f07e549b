-- Document 02, N7: the checks of a call with a lowest and a highest plate. They are those of a filter, 6 for either plate and 7 for either result, and
-- after 8 the one that this call alone has, 20.
use Rattle.std.specs.Prelude.{ℕ, ◌*◌, Bool, List, [], ◌∷◌, ◌++◌, ltb, length, ℤ}
use Rattle.std.specs.Int.Signed.{lt_z}
use Rattle.basics.specs.Lists.{first_of, up_from}
use Rattle.plate.specs.RefusalNumbers.{refusal_bounds}
use Rattle.plate.specs.Opening.{level_at}
use Rattle.plate.specs.Refusals.{Verdict, Check, row, judged, size_check, setting_checks, input_check, result_check, work_check}
use Rattle.plate.specs.declared.setting.Setting.{Setting}

-- "a pixel whose lowest is above its highest"
unfoldable pub is_above : List ℤ → List ℤ → ℕ → Bool
is_above low high x = lt_z (level_at high x) (level_at low x)

-- ".. with the first such place"; the number of pixels where there is none
unfoldable pub first_above : List ℤ → List ℤ → ℕ
first_above low high = first_of (is_above low high) (up_from 0 (length low))

abbrev pub bounds_check : List ℤ → List ℤ → Check
bounds_check low high = row refusal_bounds (ltb (first_above low high) (length low)) (first_above low high)

-- 1 to 5, 18, 6 to 8, 20, with the two plates and the lengths of the two results and of work
abbrev pub between_checks : ℕ → ℕ → Setting → List ℤ → List ℤ → ℕ → ℕ → ℕ → List Check
between_checks W H s low high lowRoom highRoom work =
    size_check W H
    ∷ setting_checks s
    ++ (input_check (W * H) (length low)
    ∷ input_check (W * H) (length high)
    ∷ result_check (W * H) lowRoom
    ∷ result_check (W * H) highRoom
    ∷ work_check s.gaps (W * H) work
    ∷ bounds_check low high
    ∷ [])

unfoldable pub between_verdict : ℕ → ℕ → Setting → List ℤ → List ℤ → ℕ → ℕ → ℕ → Verdict Unit
between_verdict W H s low high lowRoom highRoom work = judged (between_checks W H s low high lowRoom highRoom work) tt
