-- What an accepted call promises of its two results: they are the filtered lowest and the filtered highest plate, which bound every plate between the
-- two. All that the law asks of the plates, the checks have found.
use Prim.Native.Nat.{ℕ, ◌*◌, ◌≤◌}
use mathlib.Core.Path.{◌≡◌, sym, ◌∙◌}
use mathlib.Core.List.{List}
use native.Mathlib.Omega.{arith}
use lib.ListN.{length}
use lib.IntN.{ℤ}
use Rattle.plate.specs.Opening.{filtered}
use Rattle.plate.specs.declared.setting.Setting.{Setting}
use Rattle.theory.specs.Between.{Bounds}
use Rattle.theory.proofs.Between.{filtered_bounds}
use Rattle.between.specs.Refusals.{first_above}
use Rattle.between.specs.Lengths.{ReadTo}
use Rattle.between.proofs.Scanning.{in_order, low_levels, high_levels}

pub promised :
    (s : Setting) (W H : ℕ) (low high lowResult highResult : List ℤ) → length low ≡ W * H → length high ≡ W * H → length low ≤ first_above low high →
    ReadTo (first_above low high) low high → lowResult ≡ filtered s W H low → highResult ≡ filtered s W H high → Bounds s W H low high lowResult highResult
promised s W H low high lowResult highResult sized_low sized_high none read low-filled high-filled =
    rw (low-filled, high-filled)
    (filtered_bounds s W H low high (low_levels low high none read) (high_levels low high none read (sized_low ∙ sym sized_high)) sized_low sized_high
    (λ x on. in_order low high none x (omega (arith, sized_low))))
