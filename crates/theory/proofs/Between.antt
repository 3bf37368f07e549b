-- Plates known between two levels (document 02, N7): every plate between a lowest and a highest one filters to something between what these filter to,
-- since filtering keeps the order, and the two reach their own ends, each at every pixel at once. One proof serves both modes and both values of `ends`.
use Prim.Native.Nat.{ℕ, ◌*◌, ◌<◌}
use mathlib.Core.Path.{◌≡◌, refl}
use mathlib.Core.List.{List}
use native.Mathlib.Omega.{arith}
use lib.ListN.{length}
use lib.IntN.{ℤ}
use lib.Signed.{◌≤ℤ◌, ≤ℤ_refl}
use Rattle.basics.proofs.Order.{mag_between}
use Rattle.plate.specs.Opening.{level_at, filtered}
use Rattle.plate.specs.declared.setting.Setting.{Setting}
use Rattle.theory.specs.Modes.{Levels}
use Rattle.theory.specs.Between.{LiesBetween, Bounds}
use Rattle.theory.proofs.Opening.{levels_within}
use Rattle.theory.proofs.Mirror.{filtered_length, filtered_monotone}

module _ (s : Setting) (W H : ℕ) (low high : List ℤ) (levels-low : Levels low) (levels-high : Levels high) where
  -- what lies between levels of 16 bits has 16 bits
  between_levels : (f : List ℤ) → LiesBetween W H low high f → Levels f
  between_levels f b =
      levels_within f
      (λ p h. let on : p < W * H = omega (arith, b.sized) in
      mag_between (b.not_below p on) (b.not_above p on) (levels-low.size p) (levels-high.size p))

  module _ (sized_low : length low ≡ W * H) (sized_high : length high ≡ W * H) (ordered : (x : ℕ) → x < W * H → level_at low x ≤ℤ level_at high x) where
    -- the two are between themselves
    low_between : LiesBetween W H low high low
    low_between = record { sized = sized_low; not_below = λ x on. ≤ℤ_refl (level_at low x); not_above = ordered }

    high_between : LiesBetween W H low high high
    high_between = record { sized = sized_high; not_below = ordered; not_above = λ x on. ≤ℤ_refl (level_at high x) }

    pub filtered_bounds : Bounds s W H low high (filtered s W H low) (filtered s W H high)
    filtered_bounds =
        record {
          within = λ f b.
              record {
                sized = filtered_length s W H f;
                not_below = filtered_monotone s W H low f sized_low b.sized levels-low (between_levels f b) b.not_below;
                not_above = filtered_monotone s W H f high b.sized sized_high (between_levels f b) levels-high b.not_above;
              };
          low_attained = λ x on. record { plate = low; between = low_between; filters_to = refl };
          high_attained = λ x on. record { plate = high; between = high_between; filters_to = refl };
        }
