-- The search for a pixel whose lowest level is above its highest: one place further, and its end, found or not; and what has been read on the way. Where
-- nothing is found, the two plates are in order.
use Prim.Native.Nat.{ℕ, ◌+◌, ◌≤◌, ◌<◌}
use mathlib.Core.Path.{◌≡◌, sym, ◌∙◌}
use mathlib.Core.Bool.{Bool, true, false}
use mathlib.Core.List.{List}
use native.Mathlib.Omega.{arith}
use lib.ListN.{length, get_or}
use lib.IntN.{ℤ, pos}
use lib.Signed.{mag, ◌≤ℤ◌, lt_z, lt_z_no}
use mir.Syntax.{w16}
use mir.Val.{to_z, of_z}
use Rattle.basics.specs.Lists.{first_of, up_from}
use Rattle.basics.proofs.Numbers.{below_more}
use Rattle.basics.proofs.Lists.{Passed, passed_none, passed_miss, passed_hit, passed_end, none_passes, up_from-length, up_from_at}
use Rattle.plate.specs.Opening.{level_at}
use Rattle.theory.specs.Modes.{Levels}
use Rattle.theory.proofs.Opening.{levels_within}
use Rattle.plate.proofs.ReadLevels.{read_level, level_small}
use Rattle.between.specs.Refusals.{is_above, first_above}
use Rattle.between.specs.Lengths.{ReadTo}

module _ (low high : List ℤ) where
  abbrev places : List ℕ
  places = up_from 0 (length low)

  -- the places before x have been passed
  abbrev pub PassedTo : ℕ → Type 0
  PassedTo x = Passed (is_above low high) places x

  tested : (x : ℕ) → x < length low → is_above low high (get_or places x 0) ≡ lt_z (level_at high x) (level_at low x)
  unfolding is_above
  tested x h = let e : get_or places x 0 ≡ x = omega (arith, up_from_at 0 (length low) x 0 h) in rw e

  on : {x : ℕ} → x < length low → x < length places
  on h = omega (arith, up_from-length 0 (length low))

  pub none_passed : PassedTo 0
  none_passed = passed_none (is_above low high) places

  pub one_passed : (x : ℕ) → x < length low → lt_z (level_at high x) (level_at low x) ≡ false → PassedTo x → PassedTo (x + 1)
  one_passed x h e = passed_miss (is_above low high) places x 0 (on h) (tested x h ∙ e)

  pub found : (x : ℕ) → x < length low → lt_z (level_at high x) (level_at low x) ≡ true → PassedTo x → x ≡ first_above low high
  unfolding first_above
  found x h e passed = sym (passed_hit (is_above low high) places x 0 (on h) (tested x h ∙ e) passed)

  pub all_passed : (x : ℕ) → length low ≤ x → PassedTo x → x ≡ first_above low high
  unfolding first_above
  all_passed x h passed = sym (passed_end (is_above low high) places x (omega (arith, up_from-length 0 (length low))) passed)

  -- ---- what has been read

  -- two elements compared, as the code reads them from their bits
  module _ (x : ℕ) (l : mag (get_or low x (pos 0)) < 32768) (h : mag (get_or high x (pos 0)) < 32768) (on-low : x < length low) (on-high : x < length high) where
    pub compared : (b : Bool) → lt_z (to_z w16 (of_z w16 (get_or high x (pos 0)))) (to_z w16 (of_z w16 (get_or low x (pos 0)))) ≡ b → lt_z (level_at high x) (level_at low x) ≡ b
    compared b e = rw (read_level high x h on-high, read_level low x l on-low) at e

    pub one_read : ReadTo x low high → ReadTo (x + 1) low high
    one_read r =
        record {
          small_low = below_more (λ (y : ℕ). mag (level_at low y) < 32768) x (level_small low x l on-low) r.small_low;
          small_high = below_more (λ (y : ℕ). mag (level_at high y) < 32768) x (level_small high x h on-high) r.small_high;
        }

  pub none_read : ReadTo 0 low high
  none_read = record { small_low = λ x h. absurd (omega arith); small_high = λ x h. absurd (omega arith) }

  -- ---- nothing was found

  module _ (none : length low ≤ first_above low high) where
    pub in_order : (x : ℕ) → x < length low → level_at low x ≤ℤ level_at high x
    unfolding first_above
    in_order x h =
        let all : length places ≤ first_of (is_above low high) places = omega (arith, none, up_from-length 0 (length low)) in
        let e : lt_z (level_at high x) (level_at low x) ≡ false = sym (tested x h) ∙ none_passes (is_above low high) places all x 0 (on h) in
        lt_z_no (rw e tt)

    module _ (read : ReadTo (first_above low high) low high) where
      pub low_levels : Levels low
      low_levels = levels_within low (λ x h. read.small_low x (omega (arith, none)))

      pub high_levels : length low ≡ length high → Levels high
      high_levels same = levels_within high (λ x h. read.small_high x (omega (arith, none)))
