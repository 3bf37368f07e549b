-- Which check of a call with two plates decides. `judge` is handed lengths that two buffers have in common, and comes to what checks 1 to 8 of both
-- come to; where it passes them, check 20 is left, and each of the two filters is accepted.
use Prim.Native.Nat.{ℕ, ◌*◌, ◌≤◌}
use mathlib.Core.Path.{◌≡◌, sym, ap, ◌∙◌}
use mathlib.Core.Bool.{false, cond, not}
use mathlib.Core.List.{List, [], ◌∷◌, ◌++◌}
use native.Mathlib.Nat.{mul-le-mul}
use native.Mathlib.Omega.{arith}
use lib.Dec.{eqb}
use lib.ListN.{length}
use lib.IntN.{ℤ}
use Rattle.std.proofs.Common.{Option, Some, None}
use borrow.Author.Tests.{eqb-true, not-false, lt-ltb, le-ltb}
use Rattle.plate.specs.RefusalNumbers.{refusal_input, refusal_result}
use Rattle.plate.specs.Refusals.{Verdict, Verdict.accepted, Verdict.refused, Check, judged, Clear, bad_size, size_check, setting_checks, input_check, result_check, work_check, filter_checks, filter_verdict}
use Rattle.plate.specs.Answers.{placed_check, call_verdict}
use Rattle.plate.specs.declared.setting.Setting.{Setting}
use Rattle.plate.specs.declared.call.Fills.TheVariants.{Result as Levels}
use Rattle.plate.specs.declared.call.Lent.{Lent}
use Rattle.plate.specs.declared.refusal.Reason.TheVariants.{Bounds}
use Rattle.plate.proofs.Sizes.{good_size}
use Rattle.plate.proofs.Verdicts.{clear_accepted, accepted_clear, clash, refused_first, passed_first, clear_both, clear_first, same_after}
use Rattle.between.specs.Lengths.{common_length, Finds}
use Rattle.between.specs.Refusals.{first_above, bounds_check, between_verdict}
use Rattle.between.proofs.CommonLengths.{two_as_one}

-- a good size has a pixel
some_pixel : (W H : ℕ) → bad_size W H ≡ false → 1 ≤ W * H
some_pixel W H good =
    let size = good_size W H good in
    omega (arith, mul-le-mul {n₁ = 1} {m₁ = 1} {n₂ = W} {m₂ = H} size.wide size.high)

-- check 20, of what the search has found
module _ (low high : List ℤ) where
  pub bounds_told : (found : Option ℕ) → Finds found low high → ◌≡◌ {A = Verdict Unit} (judged (placed_check Bounds found ∷ []) tt) (judged (bounds_check low high ∷ []) tt)
  unfolding judged
  bounds_told (Some x) f = rw (← f.0, lt-ltb x (length low) f.1)
  bounds_told None f = rw (le-ltb (first_above low high) (length low) f)

  pub none_above : (found : Option ℕ) → Finds found low high → ◌≡◌ {A = Verdict Unit} (accepted tt) (judged (placed_check Bounds found ∷ []) tt) → length low ≤ first_above low high
  unfolding judged
  none_above (Some x) f e = clash e
  none_above None f e = f

-- what is known once checks 1 to 8 have passed: check 20 decides, and each filter is accepted
pub record BothPassed (W H : ℕ) (s : Setting) (low high : List ℤ) (lowRoom highRoom work : ℕ) : Type 0 where
  pub sized_low : length low ≡ W * H
  pub sized_high : length high ≡ W * H
  pub decides : ◌≡◌ {A = Verdict Unit} (judged (bounds_check low high ∷ []) tt) (between_verdict W H s low high lowRoom highRoom work)
  pub filters_low : filter_verdict W H s (length low) lowRoom work ≡ accepted tt
  pub filters_high : filter_verdict W H s (length high) highRoom work ≡ accepted tt

module _ (W H : ℕ) (s : Setting) (low high : List ℤ) (lowRoom highRoom work : ℕ) where
  -- what `judge` is handed
  abbrev pub lent : Lent
  lent = record { input = common_length (length low) (length high); fills = Levels; filled = common_length lowRoom highRoom; work = work }

  abbrev size_and_setting : List Check
  size_and_setting = size_check W H ∷ setting_checks s

  abbrev buffers : List Check
  buffers =
      input_check (W * H) (length low)
      ∷ input_check (W * H) (length high)
      ∷ result_check (W * H) lowRoom
      ∷ result_check (W * H) highRoom
      ∷ work_check s.gaps (W * H) work
      ∷ []

  abbrev common : List Check
  common = input_check (W * H) lent.input ∷ result_check (W * H) lent.filled ∷ work_check s.gaps (W * H) work ∷ []

  common_same : 1 ≤ W * H → judged {A = Unit} buffers tt ≡ judged common tt
  unfolding judged
  common_same some =
      two_as_one (W * H) (length low) (length high) some (refused refusal_input 0) _
      ∙ ap (cond (not (eqb lent.input (W * H))) (refused refusal_input 0)) (two_as_one (W * H) lowRoom highRoom some (refused refusal_result 0) _)

  judge_same : judged {A = Unit} (size_and_setting ++ buffers) tt ≡ call_verdict W H s lent
  unfolding call_verdict
  judge_same = same_after tt size_and_setting buffers common (λ clear. common_same (some_pixel W H clear.0))

  pub judge_refuses : {n p : ℕ} → refused n p ≡ call_verdict W H s lent → refused n p ≡ between_verdict W H s low high lowRoom highRoom work
  unfolding between_verdict
  judge_refuses {n} {p} e = sym (refused_first tt tt (size_and_setting ++ buffers) (bounds_check low high ∷ []) n p (judge_same ∙ sym e))

  -- checks 1 to 8 have passed
  module _ (passed : accepted tt ≡ call_verdict W H s lent) where
    clear : Clear (size_and_setting ++ buffers)
    clear = (accepted_clear (size_and_setting ++ buffers) tt tt (judge_same ∙ sym passed)).1

    abbrev buffers_clear : Clear buffers
    buffers_clear = clear.1.1.1.1.1.1

    bounds_decide : between_verdict W H s low high lowRoom highRoom work ≡ judged (bounds_check low high ∷ []) tt
    unfolding between_verdict
    bounds_decide = passed_first tt (size_and_setting ++ buffers) (bounds_check low high ∷ []) clear

    filter_accepted : (plate room : ℕ) → not (eqb plate (W * H)) ≡ false → not (eqb room (W * H)) ≡ false → filter_verdict W H s plate room work ≡ accepted tt
    unfolding filter_verdict
    filter_accepted plate room input result =
        let lengths : List Check = input_check (W * H) plate ∷ result_check (W * H) room ∷ work_check s.gaps (W * H) work ∷ [] in
        let fit : Clear lengths = (input, (result, (buffers_clear.1.1.1.1.0, tt))) in
        clear_accepted (filter_checks W H s plate (W * H) room work) tt (clear_both size_and_setting lengths (clear_first size_and_setting buffers clear) fit)

    pub judge_passes : BothPassed W H s low high lowRoom highRoom work
    judge_passes =
        record {
          sized_low = eqb-true (length low) (W * H) (not-false _ buffers_clear.0);
          sized_high = eqb-true (length high) (W * H) (not-false _ buffers_clear.1.0);
          decides = sym bounds_decide;
          filters_low = filter_accepted (length low) lowRoom buffers_clear.0 buffers_clear.1.1.0;
          filters_high = filter_accepted (length high) highRoom buffers_clear.1.0 buffers_clear.1.1.1.0;
        }
