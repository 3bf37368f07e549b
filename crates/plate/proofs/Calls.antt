-- Checks 1 to 8 of a call: which of them decide, and what holds once all have passed.
use Prim.Native.Nat.{ℕ, ◌+◌, ◌*◌, ◌≤◌, ◌<◌}
use mathlib.Core.Path.{◌≡◌, sym}
use mathlib.Core.Bool.{false}
use mathlib.Core.List.{List, [], ◌∷◌}
use native.Mathlib.Omega.{arith}
use lib.Dec.{eqb, ltb, leb}
use borrow.Author.Tests.{eqb-true, eqb-false, ltb-false, leb-false, not-false}
use Rattle.basics.proofs.Tests.{or_false_left, or_false_right}
use Rattle.plate.specs.Limits.{max_length, max_gaps}
use Rattle.plate.specs.Refusals.{Verdict.accepted, Verdict.refused, Check, judged, Clear, bad_size, bad_length, bad_gaps, size_check, setting_checks, setting_verdict, input_check, result_check, work_check, filter_checks, filter_verdict}
use Rattle.plate.specs.Calls.{Passed}
use Rattle.plate.specs.Answers.{wanted_for, call_verdict}
use Rattle.plate.specs.declared.setting.Setting.{Setting}
use Rattle.plate.specs.declared.call.Lent.{Lent}
use Rattle.plate.proofs.Sizes.{good_size}
use Rattle.plate.proofs.Verdicts.{accepted_clear, refused_first, passed_first}

module _ (W H : ℕ) (s : Setting) (lent : Lent) where
  abbrev wanted : ℕ
  wanted = wanted_for (W * H) s.length lent.fills

  -- the checks after those of the size and the setting
  abbrev pub buffers : List Check
  buffers = input_check (W * H) lent.input ∷ result_check wanted lent.filled ∷ work_check s.gaps (W * H) lent.work ∷ []

  -- those of the setting decide first
  pub setting_decides : {n p : ℕ} → bad_size W H ≡ false → refused n p ≡ setting_verdict s → refused n p ≡ call_verdict W H s lent
  unfolding call_verdict judged setting_verdict
  setting_decides {n} {p} good e = rw good (sym (refused_first s tt (setting_checks s) buffers n p (sym e)))

  pub buffers_decide : Clear (size_check W H ∷ setting_checks s) → call_verdict W H s lent ≡ judged buffers tt
  unfolding call_verdict
  buffers_decide clear = passed_first tt (size_check W H ∷ setting_checks s) buffers clear

-- what the checks of the setting say
pub setting_clear : (s s' : Setting) → accepted s' ≡ setting_verdict s → Clear (setting_checks s)
unfolding setting_verdict
setting_clear s s' e = (accepted_clear (setting_checks s) s s' (sym e)).1

module _ (s : Setting) (clear : Clear (setting_checks s)) where
  pub some_length : 1 ≤ s.length
  unfolding bad_length
  some_length = omega (arith, eqb-false s.length 0 (or_false_left (eqb s.length 0) (ltb max_length s.length) clear.0))

  pub short_length : s.length ≤ 1024
  unfolding bad_length
  short_length = ltb-false max_length s.length (or_false_right (eqb s.length 0) (ltb max_length s.length) clear.0)

  pub few_gaps : s.gaps ≤ 8
  unfolding bad_gaps
  few_gaps = ltb-false max_gaps s.gaps (or_false_left (ltb max_gaps s.gaps) (leb s.length s.gaps) clear.1.0)

  gaps_below : s.gaps < s.length
  unfolding bad_gaps
  gaps_below = leb-false s.length s.gaps (or_false_right (ltb max_gaps s.gaps) (leb s.length s.gaps) clear.1.0)

-- ---- what holds once all have passed

-- those of the setting among them
setting_passed : (W H : ℕ) (s : Setting) (plate wanted result work : ℕ) → Clear (filter_checks W H s plate wanted result work) → Clear (setting_checks s)
setting_passed W H s plate wanted result work clear =
    let setting = clear.1 in
    (setting.0, (setting.1.0, (setting.1.1.0, (setting.1.1.1.0, (setting.1.1.1.1.0, tt)))))

pub passed : (W H : ℕ) (s : Setting) (plate wanted result work : ℕ) → Clear (filter_checks W H s plate wanted result work) → Passed W H s plate wanted result work
passed W H s plate wanted result work clear =
    let buffers = clear.1.1.1.1.1.1 in
    let valid = setting_passed W H s plate wanted result work clear in
    record {
      size = good_size W H clear.0;
      long = some_length s valid;
      short = short_length s valid;
      few_gaps = few_gaps s valid;
      plate_size = eqb-true plate (W * H) (not-false _ buffers.0);
      result_size = eqb-true result wanted (not-false _ buffers.1.0);
      work_size = ltb-false work (4 * (s.gaps + 1) * (W * H)) buffers.1.1.0;
    }

pub call_clear : (W H : ℕ) (s : Setting) (lent : Lent) → accepted tt ≡ call_verdict W H s lent → Clear (filter_checks W H s lent.input (wanted_for (W * H) s.length lent.fills) lent.filled lent.work)
unfolding call_verdict
call_clear W H s lent e = (accepted_clear (filter_checks W H s lent.input (wanted_for (W * H) s.length lent.fills) lent.filled lent.work) tt tt (sym e)).1

pub call_passed : (W H : ℕ) (s : Setting) (lent : Lent) → accepted tt ≡ call_verdict W H s lent → Passed W H s lent.input (wanted_for (W * H) s.length lent.fills) lent.filled lent.work
call_passed W H s lent e = passed W H s lent.input (wanted_for (W * H) s.length lent.fills) lent.filled lent.work (call_clear W H s lent e)

-- a filter that was accepted has let k through only below L
pub filter_gaps_below : (W H : ℕ) (s : Setting) (plate result work : ℕ) → accepted tt ≡ filter_verdict W H s plate result work → s.gaps < s.length
unfolding filter_verdict
filter_gaps_below W H s plate result work e =
    let clear = (accepted_clear (filter_checks W H s plate (W * H) result work) tt tt (sym e)).1 in
    gaps_below s (setting_passed W H s plate (W * H) result work clear)
