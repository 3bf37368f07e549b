-- The checks of the filter and of the trace, for a survey that passed reading, correction and setting: the filter is accepted, and of the trace's
-- checks those of the place and of the path are left.
use Prim.Native.Nat.{ℕ, ◌+◌, ◌*◌, ◌≤◌}
use mathlib.Core.Path.{◌≡◌, refl, sym, ◌∙◌}
use mathlib.Core.List.{[], ◌∷◌}
use native.Mathlib.Nat.{mul-le-mul_right}
use native.Mathlib.Omega.{arith}
use lib.Dec.{eqb, leb, ltb}
use lib.IntN.{ℤ}
use lib.ListN.{length}
use borrow.Author.Tests.{eq-eqb, le-ltb, ltb-false}
use Rattle.basics.proofs.Tests.{or_false_left, or_false_right}
use Rattle.plate.specs.Limits.{max_gaps, max_length}
use Rattle.plate.specs.Paths.{crossed}
use Rattle.plate.specs.Opening.{level_at, filtered}
use Rattle.plate.specs.Refusals.{Verdict, Verdict.accepted, judged, Clear, bad_length, bad_gaps, place_check, path_check, setting_checks, setting_verdict, filter_verdict, trace_verdict}
use Rattle.plate.specs.declared.setting.Setting.{Setting}
use Rattle.plate.proofs.Verdicts.{accepted_clear}
use Rattle.survey_text.specs.Survey.{Survey, traced}
use Rattle.surveying.specs.Steps.{max_work, Ready}

module _ (v : Survey) (ready : Ready v) where
  abbrev W : ℕ
  W = v.width

  abbrev H : ℕ
  H = v.height

  abbrev s : Setting
  s = v.setting

  setting_clear : Clear (setting_checks s)
  unfolding setting_verdict
  setting_clear = (accepted_clear (setting_checks s) s s ready.valid).1

  few_gaps : s.gaps ≤ 8
  unfolding bad_gaps
  few_gaps = ltb-false max_gaps s.gaps (or_false_left (ltb max_gaps s.gaps) (leb s.length s.gaps) setting_clear.1.0)

  -- the path buffer is enough for each length
  pub length_few : s.length ≤ max_length
  unfolding bad_length
  length_few = ltb-false max_length s.length (or_false_right (eqb s.length 0) (ltb max_length s.length) setting_clear.0)

  -- the work buffer for the largest plate is enough for each
  pub work_enough : 4 * (s.gaps + 1) * (W * H) ≤ max_work
  work_enough =
      let n = W * H in
      let m = 4 * (s.gaps + 1) in
      let a : m ≤ 36 = omega (arith, few_gaps) in
      omega (arith, mul-le-mul_right n a, ready.fitting.small)

  pub filter_accepted : (plate room work : ℕ) → plate ≡ W * H → room ≡ W * H → max_work ≤ work → filter_verdict W H s plate room work ≡ accepted tt
  unfolding filter_verdict judged
  filter_accepted plate room work e f l =
      let c = setting_clear in
      rw (
        ready.fitting.good,
        c.0,
        c.1.0,
        c.1.1.0,
        c.1.1.1.0,
        c.1.1.1.1.0,
        eq-eqb plate (W * H) e,
        eq-eqb room (W * H) f,
        le-ltb work (4 * (s.gaps + 1) * (W * H)) (omega (arith, work_enough)),
      )

  -- the trace's checks that are left
  abbrev left : Verdict ℤ
  left = judged (place_check (W * H) v.at ∷ path_check (crossed W H s.directions s.length v.at) ∷ []) (level_at (filtered s W H v.levels) v.at)

  trace_left : (room work : ℕ) → room ≡ s.length → 4 * (s.gaps + 1) * (W * H) ≤ work → trace_verdict W H s v.levels v.at room work ≡ left
  unfolding trace_verdict judged
  trace_left room work e l =
      let c = setting_clear in
      rw (
        ready.fitting.good,
        c.0,
        c.1.0,
        c.1.1.0,
        c.1.1.1.0,
        c.1.1.1.1.0,
        eq-eqb (length v.levels) (W * H) ready.fitting.whole,
        eq-eqb room s.length e,
        le-ltb work (4 * (s.gaps + 1) * (W * H)) l,
      )

  -- a larger work buffer does not change the verdict
  pub trace_judged : (room work : ℕ) → room ≡ s.length → max_work ≤ work → trace_verdict W H s v.levels v.at room work ≡ traced v
  trace_judged room work e l =
      trace_left room work e (omega (arith, work_enough)) ∙ sym (trace_left s.length (4 * (s.gaps + 1) * (W * H)) refl (omega arith))
