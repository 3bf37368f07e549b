-- Laws of what a text asks for: each step of the definition, by what the calls answered.
use Prim.Native.Nat.{ℕ, ◌*◌}
use mathlib.Core.Path.{◌≡◌, refl, sym, ap, ◌∙◌}
use mathlib.Core.List.{List, ◌++◌}
use native.Mathlib.Omega.{arith}
use lib.IntN.{ℤ}
use lib.ListN.{length, drop}
use lib.Seq.{take_at}
use Rattle.std.specs.Prelude.{Ok}
use Rattle.plate.specs.Levels.{corrected_plate}
use Rattle.plate.specs.Refusals.{Verdict, Verdict.accepted, Verdict.refused, setting_checks, setting_verdict, correction_verdict}
use Rattle.plate.specs.declared.setting.Setting.{Setting}
use Rattle.survey_text.specs.Reading.{PlateText, reading}
use Rattle.survey_text.specs.Survey.{Survey, prepared, requested}
use Rattle.survey_text.specs.Answers.{request_told, levels_after}
use Rattle.survey_text.specs.Within.{with_lists, outcome}
use Rattle.survey_text.specs.declared.reading.Header.{Header}
use Rattle.survey_text.proofs.Verdicts.{accepted_same, steps_accepted, checks_passed}

-- a setting that is accepted is the one that was judged
pub same_setting : (s given : Setting) → accepted s ≡ setting_verdict given → s ≡ given
unfolding setting_verdict
same_setting s given e = checks_passed (setting_checks given) given s e

-- ---- a text that cannot be read, and one that was

pub unread : (text : List ℕ) (n p : ℕ) → refused n p ≡ reading text → requested text ≡ refused n p
unfolding requested
unread text n p e = rw (← e)

pub read : (text : List ℕ) (t : PlateText) → accepted t ≡ reading text → requested text ≡ prepared t
unfolding requested
read text t e = rw (← e)

-- ---- what was read is judged further

module _ (t : PlateText) where
  abbrev correction : Verdict Unit
  correction = correction_verdict t.width t.height t.readings t.words (t.width * t.height)

  abbrev survey : Setting → Survey
  survey s = record { width = t.width; height = t.height; setting = s; at = t.at; levels = corrected_plate t.readings t.words }

  -- the correction refuses
  pub not_corrected : (n p : ℕ) → refused n p ≡ correction → prepared t ≡ refused n p
  unfolding prepared
  not_corrected n p e = rw (← e)

  -- the setting is refused
  pub not_set : accepted tt ≡ correction → (n p : ℕ) → refused n p ≡ setting_verdict t.setting → prepared t ≡ refused n p
  unfolding prepared
  not_set c n p e = rw (← c, ← e)

  -- neither is
  pub passed : accepted tt ≡ correction → (s : Setting) → accepted s ≡ setting_verdict t.setting → prepared t ≡ accepted (survey s)
  unfolding prepared
  passed c s e = rw (← c, ← e)

  -- and the other way round: the correction was accepted, and the levels are those of the plate
  pub prepared_accepted : (v : Survey) → accepted v ≡ prepared t → (correction ≡ accepted tt) × (v ≡ survey t.setting)
  unfolding prepared
  prepared_accepted v e =
      let a = steps_accepted correction _ v e in
      let b = steps_accepted (setting_verdict t.setting) _ v a.2 in
      (sym a.1, accepted_same v _ b.2 ∙ ap survey (same_setting b.0 t.setting b.1))

-- what passed every check is accepted
outcome_accepted : {A : Type 0} (v : Verdict A) → accepted tt ≡ outcome v → (a : A) × (accepted a ≡ v)
outcome_accepted (accepted a) e = (a, refl)
outcome_accepted (refused n p) e = absurd (let z : ◌≡◌ {A = ℕ} 0 1 = cc in omega arith)

-- what is refused is refused by that
pub outcome_refused : {A : Type 0} (v : Verdict A) (n p : ℕ) → refused n p ≡ outcome v → v ≡ refused n p
outcome_refused (accepted a) n p e = absurd (let z : ◌≡◌ {A = ℕ} 0 1 = cc in omega arith)
outcome_refused (refused m q) n p e = cc

module _ (h : Header) (rs ws : List ℕ) (told : accepted tt ≡ outcome (prepared (with_lists h rs ws))) where
  -- its correction is not refused
  pub not_refused : {B : Type 0} (n p : ℕ) → refused n p ≡ correction_verdict h.width h.height rs ws (h.width * h.height) → B
  not_refused n p e =
      let j = outcome_accepted (prepared (with_lists h rs ws)) told in
      let a = prepared_accepted (with_lists h rs ws) j.0 j.1 in
      let f : ◌≡◌ {A = Verdict Unit} (refused n p) (accepted tt) = e ∙ a.0 in
      absurd (let z : ◌≡◌ {A = ℕ} 0 1 = cc in omega arith)

  -- the levels of an accepted request stand at the front of the buffer
  pub filled : (part old : List ℤ) → part ≡ corrected_plate rs ws → length part ≡ h.width * h.height → let n = h.width * h.height in
      (request_told (part ++ drop n old) (Ok h) ≡ prepared (with_lists h rs ws)) × (part ++ drop n old ≡ levels_after (prepared (with_lists h rs ws)) old)
  filled part old same long =
      let j = outcome_accepted (prepared (with_lists h rs ws)) told in
      let a = prepared_accepted (with_lists h rs ws) j.0 j.1 in
      let e : accepted (survey (with_lists h rs ws) h.setting) ≡ prepared (with_lists h rs ws) = ap accepted (sym a.1) ∙ j.1 in
      rw (← e, take_at part (drop (h.width * h.height) old) (h.width * h.height) long, same) (refl, rw (← same, long))
