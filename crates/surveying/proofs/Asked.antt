-- What a text that is accepted says of the survey that it asks for: its size is good and small, and its setting is within the limits.
use Prim.Native.Nat.{ℕ, ◌*◌}
use native.Mathlib.Omega.{arith}
use mathlib.Core.Path.{◌≡◌, sym, subst, ◌∙◌}
use mathlib.Core.Bool.{true, false, not}
use mathlib.Core.Logic.{⊎_elim}
use mathlib.Core.List.{List, [], ◌∷◌}
use lib.IntN.{pos}
use lib.Dec.{eqb}
use lib.ListN.{length, get_or}
use borrow.Author.Tests.{ltb-false, eqb-true}
use Rattle.basics.specs.Lists.{first_of}
use Rattle.basics.proofs.Tests.{true_or_false}
use Rattle.basics.proofs.Lists.{none_passes, zip_with-length, zip_with_at}
use Rattle.plate.specs.Levels.{corrected, corrected_plate}
use Rattle.plate.specs.Refusals.{Verdict.accepted, Check, Clear, bad_reading, bad_correction, size_check, input_check, result_check, readings_check, corrections_check, correction_verdict, setting_verdict}
use Rattle.plate.proofs.Verdicts.{accepted_clear}
use Rattle.plate.specs.declared.setting.Setting.{Setting}
use Rattle.correction.proofs.CorrectedLevels.{corrected_fits}
use Rattle.survey_text.specs.Reading.{PlateText, reading}
use Rattle.survey_text.specs.Survey.{Survey, prepared, requested}
use Rattle.survey_text.proofs.Verdicts.{accepted_same, steps_accepted}
use Rattle.survey_text.proofs.Heads.{Sized, reading_sized}
use Rattle.survey_text.proofs.Requests.{same_setting}
use Rattle.surveying.specs.Steps.{SixteenBits, Ready}

not-false : (a b : ℕ) → not (eqb a b) ≡ false → a ≡ b
not-false a b e = ⊎_elim (λ t. eqb-true a b t) (λ t. absurd (let f : true ≡ false = rw t at e in let z : ◌≡◌ {A = ℕ} 0 1 = cc in omega arith)) (true_or_false (eqb a b))

-- ---- the corrected levels have 16 bits

module _ (W H : ℕ) (readings words : List ℕ) (room : ℕ) (u : Unit {0}) (passed : correction_verdict W H readings words room ≡ accepted u) where
  abbrev checks : List Check
  checks = size_check W H ∷ input_check (W * H) (length readings) ∷ input_check (W * H) (length words) ∷ result_check (W * H) room ∷ readings_check readings ∷ corrections_check words ∷ []

  clear : Clear checks
  unfolding correction_verdict
  clear = (accepted_clear checks tt u passed).1

  readings_many : length readings ≡ W * H
  readings_many = not-false (length readings) (W * H) clear.1.0

  words_many : length words ≡ W * H
  words_many = not-false (length words) (W * H) clear.1.1.0

  pub corrected_many : length (corrected_plate readings words) ≡ W * H
  unfolding corrected_plate
  corrected_many = zip_with-length corrected readings words (readings_many ∙ sym words_many) ∙ readings_many

  pub corrected_levels : SixteenBits (corrected_plate readings words)
  unfolding corrected_plate
  corrected_levels =
      let e = zip_with-length corrected readings words (readings_many ∙ sym words_many) in
      record {
        each = λ p h. let c = clear in
            let k = corrected_fits (get_or readings p 0) (get_or words p 0)
            (none_passes bad_reading readings (ltb-false (first_of bad_reading readings) (length readings) c.1.1.1.1.0) p 0 (omega arith))
            (none_passes bad_correction words (ltb-false (first_of bad_correction words) (length words) c.1.1.1.1.1.0) p 0 (omega (arith, readings_many, words_many))) in
            rw (zip_with_at corrected readings words p 0 0 (pos 0) (omega arith) (omega (arith, readings_many, words_many))) k.sfits;
      }

-- ---- the survey

made : (t : PlateText) (s : Setting) → accepted s ≡ setting_verdict t.setting → SixteenBits (corrected_plate t.readings t.words) →
    length (corrected_plate t.readings t.words) ≡ t.width * t.height → Sized t.width t.height →
    Ready (record { width = t.width; height = t.height; setting = s; at = t.at; levels = corrected_plate t.readings t.words })
made t s e l m z = let f : s ≡ t.setting = same_setting s t.setting e in
    record {
      fitting = record { good = z.good; small = z.small; whole = m };
      levels = l;
      valid = sym (subst (λ (u : Setting). accepted s ≡ setting_verdict u) (sym f) e);
    }

-- an accepted survey can be filtered and traced
pub requested_ready : (text : List ℕ) (v : Survey) → accepted v ≡ requested text → Ready v
unfolding requested prepared
requested_ready text v e =
    let a = steps_accepted (reading text) _ v e in
    let t = a.0 in
    let b = steps_accepted (correction_verdict t.width t.height t.readings t.words (t.width * t.height)) _ v a.2 in
    let c = steps_accepted (setting_verdict t.setting) _ v b.2 in
    let l = corrected_levels t.width t.height t.readings t.words (t.width * t.height) b.0 (sym b.1) in
    let m = corrected_many t.width t.height t.readings t.words (t.width * t.height) b.0 (sym b.1) in
    subst Ready (sym (accepted_same v _ c.2)) (made t c.0 c.1 l m (reading_sized text t a.1))
