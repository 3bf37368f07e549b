-- What the walk's faults say of the table's rows for readings and corrections, once both lists have one length: the check of what was found is
-- the row itself.
use Prim.Native.Nat.{ℕ, min}
use mathlib.Core.Path.{◌≡◌, ap, ◌∙◌}
use mathlib.Core.Bool.{Bool}
use mathlib.Core.List.{List, [], ◌∷◌}
use mathlib.Core.Logic.{⊎_elim}
use lib.Dec.{ltb}
use lib.ListN.{length}
use Rattle.basics.specs.Lists.{first_of}
use Rattle.basics.proofs.Tests.{true_or_false}
use Rattle.plate.specs.Refusals.{Verdict, row, judged, bad_reading, bad_correction, readings_check, corrections_check}
use Rattle.plate.specs.Answers.{number_by, placed_check}
use Rattle.plate.specs.declared.refusal.Reason.{Reason}
use Rattle.plate.specs.declared.refusal.Reason.TheVariants.{Reading, Correction}
use Rattle.correction.specs.Faults.{first_bad, faults_after}
use Rattle.correction.specs.declared.faults.Faults.{Faults}
use Rattle.correction.proofs.FirstFaults.{all_readings, all_corrections}

same_row :
    (reason : Reason) (bad : ℕ → Bool) (xs : List ℕ) →
    ◌≡◌ {A = Verdict (Unit {0})} (judged (placed_check reason (first_bad bad xs) ∷ []) tt) (judged (row (number_by reason) (ltb (first_of bad xs) (length xs)) (first_of bad xs) ∷ []) tt)
unfolding first_bad judged
same_row reason bad xs = ⊎_elim (λ t. rw t) (λ t. rw t) (true_or_false (ltb (first_of bad xs) (length xs)))

module _ (readings words : List ℕ) (same : length readings ≡ length words) (faults : Faults) (found : faults ≡ faults_after (min (length readings) (length words)) readings words) where
  pub row_of_readings : ◌≡◌ {A = Verdict (Unit {0})} (judged (placed_check Reading faults.reading ∷ []) tt) (judged (readings_check readings ∷ []) tt)
  row_of_readings = rw (ap (λ (g : Faults). g.reading) found ∙ all_readings readings words same) (same_row Reading bad_reading readings)

  pub row_of_corrections : ◌≡◌ {A = Verdict (Unit {0})} (judged (placed_check Correction faults.correction ∷ []) tt) (judged (corrections_check words ∷ []) tt)
  row_of_corrections = rw (ap (λ (g : Faults). g.correction) found ∙ all_corrections readings words same) (same_row Correction bad_correction words)
