-- `correct` runs its checks in the table's order, all before the first store: the first that refuses decides, and leaves the result as it was. Where
-- none does, all that `fill` asks for is known.
use Prim.Native.Nat.{◌*◌}
use native.Mathlib.Omega.{arith}
use mathlib.Core.Path.{◌≡◌, refl, sym, ◌∙◌}
use mathlib.Core.Bool.{false}
use mathlib.Core.List.{[], ◌∷◌}
use lib.ListN.{length}
use borrow.Author.Tests.{eqb-true, ltb-false, not-false}
use Rattle.std.proofs.lemmas.Result.{err_from_is_err_and}
use Rattle.plate.specs.Refusals.{Verdict, Clear, readings_check, corrections_check, bad_size, size_check, input_check, result_check, judged, correction_verdict}
use Rattle.plate.specs.Answers.{placed_check}
use Rattle.plate.specs.declared.refusal.Reason.TheVariants.{Reading, Correction}
use Rattle.plate.proofs.Sizes.{good_size}
use Rattle.plate.proofs.Verdicts.{check_passes, check_refuses, clear_accepted}
use Rattle.correction.proofs.CorrectionVerdicts.{row_of_readings, row_of_corrections}
use Rattle.correction.proofs.correct.Goals as goal
use Rattle.correction.proofs.correct.Goals.{In_ok-refuse_if, In_ok-refuse_if-4, After-find_faults-faults, In_ok-refuse_at, In_ok-refuse_at-2}

-- the size is good after the first check
good : (c : In_ok-refuse_if) → bad_size c.args.width c.args.height ≡ false
good c = sym c.bad_size.ensures ∙ check_passes _ c.in_ok-refuse_if.ensures

-- the checks of sizes have passed
sized : (c : In_ok-refuse_if-4) →
    let a = c.args in
    Clear (size_check a.width a.height ∷ input_check (a.width * a.height) (length a.readings.now) ∷ input_check (a.width * a.height) (length a.words.now) ∷ result_check (a.width * a.height) (length a.res.now) ∷ [])
sized c =
    (good (goal.at.In_ok-refuse_if-4 c).In_ok-refuse_if, (check_passes _ c.in_ok-refuse_if-2.ensures, (check_passes _ c.in_ok-refuse_if-3.ensures, (check_passes _ c.in_ok-refuse_if-4.ensures, tt))))

-- as many words as readings
same : (c : In_ok-refuse_if-4) → length c.args.readings.now ≡ length c.args.words.now
same c = let s = sized c in eqb-true _ _ (not-false _ s.1.0) ∙ sym (eqb-true _ _ (not-false _ s.1.1.0))

pub returns-in_err-refuse_if : goal.returns-in_err-refuse_if
unfolding correction_verdict
returns-in_err-refuse_if c =
    let p = err_from_is_err_and c.from_residual.result c.from_residual.ensures.1 in
    rw (p.1, p.2) (record { result_value = check_refuses _ [] _ _ tt (rw c.bad_size.ensures at c.in_err-refuse_if.ensures); res_after = refl })

pub overflow_mul-pixels : goal.overflow_mul-pixels
overflow_mul-pixels c = omega (arith, (good_size _ _ (good c)).few)

pub returns-in_err-refuse_if-2 : goal.returns-in_err-refuse_if-2
unfolding correction_verdict
returns-in_err-refuse_if-2 c =
    let p = err_from_is_err_and c.from_residual-in_err-refuse_if-2.result c.from_residual-in_err-refuse_if-2.ensures.1 in
    rw (p.1, p.2) (record { result_value = check_refuses _ (_ ∷ []) _ _ (good (goal.at.returns-in_err-refuse_if-2 c).In_ok-refuse_if, tt) c.in_err-refuse_if-2.ensures; res_after = refl })

pub returns-in_err-refuse_if-3 : goal.returns-in_err-refuse_if-3
unfolding correction_verdict
returns-in_err-refuse_if-3 c =
    let p = err_from_is_err_and c.from_residual-in_err-refuse_if-3.result c.from_residual-in_err-refuse_if-3.ensures.1 in
    rw (p.1, p.2) (record { result_value = check_refuses _ (_ ∷ _ ∷ []) _ _ (good (goal.at.returns-in_err-refuse_if-3 c).In_ok-refuse_if, (check_passes _ c.in_ok-refuse_if-2.ensures, tt)) c.in_err-refuse_if-3.ensures; res_after = refl })

pub returns-in_err-refuse_if-4 : goal.returns-in_err-refuse_if-4
unfolding correction_verdict
returns-in_err-refuse_if-4 c =
    let p = err_from_is_err_and c.from_residual-in_err-refuse_if-4.result c.from_residual-in_err-refuse_if-4.ensures.1 in
    rw (p.1, p.2) (record { result_value = check_refuses _ (_ ∷ _ ∷ _ ∷ []) _ _ (good (goal.at.returns-in_err-refuse_if-4 c).In_ok-refuse_if, (check_passes _ c.in_ok-refuse_if-2.ensures, (check_passes _ c.in_ok-refuse_if-3.ensures, tt))) c.in_err-refuse_if-4.ensures; res_after = refl })

-- the checks of what was found are the table's
readings_row : (c : After-find_faults-faults) → {p : Verdict (Unit {0})} → p ≡ judged (placed_check Reading c.find_faults-faults.result.reading ∷ []) tt → p ≡ judged (readings_check c.args.readings.now ∷ []) tt
readings_row c e = e ∙ row_of_readings _ _ (same (goal.at.After-find_faults-faults c).In_ok-refuse_if-4) _ c.find_faults-faults.ensures

corrections_row : (c : After-find_faults-faults) → {p : Verdict (Unit {0})} → p ≡ judged (placed_check Correction c.find_faults-faults.result.correction ∷ []) tt → p ≡ judged (corrections_check c.args.words.now ∷ []) tt
corrections_row c e = e ∙ row_of_corrections _ _ (same (goal.at.After-find_faults-faults c).In_ok-refuse_if-4) _ c.find_faults-faults.ensures

pub returns-in_err-refuse_at : goal.returns-in_err-refuse_at
unfolding correction_verdict
returns-in_err-refuse_at c =
    let p = err_from_is_err_and c.from_residual-in_err-refuse_at.result c.from_residual-in_err-refuse_at.ensures.1 in
    let clear = sized (goal.at.returns-in_err-refuse_at c).In_ok-refuse_if-4 in
    rw (p.1, p.2) (record { result_value = check_refuses _ (_ ∷ _ ∷ _ ∷ _ ∷ []) _ _ clear (readings_row (goal.at.returns-in_err-refuse_at c).After-find_faults-faults c.in_err-refuse_at.ensures); res_after = refl })

-- no reading is bad, and no correction
good_readings : (c : In_ok-refuse_at) → (readings_check c.args.readings.now).refuses ≡ false
good_readings c = check_passes _ (readings_row (goal.at.In_ok-refuse_at c).After-find_faults-faults c.in_ok-refuse_at.ensures)

good_corrections : (c : In_ok-refuse_at-2) → (corrections_check c.args.words.now).refuses ≡ false
good_corrections c = check_passes _ (corrections_row (goal.at.In_ok-refuse_at-2 c).After-find_faults-faults c.in_ok-refuse_at-2.ensures)

all_clear : (c : In_ok-refuse_at-2) →
    let a = c.args in
    Clear (size_check a.width a.height ∷ input_check (a.width * a.height) (length a.readings.now) ∷ input_check (a.width * a.height) (length a.words.now) ∷ result_check (a.width * a.height) (length a.res.now) ∷ readings_check a.readings.now ∷ corrections_check a.words.now ∷ [])
all_clear c =
    let s = sized (goal.at.In_ok-refuse_at-2 c).In_ok-refuse_if-4 in
    (s.0, (s.1.0, (s.1.1.0, (s.1.1.1.0, (good_readings (goal.at.In_ok-refuse_at-2 c).In_ok-refuse_at, (good_corrections c, tt))))))

pub returns-in_err-refuse_at-2 : goal.returns-in_err-refuse_at-2
unfolding correction_verdict
returns-in_err-refuse_at-2 c =
    let p = err_from_is_err_and c.from_residual-in_err-refuse_at-2.result c.from_residual-in_err-refuse_at-2.ensures.1 in
    let s = sized (goal.at.returns-in_err-refuse_at-2 c).In_ok-refuse_if-4 in
    let readings = good_readings (goal.at.returns-in_err-refuse_at-2 c).In_ok-refuse_at in
    rw (p.1, p.2) (record { result_value = check_refuses _ (_ ∷ _ ∷ _ ∷ _ ∷ _ ∷ []) _ _ (s.0, (s.1.0, (s.1.1.0, (s.1.1.1.0, (readings, tt))))) (corrections_row (goal.at.returns-in_err-refuse_at-2 c).After-find_faults-faults c.in_err-refuse_at-2.ensures); res_after = refl })

pub fill-requires-clause-readings_len : goal.fill-requires-clause-readings_len
fill-requires-clause-readings_len c = same (goal.at.fill-requires-clause-readings_len c).In_ok-refuse_if-4

pub fill-requires-clause-readings_len_2 : goal.fill-requires-clause-readings_len_2
fill-requires-clause-readings_len_2 c =
    let s = sized (goal.at.fill-requires-clause-readings_len_2 c).In_ok-refuse_if-4 in
    eqb-true _ _ (not-false _ s.1.0) ∙ sym (eqb-true _ _ (not-false _ s.1.1.1.0))

pub fill-requires-clause-readings_len_bound : goal.fill-requires-clause-readings_len_bound
fill-requires-clause-readings_len_bound c = ltb-false _ _ (good_readings (goal.at.fill-requires-clause-readings_len_bound c).In_ok-refuse_at)

pub fill-requires-clause-words_len_bound : goal.fill-requires-clause-words_len_bound
fill-requires-clause-words_len_bound c = ltb-false _ _ (good_corrections (goal.at.fill-requires-clause-words_len_bound c).In_ok-refuse_at-2)

pub returns : goal.returns
unfolding correction_verdict
returns c = record { result_value = sym (clear_accepted _ tt (all_clear (goal.at.returns c).In_ok-refuse_at-2)); res_after = c.fill.ensures }
