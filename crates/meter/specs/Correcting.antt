-- What the meter's words do in the correction of a plate (document 01, sections 1 and 5, with the bounds of document 02, N1): none is refused, and each
-- adds dark less lamp, rounded. proofs/Correcting.antt shows it.
use Rattle.std.specs.Prelude.{◌≡◌, ℕ, false, List, [], ◌∷◌, ℤ, pos, ◌+ℤ◌}
use mathlib.Core.List.{zip_with}
use Rattle.plate.specs.Levels.{corrected_plate}
use Rattle.plate.specs.Refusals.{Verdict.accepted, corrections_check}
use Rattle.meter.specs.Corrections.{correction_of, meter_verdict}
use Rattle.meter.specs.declared.Meter.{Meter}

-- the words that the meter gives for the figures at each place
abbrev pub Given : List Meter → List ℕ → Type 0
Given [] [] = Unit
Given [] (w ∷ ws) = ⊥
Given (m ∷ ms) [] = ⊥
Given (m ∷ ms) (w ∷ ws) = (meter_verdict m ≡ accepted w) × Given ms ws

-- a reading and the correction that the figures give
abbrev pub added : ℕ → Meter → ℤ
added reading m = pos reading +ℤ correction_of m

pub record Corrects (figures : List Meter) (words : List ℕ) : Type 0 where
  -- the table's row for corrections, 10, does not refuse
  pub passes : (corrections_check words).refuses ≡ false
  -- every plate of readings is corrected by what the figures give
  pub adds : (readings : List ℕ) → corrected_plate readings words ≡ zip_with added readings figures
