-- The meter's words in the correction of a plate: a word of 16 bits read as a signed number is the correction again, and one of at most 8,192 in size is
-- within the bounds.
use Rattle.std.proofs.Common.{◌≡◌, ℕ, ◌-◌, ◌<◌, ◌≤◌, false, ◌||◌, List, [], ◌∷◌, length, ℤ, pos, negsuc, refl, ap, arith, le-ltb, lt-ltb}
use mathlib.Core.List.{zip_with}
use lib.Signed.{mag, lt_z}
use Rattle.basics.specs.Lists.{first_of}
use Rattle.plate.specs.Limits.{min_correction, max_correction}
use Rattle.plate.specs.Levels.{signed, corrected, corrected_plate}
use Rattle.plate.specs.Refusals.{Verdict.accepted, bad_correction}
use Rattle.plate.proofs.Verdicts.{accepted_clear}
use Rattle.meter.specs.Corrections.{difference_of, correction_of, word_of, figure_check, meter_verdict}
use Rattle.meter.specs.Correcting.{Given, added, Corrects}
use Rattle.meter.specs.declared.Meter.{Meter}
use Rattle.meter.proofs.Exact.{difference_small}
use Rattle.meter.proofs.Halves.{rounded_small}

-- the word of a correction stands for it
pub word_read : (v : ℤ) → mag v < 32768 → signed (word_of v) ≡ v
unfolding signed
word_read (pos n) h = rw (lt-ltb n 32768 h)
word_read (negsuc n) h = rw (le-ltb (65535 - n) 32768 (omega arith), lt-ltb (65535 - n) 65536 (omega arith)) (ap negsuc (omega arith))

-- and is within the bounds
within : (v : ℤ) → mag v ≤ 8192 → (lt_z v min_correction || lt_z max_correction v) ≡ false
within (pos n) h = le-ltb 16383 n (omega arith)
within (negsuc n) h = rw (le-ltb 16383 n (omega arith))

-- what the meter gives is small
given_small : (m : Meter) (w : ℕ) → meter_verdict m ≡ accepted w → (word_of (correction_of m) ≡ w) × (mag (correction_of m) ≤ 8192)
unfolding meter_verdict
given_small m w e =
    let c = accepted_clear (figure_check m.lamp ∷ figure_check m.dark ∷ []) (word_of (correction_of m)) w e in
    (c.0, rounded_small (difference_of m) (difference_small m c.1.0 c.1.1.0))

pub word_accepted : (m : Meter) (w : ℕ) → meter_verdict m ≡ accepted w → bad_correction w ≡ false
unfolding bad_correction
word_accepted m w e =
    let g = given_small m w e in
    rw (← g.0, word_read (correction_of m) (omega (arith, g.1))) (within (correction_of m) g.1)

pub word_adds : (m : Meter) (w : ℕ) → meter_verdict m ≡ accepted w → (reading : ℕ) → corrected reading w ≡ added reading m
unfolding corrected
word_adds m w e reading =
    let g = given_small m w e in
    rw (← g.0, word_read (correction_of m) (omega (arith, g.1)))

-- ---- a whole plate

none_refused : (figures : List Meter) (words : List ℕ) → Given figures words → length words ≤ first_of bad_correction words
unfolding first_of
none_refused [] [] g = omega arith
none_refused [] (w ∷ ws) g = absurd g
none_refused (m ∷ ms) [] g = absurd g
none_refused (m ∷ ms) (w ∷ ws) g = rw (word_accepted m w g.0) (omega (arith, none_refused ms ws g.1))

each_added : (figures : List Meter) (words : List ℕ) → Given figures words → (readings : List ℕ) → zip_with corrected readings words ≡ zip_with added readings figures
unfolding zip_with
each_added figures words g [] = refl
each_added [] [] g (r ∷ rs) = refl
each_added [] (w ∷ ws) g (r ∷ rs) = absurd g
each_added (m ∷ ms) [] g (r ∷ rs) = absurd g
each_added (m ∷ ms) (w ∷ ws) g (r ∷ rs) = rw (word_adds m w g.0 r, each_added ms ws g.1 rs)

pub meter_corrects : (figures : List Meter) (words : List ℕ) → Given figures words → Corrects figures words
unfolding corrected_plate
meter_corrects figures words g = record {
  passes = le-ltb (first_of bad_correction words) (length words) (none_refused figures words g);
  adds = each_added figures words g;
}
