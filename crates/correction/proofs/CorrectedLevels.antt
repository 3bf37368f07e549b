-- Laws of the correction: a word within the bounds has a small correction, so reading plus correction has 16 bits. The bounds are those of plate/specs/Limits.antt, by name: others need no other proof as long as their sum fits.
use Prim.Native.Nat.{ℕ, ◌≤◌}
use mathlib.Core.Path.{◌≡◌}
use mathlib.Core.Bool.{false}
use native.Mathlib.Omega.{arith}
use lib.IntN.{pos}
use lib.Signed.{mag, lt_z}
use borrow.Author.Tests.{ltb-false}
use mir.Syntax.{w16}
use mir.Val.{SFits}
use Rattle.basics.proofs.Tests.{or_false_left, or_false_right}
use Rattle.basics.proofs.Integers.{mag-add, mag_within}
use Rattle.plate.specs.Limits.{max_reading, min_correction, max_correction}
use Rattle.plate.specs.Levels.{signed, corrected}
use Rattle.plate.specs.Refusals.{bad_reading, bad_correction}

correction_size : (word : ℕ) → bad_correction word ≡ false → mag (signed word) ≤ mag max_correction
unfolding bad_correction
correction_size word good =
    let low = lt_z (signed word) min_correction in
    let high = lt_z max_correction (signed word) in
    mag_within (mag max_correction) (signed word) (or_false_left low high good) (or_false_right low high good)

pub corrected_fits : (reading word : ℕ) → bad_reading reading ≡ false → bad_correction word ≡ false → SFits w16 (corrected reading word)
unfolding bad_reading corrected
corrected_fits reading word p q =
    record { sfits = omega (arith, ltb-false max_reading reading p, correction_size word q, mag-add (pos reading) (signed word)) }
