-- `is_bad_correction` asks the two questions of `bad_correction`, of the signed correction.
use mathlib.Core.Path.{◌≡◌}
use mathlib.Core.Bool.{true, false}
use lib.Signed.{lt_z}
use mir.Syntax.{w32}
use mir.ValLaws.{to_z-of_z}
use Rattle.plate.specs.Limits.{min_correction}
use Rattle.plate.specs.Refusals.{bad_correction}
use Rattle.correction.proofs.faults.is_bad_correction.Goals as goal

pub returns-then-correction-lt-MIN_CORRECTION : goal.returns-then-correction-lt-MIN_CORRECTION
unfolding bad_correction
returns-then-correction-lt-MIN_CORRECTION c =
    let e = to_z-of_z w32 c.signed_correction-correction.result (record { sfits = c.signed_correction-correction.type_inv }) in
    let t : lt_z c.signed_correction-correction.result min_correction ≡ true = rw e at c.if-correction-lt-MIN_CORRECTION.true in
    rw (← c.signed_correction-correction.ensures, e, t)

pub returns-else-correction-lt-MIN_CORRECTION : goal.returns-else-correction-lt-MIN_CORRECTION
unfolding bad_correction
returns-else-correction-lt-MIN_CORRECTION c =
    let e = to_z-of_z w32 c.signed_correction-correction.result (record { sfits = c.signed_correction-correction.type_inv }) in
    let t : lt_z c.signed_correction-correction.result min_correction ≡ false = rw e at c.if-correction-lt-MIN_CORRECTION.false in
    rw (← c.signed_correction-correction.ensures, e, t)
