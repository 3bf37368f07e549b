-- `corrected_level` adds in 32 bits, and what it gives back has 16 (`corrected_fits`).
use mir.Syntax.{w16, w32}
use mir.ValLaws.{to_z-of_z}
use Rattle.basics.proofs.Integers.{widened}
use Rattle.plate.specs.Levels.{corrected}
use Rattle.correction.proofs.CorrectedLevels.{corrected_fits}
use Rattle.correction.proofs.fill.corrected_level.Goals as goal

pub overflow_add-result : goal.overflow_add-result
unfolding corrected
overflow_add-result c =
    let a = c.args in
    rw (to_z-of_z w32 c.from.result (record { sfits = c.from.type_inv }), c.from.ensures, to_z-of_z w32 c.signed_correction.result (record { sfits = c.signed_correction.type_inv }), c.signed_correction.ensures)
    (widened (corrected_fits a.reading a.word c.requires.reading_value c.requires.word_value))

pub overflow_cast-result : goal.overflow_cast-result
unfolding corrected
overflow_cast-result c =
    let a = c.args in
    let f = corrected_fits a.reading a.word c.requires.reading_value c.requires.word_value in
    rw (to_z-of_z w32 c.from.result (record { sfits = c.from.type_inv }), c.from.ensures, to_z-of_z w32 c.signed_correction.result (record { sfits = c.signed_correction.type_inv }), c.signed_correction.ensures, to_z-of_z w32 _ (widened f)) f

pub returns : goal.returns
unfolding corrected
returns c =
    let a = c.args in
    let f = corrected_fits a.reading a.word c.requires.reading_value c.requires.word_value in
    rw (to_z-of_z w32 c.from.result (record { sfits = c.from.type_inv }), c.from.ensures, to_z-of_z w32 c.signed_correction.result (record { sfits = c.signed_correction.type_inv }), c.signed_correction.ensures, to_z-of_z w32 _ (widened f))
    (to_z-of_z w16 _ f)
