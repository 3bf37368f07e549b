-- `fill` fills the result from the front: the invariant says that its first i levels are those of the corrected plate and the others are as they were.
use native.Mathlib.Omega.{arith}
use mathlib.Core.Path.{◌≡◌, refl, sym, ◌∙◌}
use lib.IntN.{pos}
use lib.ListN.{length-set, get_or}
use mir.Syntax.{w16}
use mir.Val.{to_z, of_z}
use mir.ValLaws.{to_z-of_z}
use Rattle.basics.proofs.Lists.{none_passes, zip_with-length, zip_with_at, filled_more, filled_all}
use Rattle.plate.specs.Levels.{corrected, corrected_plate}
use Rattle.plate.specs.Refusals.{bad_reading, bad_correction}
use Rattle.correction.proofs.fill.fill.Goals as goal

pub loop-i-init : goal.loop-i-init
loop-i-init c = (refl, refl)

pub corrected_level-requires : goal.corrected_level-requires
corrected_level-requires c =
    record { reading_value = none_passes bad_reading c.args.readings.now c.requires.readings_len_bound c.loop-i.i 0 (omega arith); word_value = none_passes bad_correction c.args.words.now c.requires.words_len_bound c.loop-i.i 0 (omega arith) }

pub loop-i-preserved : goal.loop-i-preserved
unfolding corrected_plate
loop-i-preserved c =
    let rs = c.args.readings.now in
    let ws = c.args.words.now in
    let i = c.loop-i.i in
    let n = zip_with-length corrected rs ws (omega arith) in
    let v : to_z w16 (of_z w16 c.corrected_level.result) ≡ get_or (corrected_plate rs ws) i (pos 0) =
    to_z-of_z w16 _ (record { sfits = c.corrected_level.type_inv }) ∙ c.corrected_level.ensures ∙ sym (zip_with_at corrected rs ws i 0 0 (pos 0) (omega arith) (omega arith)) in (
      simp length-set (omega arith),
      rw (v, c.loop-i.invariant.1) (filled_more (corrected_plate rs ws) c.args.res.now i (pos 0) (omega arith) (omega arith)),
    )

pub returns : goal.returns
unfolding corrected_plate
returns c =
    let rs = c.args.readings.now in
    let ws = c.args.words.now in
    let n = zip_with-length corrected rs ws (omega arith) in
    c.loop-i.invariant.1 ∙ filled_all (corrected_plate rs ws) c.args.res.now c.loop-i.i (omega arith) (omega arith)
