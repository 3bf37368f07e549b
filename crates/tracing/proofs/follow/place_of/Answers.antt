-- `place_of` meets its contract: the key of the pixel stands in its row.
use Prim.Native.Nat.{◌*◌}
use mathlib.Core.Path.{◌≡◌, sym, ◌∙◌}
use native.Mathlib.Omega.{arith}
use Rattle.plans.proofs.RowForms.{row_told}
use Rattle.directions.proofs.DoorLaws.{keeps_if, place_there}
use Rattle.directions.proofs.TableLaws.{frame_told}
use Rattle.tracing.proofs.Scanned.{sound_of}
use Rattle.tracing.proofs.follow.place_of.Goals as goal

pub overflow_add-row : goal.overflow_add-row
overflow_add-row c =
    let a = c.args in
    omega (arith, (row_told _ _ _ _ c.requires.kept_on.1 c.requires.kept_on.2.state c.requires.kept_on.2.row c.row_of-row.ensures).2, (c.requires.kept_on.1.fits a.stand.state a.stand.row c.requires.kept_on.2.row c.requires.kept_on.2.state).keyed, c.requires.kept_on.2.pixel, c.requires.kept_on.1.few_pixels)

pub returns : goal.returns
returns c =
    let a = c.args in
    let at = (row_told _ _ _ _ c.requires.kept_on.1 c.requires.kept_on.2.state c.requires.kept_on.2.row c.row_of-row.ensures).2 in
    let area = (frame_told _ _ (sound_of c.args.scan).size _ _ (sound_of c.args.scan).known c.requires.frame).0.area in
    let size : a.sight.plan.lines * a.sight.plan.across ≡ a.sight.frame.lines * a.sight.frame.across = rw (c.requires.lines_value.0, c.requires.lines_value.1) in
    c.place_kept.ensures
    ∙ sym
    (place_there a.scan.width a.scan.height a.scan.index a.sight.plan.ranked _
    (keeps_if a.scan.width a.scan.height a.scan.index a.sight.plan.ranked (sound_of c.args.scan).size (sound_of c.args.scan).known
    (λ e. rw c.requires.frame at (c.requires.kept_on.0.slim e)))
    (omega (arith, at, area, size, (c.requires.kept_on.1.fits a.stand.state a.stand.row c.requires.kept_on.2.row c.requires.kept_on.2.state).keyed, c.requires.kept_on.2.pixel)))
    ∙ rw (c.requires.frame, at)
