-- `draw` meets its contract: the pixel is set, and the two trails from it make one walk.
use native.Mathlib.Omega.{arith}
use lib.ListN.{set, length-set}
use lib.Seq.{get_or-set_same}
use Rattle.tracing.proofs.Drawing.{drawn}
use Rattle.tracing.proofs.draw.draw.Goals as goal

pub returns : goal.returns
returns c =
    let a = c.args in
    let l = a.found.before in
    drawn a.scan.slack a.scan.width a.scan.height _ _ a.found.key a.scan.steps a.scan.setting.gaps a.x l a.found.gaps (set a.path.now l a.x) c.follow.new.path c.follow-2.new.path
    c.requires.attained.of_path c.requires.attained.few (omega (arith, length-set a.path.now l a.x, c.requires.plate_len)) (get_or-set_same a.path.now l a.x 0 (omega (arith, c.requires.plate_len, c.requires.attained.of_path)))
    c.follow.ensures.trail c.follow.ensures.steps_bound c.follow.ensures.ends_at c.follow-2.ensures.trail c.follow-2.ensures.steps_bound c.follow-2.ensures.ends_at
