-- `finish` makes one level a turn of what was gathered there; the levels further on are as they were.
use Prim.Native.Nat.{◌<◌}
use native.Mathlib.Omega.{arith}
use mathlib.Core.Path.{◌≡◌, refl, ◌∙◌}
use lib.ListN.{get_or}
use lib.IntN.{pos}
use lib.Signed.{mag}
use mir.Syntax.{w16}
use mir.Val.{to_z, of_z}
use mir.ValLaws.{to_z-of_z}
use Rattle.plate.specs.Opening.{level_at}
use Rattle.plate.proofs.ReadLevels.{read_level, level_small}
use Rattle.engine.proofs.FinishLaws.{finished_more}
use Rattle.engine.proofs.finish.finish.Goals as goal

pub loop-x-preserved : goal.loop-x-preserved
loop-x-preserved c =
    let a = c.args in
    let l = c.loop-x in
    let small-own : mag (get_or a.plate.now l.x (pos 0)) < 32768 = omega arith in
    let small-best : mag (get_or l.res l.x (pos 0)) < 32768 = omega arith in
    let own : to_z w16 (of_z w16 (get_or a.plate.now l.x (pos 0))) ≡ level_at a.plate.now l.x = read_level a.plate.now l.x small-own (omega arith) in
    let best : to_z w16 (of_z w16 (get_or l.res l.x (pos 0))) ≡ level_at a.res.now l.x = read_level l.res l.x small-best (omega arith) ∙ l.invariant.rest l.x (omega arith) in
    let e = to_z-of_z w16 c.finished.result (record { sfits = c.finished.type_inv }) ∙ (rw (own, best) at c.finished.ensures) in
    finished_more _ _ _ _ _ _ _ l.invariant (omega arith) (level_small a.plate.now l.x small-own (omega arith)) e refl
