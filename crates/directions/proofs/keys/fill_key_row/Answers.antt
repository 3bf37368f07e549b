-- `fill_key_row` meets its contract: the run of keys grows by one pixel a turn.
use Prim.Native.Nat.{◌<◌}
use mathlib.Core.Path.{refl}
use lib.ListN.{length}
use native.Mathlib.Omega.{arith}
use Rattle.frames.specs.Keys.{key_by}
use Rattle.frames.proofs.KeyLaws.{level_read}
use Rattle.states.proofs.RunLaws.{between_more}
use Rattle.directions.proofs.KeyRows.{pixel_within, key_found, small_more}
use Rattle.directions.proofs.keys.fill_key_row.Goals as goal

pub loop-x-preserved : goal.loop-x-preserved
loop-x-preserved c =
    let a = c.args in
    let there = c.place_of-p.ensures.0 in
    let on : c.place_of-p.result < length a.plate.now = omega (arith, c.place_of-p.ensures.1, c.requires.2) in
    let within = pixel_within a.row _ _ _ c.loop-x.x _ c.requires.0 refl c.requires.1 c.loop-x-test.true in
    let own = level_read (key_by a.mode) a.plate.now _ _ c.key_by-arg-1.given on c.key_by.ensures in
    let found = key_found a.kept.frame a.kept.ranked _ a.mode a.plate.now _ _ there own in (
      between_more _ _ _ _ _ _ _ c.loop-x.invariant.0 (omega arith) within found (omega arith),
      small_more _ _ _ _ _ _ _ c.loop-x.invariant.1 there c.key_by-arg-1.given on (omega arith),
    )
