-- `lay_keys` meets its contract: the keys find room, and stand where the sides of the first pixel read them, which is where those of every pixel do.
use mathlib.Core.Path.{◌∙◌}
use mathlib.Core.Bool.{true}
use native.Mathlib.Omega.{arith}
use lib.ListN.{length}
use Rattle.tracing.proofs.Scanned.{sound_of}
use Rattle.tracing.proofs.Sighting.{sight_lays, sight_keys_size, sight_room, all_laid}
use Rattle.tracing.proofs.sight.lay_keys.Goals as goal

pub returns : goal.returns
returns c =
    let a = c.args in
    let room = (sight_room a.scan (sound_of a.scan) true 0 c.sight_of-sight.result c.sight_of-sight.ensures (length a.work.now) c.requires.1).alone in
    let size = sight_keys_size a.scan (sound_of a.scan) true 0 c.sight_of-sight.result c.sight_of-sight.ensures in
    let fits = sight_lays a.scan (sound_of a.scan) true 0 c.sight_of-sight.result c.sight_of-sight.ensures (length a.plate.now) (length a.work.now) c.requires.0 (omega (arith, room, size, c.sight_of-sight.ensures.framed.area)) in
    all_laid a.scan (sound_of a.scan) true 0 c.sight_of-sight.result c.sight_of-sight.ensures a.plate.now _ _ c.requires.0
    (rw (c.lay_keys.ensures.value ∙ fits) at c.lay_keys.ensures.either)
