-- `mirrored` cannot wrap: −1 − v has the size of v, at both ends of the range too.
use mir.Syntax.{w16}
use mir.ValLaws.{to_z-of_z}
use Rattle.plate.specs.Levels.{mirror}
use Rattle.plate.proofs.Keys.{mirror_fits}
use Rattle.plate.proofs.level.mirrored.Goals as goal

pub overflow_sub-result : goal.overflow_sub-result
unfolding mirror
overflow_sub-result c = rw (to_z-of_z w16 c.args.v c.ranges.v) (mirror_fits c.args.v c.ranges.v)

pub returns : goal.returns
unfolding mirror
returns c = rw (to_z-of_z w16 c.args.v c.ranges.v) (to_z-of_z w16 _ (mirror_fits c.args.v c.ranges.v))
