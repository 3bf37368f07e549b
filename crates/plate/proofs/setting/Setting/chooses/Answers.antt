-- `chooses` asks the two questions of its clause: an index below 4, and whether its direction is a member.
use mathlib.Core.Path.{refl}
use borrow.Author.Tests.{lt-ltb}
use Rattle.plate.specs.Directions.{member}
use Rattle.plate.proofs.setting.Setting.chooses.Goals as goal

pub returns-then-index-lt-DIRECTIONS : goal.returns-then-index-lt-DIRECTIONS
unfolding member
returns-then-index-lt-DIRECTIONS c = rw (lt-ltb c.args.index 4 c.if-index-lt-DIRECTIONS.true) refl
