-- `place_of` meets its contract: the row and the pixel of a key's place are its two digits, and every pixel of the frame lies on the plate.
use mathlib.Core.Path.{refl}
use Rattle.directions.proofs.KeyRows.{place_found, place_on}
use Rattle.directions.proofs.kept.Kept.place_of.Goals as goal

pub returns : goal.returns
returns c =
    let a = c.args in
    let line = c.line_of-line.ensures in (
      place_found a.self.frame a.self.ranked a.row a.x _ c.requires.1 refl _ _ line.0 c.place.ensures,
      place_on a.self.frame a.self.ranked _ a.x _ _ a.self.kept_on line.1 c.requires.1 c.place.ensures refl,
    )
