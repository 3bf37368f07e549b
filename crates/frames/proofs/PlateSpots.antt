-- A number by its row and column plus one: what it is on the plate, and that it is 0 off it. Said of any numbers by their place.
use Prim.Native.Nat.{ℕ, ◌+◌, ◌-◌, ◌*◌, ◌≤◌, ◌<◌}
use mathlib.Core.Path.{◌≡◌, refl}
use mathlib.Core.Bool.{Bool, true, false}
use lib.Dec.{leb}
use borrow.Author.Tests.{le-leb, lt-leb}
use Rattle.frames.specs.Steps.{gate}

-- f at row Y − 1 and column X − 1 of a plate, 0 where that is off it
unfoldable pub plate_spot : (ℕ → ℕ) → ℕ → ℕ → ℕ → ℕ → ℕ
plate_spot f w h Y X = gate (leb 1 Y) (gate (leb Y h) (gate (leb 1 X) (gate (leb X w) (f ((Y - 1) * w + (X - 1))))))

pub gate_zero : (b : Bool) → gate b 0 ≡ 0
gate_zero true = refl
gate_zero false = refl

module _ (f : ℕ → ℕ) (w h Y X : ℕ) where
  pub spot_on : 1 ≤ Y → Y ≤ h → 1 ≤ X → X ≤ w → plate_spot f w h Y X ≡ f ((Y - 1) * w + (X - 1))
  unfolding plate_spot
  spot_on p q s t = simp (le-leb _ _ p, le-leb _ _ q, le-leb _ _ s, le-leb _ _ t)

  pub spot_above : Y < 1 → plate_spot f w h Y X ≡ 0
  unfolding plate_spot
  spot_above p = simp (lt-leb _ _ p)

  pub spot_below : h < Y → plate_spot f w h Y X ≡ 0
  unfolding plate_spot
  spot_below p = simp (lt-leb _ _ p, gate_zero)

  pub spot_left : X < 1 → plate_spot f w h Y X ≡ 0
  unfolding plate_spot
  spot_left p = simp (lt-leb _ _ p, gate_zero)

  pub spot_right : w < X → plate_spot f w h Y X ≡ 0
  unfolding plate_spot
  spot_right p = simp (lt-leb _ _ p, gate_zero)
