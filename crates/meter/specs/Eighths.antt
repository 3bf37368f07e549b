-- Floats that are whole eighths, for the contracts of private functions alone: what the float arithmetic is held to on the way.
use Rattle.std.specs.Prelude.{◌≡◌, suc, ◌≤◌, true, false, ℤ, pos, negsuc, unsigned_abs, Float, Option, Some, None}
use Rattle.std.specs.Float.{fin}
use Rattle.std.specs.Float.Ieee.{eq}
use Rattle.meter.specs.Corrections.{eighths_of, bad_figure}
use Rattle.meter.specs.declared.figure.Figure.{Figure}

-- the number z / 8, that is z × 2 ^ −3
abbrev pub eighths : ℤ → Float
eighths (pos n) = fin false n (negsuc 2)
eighths (negsuc n) = fin true (suc n) (negsuc 2)

-- x is z eighths, exactly; and that from −8,192 to 8,192
abbrev pub Exactly : Float → ℤ → Type 0
Exactly x z = eq x (eighths z) ≡ true

pub record IsEighths (x : Float) (z : ℤ) : Type 0 where
  pub equal : Exactly x z
  pub small : unsigned_abs z ≤ 65536

-- x is some whole count of eighths
pub record InEighths (x : Float) : Type 0 where
  pub count : ℤ
  pub counted : IsEighths x count

-- what a figure is resolved to: its mean, or none where it has a bad number
abbrev pub Resolves : Option Float → Figure → Type 0
Resolves (Some x) f = (bad_figure f ≡ false) × IsEighths x (pos (eighths_of f))
Resolves None f = bad_figure f ≡ true
