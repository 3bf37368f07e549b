-- `rounded` is std's rounding, whose result is the float of the level itself (Halves.antt), and the level is small.
use Rattle.std.proofs.Common.{◌≡◌, ℤ, T, arith, w16}
use mir.ValLaws.{to_z-of_z}
use lib.Ieee.{binary32, add, of_int, of_bits, in_signed, to_signed}
use Rattle.meter.specs.Corrections.{rounded}
use Rattle.meter.specs.Eighths.{IsEighths}
use Rattle.meter.proofs.Cutting.{own_in_16_bits}
use Rattle.meter.proofs.Halves.{rounds_own, rounded_small}
use Rattle.meter.proofs.rounding.rounded.Goals as goal
use Rattle.meter.proofs.rounding.rounded.Goals.{After-round}

module _ (c : After-round) (z : ℤ) (h : IsEighths c.args.d z) where
  float_is : add binary32 c.round.result (of_bits binary32 0) ≡ of_int binary32 (rounded z)
  float_is = rw c.round.ensures (rounds_own c.args.d z h)

  level : T (in_signed binary32 15 (of_int binary32 (rounded z))) × (to_signed 15 (of_int binary32 (rounded z)) ≡ rounded z)
  level = own_in_16_bits (rounded z) (omega (arith, rounded_small z h.small))

pub float_to_int-result : goal.float_to_int-result
float_to_int-result c =
    let d = (goal.at.float_to_int-result c).After-round in
    rw (float_is d c.requires.count c.requires.counted) (level d c.requires.count c.requires.counted).0

pub returns : goal.returns
returns c z h =
    let d = (goal.at.returns c).After-round in
    rw (float_is d z h, (level d z h).1) (to_z-of_z w16 (rounded z) (record { sfits = omega (arith, rounded_small z h.small) }))
