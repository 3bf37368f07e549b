-- `shift_of` meets its contract, direction by direction.
use native.Mathlib.Omega.{arith}
use Rattle.headings.proofs.Rooms.{shift_east, shift_south_east, shift_north}
use Rattle.headings.proofs.heading.Heading.shift_of.Goals as goal

pub returns-in-1 : goal.returns-in-1
returns-in-1 c = shift_east _ _ _ c.in-1.is

pub returns-in-3 : goal.returns-in-3
returns-in-3 c = shift_south_east _ _ _ c.in-3.is

pub returns-in_default : goal.returns-in_default
returns-in_default c = shift_north _ _ _ c.args.self.listed (λ e. omega (arith, e)) (λ e. omega (arith, e))
