-- `blend_row` meets its contract: the row is made, and `guard` makes it a held row.
use native.Mathlib.Omega.{arith}
use Rattle.states.proofs.PlaneLaws.{apart_then}
use Rattle.states.proofs.rows.blend_row.Goals as goal

pub blend_planes-requires : goal.blend_planes-requires
blend_planes-requires c =
    record { lo_le_hi = (c.requires.row_of.0.ordered, omega (arith, c.requires.row_of.0.wide, c.requires.across_in_bounds.0)); blend_fits = record { few = c.requires.row_of.0.few_planes; narrow = omega (arith, c.requires.row_of.0.few_across); room = omega (arith, c.requires.row_of.0.wide); taps = c.requires.row_of.1; small = c.requires.across_in_bounds.1 } }

pub returns : goal.returns
returns c =
    record { row_held = c.guard.ensures.by_index _ c.blend_planes.ensures.row_put; apart = apart_then _ _ _ _ _ c.blend_planes.ensures.apart c.guard.ensures.apart }
