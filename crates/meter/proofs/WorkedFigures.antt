-- The worked figures hold of the definitions themselves: the whole table is one test, which the checker computes.
use Rattle.std.proofs.Common.{T}
use lib.Ieee.{of_bits, eq}
use Rattle.plate.specs.Refusals.{judged}
use Rattle.meter.specs.Numbers.{is_quarters, quarters_of, bad_number}
use Rattle.meter.specs.Corrections.{meter_verdict}
use Rattle.meter.specs.WorkedFigures.{same_verdict, all_work, worked_figures}

pub worked_figures_hold : T (all_work worked_figures)
unfolding worked_figures all_work same_verdict judged meter_verdict is_quarters quarters_of bad_number of_bits eq
worked_figures_hold = tt
