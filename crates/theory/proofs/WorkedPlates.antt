-- The worked plates of documents 01 and 02 hold of the definitions themselves: the whole table is one test, which the checker computes.
use mathlib.Core.List.{flat_map}
use lib.Dec.{T}
use Rattle.basics.specs.Lists.{any, keep, up_from}
use Rattle.plate.specs.Levels.{mirror}
use Rattle.plate.specs.Directions.{table, steps_in, steps, member, chosen}
use Rattle.plate.specs.Paths.{places, place_at, step_from, arrivals, reached_by, next, paths_from, paths_in, paths, through, last_after, ends_of, crossed}
use Rattle.plate.specs.Opening.{below, admits, kept, greatest, highest, opened_at, opened, closed, filtered}
use Rattle.plate.specs.Refusals.{judged, bad_size, bad_length, bad_gaps, bad_directions, bad_mode, bad_ends, trace_verdict}
use Rattle.theory.specs.WorkedPlates.{worked_plates, same_level, same, refused_with, holds, all_hold}

pub worked_plates_hold : T (all_hold worked_plates)
unfolding worked_plates same_level same refused_with holds all_hold flat_map any keep up_from mirror table steps_in steps member chosen places place_at step_from arrivals reached_by next paths_from paths_in paths through last_after ends_of crossed below admits kept greatest highest opened_at opened closed filtered trace_verdict judged bad_size bad_length bad_gaps bad_directions bad_mode bad_ends
worked_plates_hold = tt
