-- Document 01's example and the damaged texts have the answers of the table: the whole table is one equation, which the checker computes.
use mathlib.Core.Path.{◌≡◌, refl}
use mathlib.Core.List.{map, flat_map, zip_with}
use Rattle.basics.specs.Lists.{any, keep, first_of, up_from}
use Rattle.plate.specs.Levels.{signed, corrected, corrected_plate, mirror}
use Rattle.plate.specs.Directions.{table, steps_in, steps, member, chosen}
use Rattle.plate.specs.Paths.{places, place_at, step_from, arrivals, reached_by, next as nextPlaces, paths_from, paths_in, paths, through, last_after, ends_of, crossed}
use Rattle.plate.specs.Opening.{below, admits, kept, greatest, highest, opened_at, opened, closed, filtered}
use Rattle.plate.specs.Refusals.{judged, bad_size, bad_length, bad_gaps, bad_directions, bad_mode, bad_ends, bad_reading, bad_correction, setting_verdict, correction_verdict, trace_verdict}
use Rattle.text_lines.specs.Format.{is, is_digit, value_after, number, edition, parts, numbers, list, next_line, after, named}
use Rattle.survey_text.specs.Reading.{opening, size_judged, next, at_end, edition_line, size_lines, ends_line, setting_lines, row_lines, plate_lines, reading}
use Rattle.survey_text.specs.Printing.{digits, decimal, signed_decimal, parted, line, rows, out_line, out_text, level_line, path_line, trace_text, refusal_text}
use Rattle.survey_text.specs.Survey.{prepared, requested, survey_text, answer}
use Rattle.survey_text.specs.WorkedTexts.{worked_texts}

pub worked_texts_hold : map (λ w. answer w.text w.way w.path) worked_texts ≡ map (λ w. w.prints) worked_texts
unfolding worked_texts answer survey_text requested prepared refusal_text trace_text path_line level_line out_text out_line rows line parted signed_decimal decimal digits reading opening plate_lines row_lines setting_lines ends_line size_lines edition_line size_judged at_end next named after next_line list numbers parts edition number value_after is_digit is trace_verdict correction_verdict setting_verdict bad_correction bad_reading bad_ends bad_mode bad_directions bad_gaps bad_length bad_size judged filtered closed opened opened_at highest greatest kept admits below crossed ends_of last_after through paths paths_in paths_from nextPlaces reached_by arrivals step_from place_at places chosen member steps steps_in table mirror corrected_plate corrected signed up_from first_of keep any zip_with flat_map
worked_texts_hold = refl
