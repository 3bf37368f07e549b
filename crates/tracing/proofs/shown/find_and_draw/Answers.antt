-- `find_and_draw` meets its contract: the best path found has the filtered level, and drawn it shows all that demand 3 asks for.
use mathlib.Core.Path.{sym, ◌∙◌}
use native.Mathlib.Omega.{arith}
use lib.ListN.{length}
use mir.Syntax.{w16}
use mir.ValLaws.{to_z-of_z}
use Rattle.headings.proofs.Directions.{bit_there, usable_long}
use Rattle.tracing.proofs.Scanned.{sound_of}
use Rattle.tracing.proofs.Modes.{level_turned}
use Rattle.tracing.proofs.Finding.{scan_pixels, scan_room, scan_attained, scan_drawn}
use Rattle.tracing.proofs.Showing.{clear_long, clear_plate, clear_path, clear_on, clear_accepted_sizes, level_found, path_shown}
use Rattle.tracing.proofs.shown.find_and_draw.Goals as goal

pub find-found-requires : goal.find-found-requires
find-found-requires c =
    let a = c.args in record { accepted = clear_accepted_sizes a.asked.now.width a.asked.now.height a.asked.now.setting (length a.asked.now.plate.now) a.asked.now.x (length a.path.now) (length a.work.now) c.requires.clear; x_bound = clear_on a.asked.now.width a.asked.now.height a.asked.now.setting (length a.asked.now.plate.now) a.asked.now.x (length a.path.now) (length a.work.now) c.requires.clear; first_usable = c.requires.first_usable }

pub new-scan-requires : goal.new-scan-requires
new-scan-requires c =
    let a = c.args in
    let p = clear_accepted_sizes a.asked.now.width a.asked.now.height a.asked.now.setting (length a.asked.now.plate.now) a.asked.now.x (length a.path.now) (length a.work.now) c.requires.clear in
    let best = c.find-found.ensures.best_of in
    record {
      good_size = p.size;
      le_length = (p.long, p.short, p.few_gaps, best.listed);
      long = usable_long a.asked.now.width a.asked.now.height a.asked.now.setting c.find-found.result.index best.listed best.is_usable;
    }

pub draw-requires : goal.draw-requires
draw-requires c =
    let a = c.args in
    let long = clear_long a.asked.now.width a.asked.now.height a.asked.now.setting (length a.asked.now.plate.now) a.asked.now.x (length a.path.now) (length a.work.now) c.requires.clear in
    let n = scan_pixels c.new-scan.result a.asked.now.width a.asked.now.height a.asked.now.setting c.find-found.result.index (sound_of c.new-scan.result) c.new-scan.ensures long in
    let room = scan_room c.new-scan.result a.asked.now.width a.asked.now.height a.asked.now.setting c.find-found.result.index (sound_of c.new-scan.result) c.new-scan.ensures long _ (clear_accepted_sizes a.asked.now.width a.asked.now.height a.asked.now.setting (length a.asked.now.plate.now) a.asked.now.x (length a.path.now) (length a.work.now) c.requires.clear).work_size in record {
      plate_len = (clear_plate a.asked.now.width a.asked.now.height a.asked.now.setting (length a.asked.now.plate.now) a.asked.now.x (length a.path.now) (length a.work.now) c.requires.clear ∙ sym n, omega (arith, room, c.find-found.auto.work), omega (arith, clear_path a.asked.now.width a.asked.now.height a.asked.now.setting (length a.asked.now.plate.now) a.asked.now.x (length a.path.now) (length a.work.now) c.requires.clear, long, c.new-scan.ensures.is_steps));
      attained = scan_attained c.new-scan.result a.asked.now.width a.asked.now.height a.asked.now.setting c.find-found.result.index (sound_of c.new-scan.result) c.new-scan.ensures long a.asked.now.plate.now a.asked.now.x c.find-found.result.key c.find-found.result.before c.find-found.result.gaps
          c.find-found.ensures.best_of.attained;
    }

pub returns : goal.returns
returns c =
    let a = c.args in
    let long = clear_long a.asked.now.width a.asked.now.height a.asked.now.setting (length a.asked.now.plate.now) a.asked.now.x (length a.path.now) (length a.work.now) c.requires.clear in
    let size = (clear_accepted_sizes a.asked.now.width a.asked.now.height a.asked.now.setting (length a.asked.now.plate.now) a.asked.now.x (length a.path.now) (length a.work.now) c.requires.clear).size in
    let on = clear_on a.asked.now.width a.asked.now.height a.asked.now.setting (length a.asked.now.plate.now) a.asked.now.x (length a.path.now) (length a.work.now) c.requires.clear in
    let exact = clear_plate a.asked.now.width a.asked.now.height a.asked.now.setting (length a.asked.now.plate.now) a.asked.now.x (length a.path.now) (length a.work.now) c.requires.clear in
    let is-level = to_z-of_z w16 c.level_by.result (record { sfits = c.level_by.type_inv }) ∙ c.level_by.ensures ∙ level_turned a.asked.now.setting c.find-found.result.key in
    let path =
    scan_drawn c.new-scan.result a.asked.now.width a.asked.now.height a.asked.now.setting c.find-found.result.index (sound_of c.new-scan.result) c.new-scan.ensures long a.asked.now.plate.now a.asked.now.x c.find-found.result.key c.draw.new.path c.draw.ensures in record {
      level = is-level ∙ sym (level_found a.asked.now.width a.asked.now.height a.asked.now.setting a.asked.now.plate.now a.asked.now.x size on long c.find-found.result c.find-found.ensures.best_of exact c.find-found.ensures.levels);
      shows = rw (is-level, c.bit_of.ensures.0 ∙ bit_there c.find-found.result.index c.find-found.ensures.best_of.listed)
          (path_shown a.asked.now.width a.asked.now.height a.asked.now.setting a.asked.now.plate.now a.asked.now.x size on long c.find-found.result c.find-found.ensures.best_of exact c.find-found.ensures.levels c.draw.new.path path
          (length a.path.now) (length a.work.now) c.requires.clear);
    }
