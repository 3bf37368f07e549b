-- `find_in` meets its contract: both sides are noted, and the notes tell every term of the direction.
use mathlib.Core.Path.{refl, ◌∙◌}
use native.Mathlib.Omega.{arith}
use Rattle.tracing.specs.Scans.{key_of}
use Rattle.headings.proofs.DoorTests.{rank_there}
use Rattle.headings.proofs.Rooms.{rank_below}
use Rattle.tracing.proofs.Scanned.{sound_of}
use Rattle.tracing.proofs.Modes.{key_read}
use Rattle.tracing.proofs.SideNotes.{notes_small}
use Rattle.tracing.proofs.NotedTerms.{searched_found}
use Rattle.tracing.proofs.find.find_in.Goals as goal

pub search-requires : goal.search-requires
search-requires c =
    let first = c.note_side.auto.notes in
    let second = c.note_side-2.auto.notes in
    let a = c.args in
    let there = rank_there a.scan.width a.scan.height a.scan.index a.x (sound_of c.args.scan).size (sound_of c.args.scan).known c.requires.1 in
    let small = notes_small a.scan.steps a.scan.setting.gaps (sound_of c.args.scan).few_steps (sound_of c.args.scan).few in record {
      steps_bound = (
        omega (arith, (sound_of c.args.scan).short),
        (sound_of c.args.scan).few,
        omega (arith, c.rank_of-rank.ensures ∙ there, rank_below a.scan.width a.scan.height a.x a.scan.index (sound_of c.args.scan).known c.requires.1, (sound_of c.args.scan).long),
        omega (arith, (sound_of c.args.scan).short),
      );
      gaps_in_bounds = (omega (arith, small, first), omega (arith, small, second));
    }

pub returns : goal.returns
returns c =
    let a = c.args in
    let laid = c.lay_keys.ensures in
    let ends = c.note_side.ensures a.plate.now laid in
    let goes = c.note_side-2.ensures a.plate.now ends.left in
    let there = rank_there a.scan.width a.scan.height a.scan.index a.x (sound_of c.args.scan).size (sound_of c.args.scan).known c.requires.1 in
    let small = notes_small a.scan.steps a.scan.setting.gaps (sound_of c.args.scan).few_steps (sound_of c.args.scan).few in
    let is-own = key_read a.scan a.plate.now a.x c.key_by-own.result c.key_by-arg-1.given (omega (arith, c.requires)) c.key_by-own.ensures in
    record {
      found_in = searched_found a.scan.slack a.scan.width a.scan.height a.scan.steps a.scan.setting.gaps a.scan.spare (key_of a.scan a.plate.now) a.x
          a.scan.index
          (sound_of c.args.scan).known c.requires.1 (sound_of c.args.scan).long _ _ (record { steps = a.scan.steps; gaps = a.scan.setting.gaps; spare = a.scan.spare })
          c.key_by-own.result refl refl is-own
          ends.noted goes.noted a.found c.search.result (rw (c.rank_of-rank.ensures ∙ there) at c.search.ensures);
      levels = laid.levels;
    }
