-- `walk_in` meets its contract: before each turn the trail is written as far as the stand, from which the walks that are left count.
use Prim.Native.Nat.{ℕ, ◌+◌, ◌-◌, ◌*◌, ◌≤◌, ◌<◌}
use mathlib.Core.Path.{◌≡◌, refl, ap, ◌∙◌}
use native.Mathlib.Omega.{arith}
use lib.ListN.{length, get_or}
use Rattle.tracing.specs.Following.{Kept}
use Rattle.tracing.specs.Scans.{bit_of, key_of}
use Rattle.headings.specs.Trails.{Within, index_after}
use Rattle.theory.specs.BestWalks.{under}
use Rattle.headings.proofs.Trails.{index_within, within_less, within_few, index_there}
use Rattle.tracing.proofs.Scanned.{sound_of}
use Rattle.tracing.proofs.Inward.{inward_far}
use Rattle.tracing.proofs.Modes.{key_read}
use Rattle.tracing.proofs.Sighting.{sight_lines, sight_across, sight_formed, sight_sound, sight_kept, keys_laid}
use Rattle.tracing.proofs.Nearing.{place_of, stand_row, stand_on}
use Rattle.tracing.proofs.Walking.{Nearer, kept_fetched, top_held, top_fits, stand_wanted, stand_some, walk_on, walk_ends}
use Rattle.tracing.proofs.follow.walk_in.Goals as goal
use Rattle.tracing.proofs.follow.walk_in.Goals.{After-index_after-i, After-nearer, Start}

pub loop-n-init : goal.loop-n-init
loop-n-init c =
    let a = c.args in (
      refl,
      refl,
      refl,
      c.requires.kept,
      c.requires.stands.0,
      inward_far a.scan.slack a.scan.width a.scan.height (bit_of a.scan) a.walk.backwards (key_of a.scan a.plate.now) a.walk.key a.path.now a.walk.start
          a.walk.steps a.walk.gaps _ a.end.stand.gaps (omega (arith, c.requires.held_fit.1)) c.requires.stands.1,
    )

pub place_of-place-requires : goal.place_of-place-requires
place_of-place-requires c =
    let a = c.args in
    let x = get_or a.path.now a.walk.start 0 in record {
      frame = c.requires.start_bound.1.is_frame;
      kept_on = (
        sight_kept a.scan (sound_of c.args.scan) a.walk.backwards x a.end.sight c.requires.start_bound.1,
        sight_sound a.scan (sound_of c.args.scan) a.walk.backwards x a.end.sight c.requires.start_bound.1,
        stand_row a.scan a.walk.backwards a.plate.now x a.end.sight (sound_of c.args.scan) c.requires.positive.1 c.requires.start_bound.1 a.walk.key c.requires.positive.2 c.loop-n.n c.loop-n.stand c.loop-n.invariant.4
            c.loop-n.stand.gaps (omega arith),
      );
      lines_value = (sight_lines a.scan (sound_of c.args.scan) a.walk.backwards x a.end.sight c.requires.start_bound.1, sight_across a.scan (sound_of c.args.scan) a.walk.backwards x a.end.sight c.requires.start_bound.1);
    }

-- the index that is written
module _ (c : After-index_after-i) where
  abbrev start : Start
  start = (goal.at.After-index_after-i c).Start

  abbrev left : ℕ
  left = c.loop-n.n - 1 + 1

  is-left : left ≡ c.loop-n.n
  is-left = omega (arith, c.loop-n-test.true)

  within : Within c.args.walk.backwards (length c.args.path.now) c.args.walk.start left
  within =
      within_less c.args.walk.backwards (length c.args.path.now) c.args.walk.start c.args.walk.steps left c.requires.within
      (omega (arith, c.loop-n.auto.n, is-left))

  at_left : c.index_after-i.result ≡ index_after c.args.walk.backwards c.args.walk.start left
  at_left =
      c.index_after-i.ensures
      ∙ index_there c.args.walk.backwards c.args.walk.start left (omega (arith, c.requires.path_len_bound))
      (omega (arith, c.requires.path_len_bound, within_few c.args.walk.backwards (length c.args.path.now) c.args.walk.start left within))

  is_index : c.index_after-i.result ≡ index_after c.args.walk.backwards c.args.walk.start c.loop-n.n
  is_index = at_left ∙ ap (index_after c.args.walk.backwards c.args.walk.start) is-left

  in_path : c.index_after-i.result < length c.args.path.now
  in_path = omega (arith, at_left, index_within c.args.walk.backwards (length c.args.path.now) c.args.walk.start left within)

pub offset_bounds-path-i : goal.offset_bounds-path-i
offset_bounds-path-i c = omega (arith, in_path c, c.requires.path_len_bound)

pub bounds-path-i : goal.bounds-path-i
bounds-path-i c = omega (arith, in_path c, c.loop-n.invariant.5.len)

pub offset_bounds-plate-place : goal.offset_bounds-plate-place
offset_bounds-plate-place c =
    let a = c.args in
    let on =
    stand_on a.scan a.walk.backwards a.plate.now (get_or a.path.now a.walk.start 0) a.end.sight (sound_of c.args.scan) c.requires.positive.1 c.requires.start_bound.1 a.walk.key
    c.requires.positive.2 c.loop-n.n c.loop-n.stand c.loop-n.invariant.4 in
    omega (arith, on, c.place_of-place.ensures, (sound_of c.args.scan).size.few)

pub bounds-plate-place : goal.bounds-plate-place
bounds-plate-place c =
    let a = c.args in
    let on =
    stand_on a.scan a.walk.backwards a.plate.now (get_or a.path.now a.walk.start 0) a.end.sight (sound_of c.args.scan) c.requires.positive.1 c.requires.start_bound.1 a.walk.key
    c.requires.positive.2 c.loop-n.n c.loop-n.stand c.loop-n.invariant.4 in
    omega (arith, on, c.place_of-place.ensures, c.requires.positive.0)

pub invariant_of-followed : goal.invariant_of-followed
invariant_of-followed c =
    let a = c.args in
    record { formed = sight_formed a.scan (sound_of c.args.scan) a.walk.backwards (get_or a.path.now a.walk.start 0) a.end.sight c.requires.start_bound.1 }

pub nearer-requires : goal.nearer-requires
nearer-requires c =
    let a = c.args in
    let x = get_or a.path.now a.walk.start 0 in
    let few =
    stand_wanted a.scan a.walk.backwards a.plate.now x a.end.sight (sound_of c.args.scan) c.requires.start_bound.1 c.requires.positive.1 a.walk.key c.requires.positive.2 a.path.now a.walk.start a.walk.steps
    a.walk.gaps c.requires.within c.loop-n.path c.loop-n.stand c.loop-n.n c.loop-n.invariant.4 in
    let top =
    top_fits a.scan a.walk.backwards a.plate.now x a.end.sight (sound_of c.args.scan) c.requires.start_bound.1 c.loop-n.work c.loop-n.marks c.fetch-stack.new.work c.fetch-stack.new.marks c.loop-n.stack c.fetch-stack.result c.wanted.result
    (omega (arith, c.wanted.ensures, few)) c.loop-n.invariant.3 c.fetch-stack.ensures.base_value.0 c.fetch-stack.ensures.base_value.1 c.fetch-stack.ensures.base_value.2 c.fetch-stack.ensures.fetched c.top_of.result c.top_of.ensures in (
      stand_row a.scan a.walk.backwards a.plate.now x a.end.sight (sound_of c.args.scan) c.requires.positive.1 c.requires.start_bound.1 a.walk.key c.requires.positive.2 c.loop-n.n c.loop-n.stand c.loop-n.invariant.4
          c.gaps_after-left.result (omega (arith, c.gaps_after-left.ensures)),
      top.0,
      top.1,
    )

-- a pixel nearer by, and the trail as far as it
module _ (c : After-nearer) where
  abbrev x : ℕ
  x = get_or c.args.path.now c.args.walk.start 0

  on_plate : place_of c.args.end.sight c.loop-n.stand < c.args.scan.width * c.args.scan.height
  on_plate =
      stand_on c.args.scan c.args.walk.backwards c.args.plate.now x c.args.end.sight (sound_of c.args.scan) c.requires.positive.1 c.requires.start_bound.1 c.args.walk.key
      c.requires.positive.2 c.loop-n.n c.loop-n.stand c.loop-n.invariant.4

  read : c.key_by.result ≡ key_of c.args.scan c.args.plate.now (place_of c.args.end.sight c.loop-n.stand)
  read =
      key_read c.args.scan c.args.plate.now c.place_of-place.result c.key_by.result c.key_by-arg-1.given (omega (arith, on_plate, c.place_of-place.ensures, c.requires.positive.0)) c.key_by.ensures
      ∙ ap (key_of c.args.scan c.args.plate.now) c.place_of-place.ensures

  few : c.wanted.result ≤ c.args.end.sight.states
  few =
      omega (
        arith,
        c.wanted.ensures,
        stand_wanted c.args.scan c.args.walk.backwards c.args.plate.now x c.args.end.sight (sound_of c.args.scan) c.requires.start_bound.1 c.requires.positive.1 c.args.walk.key c.requires.positive.2 c.args.path.now c.args.walk.start c.args.walk.steps
            c.args.walk.gaps c.requires.within c.loop-n.path c.loop-n.stand c.loop-n.n c.loop-n.invariant.4,
      )

  some : 1 ≤ c.wanted.result
  some =
      omega (
        arith,
        c.wanted.ensures,
        stand_some c.args.scan c.args.walk.backwards c.args.plate.now x c.args.end.sight (sound_of c.args.scan) c.requires.start_bound.1 c.requires.positive.1 c.args.walk.key c.requires.positive.2 c.args.path.now c.args.walk.start c.args.walk.steps
            c.args.walk.gaps c.requires.within c.loop-n.path c.loop-n.stand c.loop-n.n c.loop-n.invariant.4 c.loop-n-test.true,
      )

  kept : Kept c.args.scan c.args.walk.backwards c.args.plate.now x c.args.end.sight c.fetch-stack.new.work c.fetch-stack.new.marks c.fetch-stack.result
  kept =
      kept_fetched c.args.scan c.args.walk.backwards c.args.plate.now x c.args.end.sight (sound_of c.args.scan) c.requires.start_bound.1 c.loop-n.work c.loop-n.marks c.fetch-stack.new.work c.fetch-stack.new.marks c.loop-n.stack c.fetch-stack.result c.wanted.result
      few c.loop-n.invariant.3 c.fetch-stack.ensures.base_value.0 c.fetch-stack.ensures.base_value.1 c.fetch-stack.ensures.base_value.2 c.fetch-stack.ensures.fetched

  next : Nearer c.args.scan c.args.walk.backwards c.args.plate.now x c.args.end.sight (sound_of c.args.scan) c.requires.start_bound.1 c.requires.positive.1 c.args.walk.key c.requires.positive.2 c.args.path.now c.args.walk.start c.args.walk.steps
      c.args.walk.gaps c.requires.within c.loop-n.path c.loop-n.stand c.loop-n.n c.nearer.result
  next =
      walk_on c.args.scan c.args.walk.backwards c.args.plate.now x c.args.end.sight (sound_of c.args.scan) c.requires.start_bound.1 c.requires.positive.1 c.args.walk.key c.requires.positive.2 c.args.path.now c.args.walk.start c.args.walk.steps
      c.args.walk.gaps c.requires.within c.loop-n.path c.loop-n.stand c.loop-n.n c.loop-n-test.true c.loop-n.invariant.4 c.loop-n.auto.n c.loop-n.invariant.5 c.gaps_after-left.result
      (c.gaps_after-left.ensures ∙ ap (λ (k : ℕ). c.loop-n.stand.gaps - under c.args.walk.key k) read) c.fetch-stack.new.work c.top_of.result c.wanted.result c.wanted.ensures
      (top_held c.args.scan c.args.walk.backwards c.args.plate.now x c.args.end.sight (sound_of c.args.scan) c.requires.start_bound.1 c.loop-n.work c.loop-n.marks c.fetch-stack.new.work c.fetch-stack.new.marks c.loop-n.stack c.fetch-stack.result c.wanted.result
      few c.loop-n.invariant.3 c.fetch-stack.ensures.base_value.0 c.fetch-stack.ensures.base_value.1 c.fetch-stack.ensures.base_value.2 c.fetch-stack.ensures.fetched c.top_of.result c.top_of.ensures some)
      c.nearer.result c.nearer.ensures

pub unwrap-stand-requires : goal.unwrap-stand-requires
unwrap-stand-requires c = (next (goal.at.unwrap-stand-requires c).After-nearer).there

pub loop-n-preserved : goal.loop-n-preserved
loop-n-preserved c =
    let f = (goal.at.loop-n-preserved c).After-nearer in
    let is = c.unwrap-stand.ensures in (
      c.fetch-stack.auto.work ∙ c.loop-n.invariant.0,
      c.fetch-stack.auto.marks ∙ c.loop-n.invariant.1,
      c.fetch-stack.ensures.held_len_unchanged ∙ c.loop-n.invariant.2,
      kept f,
      (next f).stands _ is,
      (next f).inward _ is _ _ (is_index (goal.at.loop-n-preserved c).After-index_after-i) c.place_of-place.ensures,
    )

pub returns : goal.returns
returns c =
    let a = c.args in
    let ends =
    walk_ends a.scan a.walk.backwards a.plate.now (get_or a.path.now a.walk.start 0) a.end.sight (sound_of c.args.scan) c.requires.start_bound.1 c.requires.positive.1 a.walk.key
    c.requires.positive.2 a.path.now a.walk.start a.walk.steps a.walk.gaps c.requires.within c.loop-n.path c.loop-n.stand c.loop-n.n (omega (arith, c.loop-n-test.false)) c.loop-n.invariant.4
    refl c.loop-n.invariant.5 in
    let laid =
    keys_laid a.scan (sound_of c.args.scan) a.walk.backwards (get_or a.path.now a.walk.start 0) a.end.sight c.requires.start_bound.1 a.plate.now c.loop-n.work c.requires.positive.1
    c.loop-n.invariant.3.keys in record { trail = ends.0; steps_bound = ends.1.0; ends_at = ends.1.1; keys_laid = laid }
