-- `follow_counted` meets its contract: the state with the walks of all steps is made, and from a far end that is found there the
-- path is written.
use Prim.Native.Nat.{ℕ, ◌-◌, ◌*◌, ◌≤◌}
use mathlib.Core.Path.{◌≡◌, refl}
use native.Mathlib.Omega.{arith}
use lib.ListN.{length, get_or, replicate}
use Rattle.stacks.specs.declared.stack.Stack.{Stack}
use Rattle.std.specs.Prelude.{Some, IsSome}
use Rattle.states.specs.States.{Holds}
use Rattle.stacks.proofs.DoorTests.{places_facts}
use Rattle.walks.specs.declared.stand.Stand.{Stand}
use Rattle.tracing.specs.Sights.{seen_at}
use Rattle.tracing.specs.Following.{Kept, Stands, EndsAt}
use Rattle.tracing.proofs.Scanned.{sound_of}
use Rattle.tracing.proofs.Sighting.{sight_planes, sight_formed, sight_room, sight_states_few}
use Rattle.tracing.proofs.Walking.{empty_fits, kept_empty, kept_fetched, top_held, top_fits}
use Rattle.tracing.proofs.FarEnd.{wanted_some, end_few, end_row, end_there, end_stands, end_ends, end_gaps}
use Rattle.tracing.proofs.Nearing.{place_of}
use Rattle.tracing.proofs.follow.follow_counted.Goals as goal
use Rattle.tracing.proofs.follow.follow_counted.Goals.{After-wanted, After-find_end}

-- before the first state is made the stack is empty
start_kept :
    (c : After-wanted) →
    let a = c.args in
    Kept a.scan a.walk.backwards a.plate.now (get_or a.path.now a.walk.start 0) c.sight_of-sight.result a.work.now (replicate 64 0)
    (record { base = c.keys_size-base.result; places = c.places_in.result; depth = 0 })
start_kept c =
    let a = c.args in
    let x = get_or a.path.now a.walk.start 0 in
    let room = sight_room a.scan (sound_of c.args.scan) a.walk.backwards x c.sight_of-sight.result c.sight_of-sight.ensures (length a.work.now) c.requires.plate_len.1 in
    let size : 1 ≤ c.state_size.result = omega (arith, room.some, c.state_size.ensures.0) in
    let one : c.state_size.result ≤ length a.work.now - c.keys_size-base.result = omega (arith, room.alone, c.keys_size-base.ensures.0, c.state_size.ensures.0) in
    let o : (1 ≤ c.places_in.result) × (c.places_in.result ≤ 64) × (c.places_in.result * c.state_size.result ≤ length a.work.now - c.keys_size-base.result) =
    rw c.places_in.ensures (places_facts (length a.work.now - c.keys_size-base.result) c.state_size.result size one) in
    let stack : Stack = record { base = c.keys_size-base.result; places = c.places_in.result; depth = 0 } in
    kept_empty a.scan a.walk.backwards a.plate.now x c.sight_of-sight.result (sound_of c.args.scan) c.sight_of-sight.ensures a.work.now (replicate 64 0) stack refl c.requires.keys_laid
    (empty_fits a.scan a.walk.backwards a.plate.now x c.sight_of-sight.result (sound_of c.args.scan) c.sight_of-sight.ensures a.work.now (replicate 64 0) stack refl room c.keys_size-base.ensures.0 o.0 o.1
    (rw c.state_size.ensures.0 at o.2) o.1)

-- the state that is wanted is one of the side's
few_wanted : (c : After-wanted) → c.wanted.result ≤ c.sight_of-sight.result.states
few_wanted c =
    let a = c.args in
    omega (
      arith,
      c.wanted.ensures,
      end_few a.scan a.walk.backwards a.plate.now (get_or a.path.now a.walk.start 0) c.sight_of-sight.result (sound_of c.args.scan) c.sight_of-sight.ensures c.requires.keys_laid.levels a.walk.key a.walk.steps
          a.walk.gaps c.requires.positive c.requires.plate_len.2 c.requires.plate_len.3 c.requires.leads,
    )

pub overflow_sub-work : goal.overflow_sub-work
overflow_sub-work c =
    let a = c.args in
    omega (
      arith,
      (sight_room a.scan (sound_of c.args.scan) a.walk.backwards (get_or a.path.now a.walk.start 0) c.sight_of-sight.result c.sight_of-sight.ensures (length a.work.now) c.requires.plate_len.1).alone,
      c.keys_size-base.ensures.0,
    )

pub invariant_of-followed : goal.invariant_of-followed
invariant_of-followed c =
    let a = c.args in
    record { formed = sight_formed a.scan (sound_of c.args.scan) a.walk.backwards (get_or a.path.now a.walk.start 0) c.sight_of-sight.result c.sight_of-sight.ensures }

pub fetch-stack-requires : goal.fetch-stack-requires
fetch-stack-requires c =
    let a = c.args in
    let x = get_or a.path.now a.walk.start 0 in
    let room = sight_room a.scan (sound_of c.args.scan) a.walk.backwards x c.sight_of-sight.result c.sight_of-sight.ensures (length a.work.now) c.requires.plate_len.1 in record { stack_fits = ((start_kept (goal.at.fetch-stack-requires c).After-wanted).fits, omega (arith, few_wanted (goal.at.fetch-stack-requires c).After-wanted, sight_states_few a.scan (sound_of c.args.scan) a.walk.backwards x c.sight_of-sight.result c.sight_of-sight.ensures)); plan_in_bounds = (room.halves, omega arith) }

pub top_of-top-requires : goal.top_of-top-requires
top_of-top-requires c =
    let a = c.args in
    let fits = (start_kept (goal.at.top_of-top-requires c).After-wanted).fits in (
      omega (arith, c.fetch-stack.ensures.base_value.2, fits.few),
      omega (arith, c.fetch-stack.ensures.base_value.0, fits.near),
    )

pub find_end-requires : goal.find_end-requires
find_end-requires c =
    let a = c.args in
    let x = get_or a.path.now a.walk.start 0 in
    let top =
    top_fits a.scan a.walk.backwards a.plate.now x c.sight_of-sight.result (sound_of c.args.scan) c.sight_of-sight.ensures _ _ c.fetch-stack.new.work c.fetch-stack.new.marks _ c.fetch-stack.result c.wanted.result (few_wanted (goal.at.find_end-requires c).After-wanted)
    (start_kept (goal.at.find_end-requires c).After-wanted) c.fetch-stack.ensures.base_value.0 c.fetch-stack.ensures.base_value.1 c.fetch-stack.ensures.base_value.2 c.fetch-stack.ensures.fetched c.top_of-top.result c.top_of-top.ensures in (
      omega (arith, c.requires.plate_len.2, (sound_of c.args.scan).few_steps),
      end_row a.scan a.walk.backwards a.plate.now x c.sight_of-sight.result (sound_of c.args.scan) c.sight_of-sight.ensures c.requires.keys_laid.levels a.walk.key a.walk.steps a.walk.gaps c.requires.positive c.requires.plate_len.2 c.requires.plate_len.3 c.requires.leads,
      omega (arith, c.requires.plate_len.3, sight_planes a.scan (sound_of c.args.scan) a.walk.backwards x c.sight_of-sight.result c.sight_of-sight.ensures),
      top.0,
      top.1,
    )

-- what the state that was fetched is known to be
module _ (c : After-find_end) where
  abbrev at : ℕ
  at = get_or c.args.path.now c.args.walk.start 0

  start : Kept c.args.scan c.args.walk.backwards c.args.plate.now at c.sight_of-sight.result c.args.work.now (replicate 64 0)
      (record { base = c.keys_size-base.result; places = c.places_in.result; depth = 0 })
  start = start_kept (goal.at.After-find_end c).After-wanted

  some_wanted : 1 ≤ c.wanted.result
  some_wanted =
      omega (
        arith,
        c.wanted.ensures,
        wanted_some c.args.scan c.args.walk.backwards c.args.plate.now at c.sight_of-sight.result (sound_of c.args.scan) c.sight_of-sight.ensures c.sight_of-sight.result.plan.ranked c.args.walk.steps,
      )

  kept : Kept c.args.scan c.args.walk.backwards c.args.plate.now at c.sight_of-sight.result c.fetch-stack.new.work c.fetch-stack.new.marks c.fetch-stack.result
  kept =
      kept_fetched c.args.scan c.args.walk.backwards c.args.plate.now at c.sight_of-sight.result (sound_of c.args.scan) c.sight_of-sight.ensures _ _ c.fetch-stack.new.work c.fetch-stack.new.marks _ c.fetch-stack.result c.wanted.result (few_wanted (goal.at.After-find_end c).After-wanted)
      start c.fetch-stack.ensures.base_value.0 c.fetch-stack.ensures.base_value.1 c.fetch-stack.ensures.base_value.2 c.fetch-stack.ensures.fetched

  held : Holds c.fetch-stack.new.work c.top_of-top.result c.sight_of-sight.result.plan (c.wanted.result - 1) (seen_at c.args.scan c.args.walk.backwards c.args.plate.now at c.sight_of-sight.result (c.wanted.result - 1))
  held =
      top_held c.args.scan c.args.walk.backwards c.args.plate.now at c.sight_of-sight.result (sound_of c.args.scan) c.sight_of-sight.ensures _ _ c.fetch-stack.new.work c.fetch-stack.new.marks _ c.fetch-stack.result c.wanted.result (few_wanted (goal.at.After-find_end c).After-wanted)
      start c.fetch-stack.ensures.base_value.0 c.fetch-stack.ensures.base_value.1 c.fetch-stack.ensures.base_value.2 c.fetch-stack.ensures.fetched c.top_of-top.result c.top_of-top.ensures some_wanted

  there : IsSome c.find_end.result
  there =
      end_there c.args.scan c.args.walk.backwards c.args.plate.now at c.sight_of-sight.result (sound_of c.args.scan) c.sight_of-sight.ensures c.requires.keys_laid.levels c.args.walk.key c.args.walk.steps c.args.walk.gaps c.requires.positive
      c.requires.plate_len.2 c.requires.plate_len.3 c.requires.leads c.fetch-stack.new.work c.top_of-top.result c.wanted.result c.find_end.result c.wanted.ensures held kept.keys c.find_end.ensures

  module _ (end : Stand) (is : c.find_end.result ≡ Some end) where
    stands : Stands c.args.scan c.args.walk.backwards c.args.plate.now at c.sight_of-sight.result c.args.walk.key c.args.walk.steps end
    stands =
        end_stands c.args.scan c.args.walk.backwards c.args.plate.now at c.sight_of-sight.result (sound_of c.args.scan) c.sight_of-sight.ensures c.requires.keys_laid.levels c.args.walk.key c.args.walk.steps c.args.walk.gaps c.requires.positive
        c.requires.plate_len.2 c.requires.plate_len.3 c.requires.leads c.fetch-stack.new.work c.top_of-top.result c.wanted.result c.find_end.result c.wanted.ensures held kept.keys c.find_end.ensures end is

    ends : EndsAt c.args.scan c.args.plate.now c.args.walk.key (place_of c.sight_of-sight.result end)
    ends =
        end_ends c.args.scan c.args.walk.backwards c.args.plate.now at c.sight_of-sight.result (sound_of c.args.scan) c.sight_of-sight.ensures c.requires.keys_laid.levels c.args.walk.key c.args.walk.steps c.args.walk.gaps c.requires.positive
        c.requires.plate_len.2 c.requires.plate_len.3 c.requires.leads c.fetch-stack.new.work c.top_of-top.result c.wanted.result c.find_end.result c.wanted.ensures held kept.keys c.find_end.ensures end is

    has_gaps : end.gaps ≡ c.args.walk.gaps
    has_gaps =
        end_gaps c.args.scan c.args.walk.backwards c.args.plate.now at c.sight_of-sight.result (sound_of c.args.scan) c.sight_of-sight.ensures c.requires.keys_laid.levels c.args.walk.key c.args.walk.steps c.args.walk.gaps c.requires.positive
        c.requires.plate_len.2 c.requires.plate_len.3 c.requires.leads c.fetch-stack.new.work c.top_of-top.result c.wanted.result c.find_end.result c.wanted.ensures held kept.keys c.find_end.ensures end is

pub unwrap-stand-requires : goal.unwrap-stand-requires
unwrap-stand-requires c = there (goal.at.unwrap-stand-requires c).After-find_end

pub walk_in-requires : goal.walk_in-requires
walk_in-requires c =
    let a = c.args in
    let f = (goal.at.walk_in-requires c).After-find_end in
    let room = sight_room a.scan (sound_of a.scan) a.walk.backwards (get_or a.path.now a.walk.start 0) c.sight_of-sight.result c.sight_of-sight.ensures (length a.work.now) c.requires.plate_len.1 in
    let is = c.unwrap-stand.ensures in
    record {
      positive = (c.requires.plate_len.0, c.requires.keys_laid.levels, c.requires.positive);
      path_len_bound = (c.requires.path_len_bound.0, c.requires.path_len_bound.1, c.requires.plate_len.2);
      within = c.requires.within;
      start_bound = (c.requires.leads.on, c.sight_of-sight.ensures);
      kept = kept f;
      held_fit = (
        record { halves = omega (arith, room.halves, c.fetch-stack.ensures.held_len_unchanged); few = omega (arith, c.fetch-stack.ensures.held_len_unchanged) },
        has_gaps f _ is,
      );
      stands = (stands f _ is, ends f _ is);
    }
