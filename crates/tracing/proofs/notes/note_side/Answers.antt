-- `note_side` meets its contract: at each turn one state more is made in the place of the last and noted.
use Prim.Native.Nat.{◌<◌}
use mathlib.Core.Path.{◌≡◌, refl, ◌∙◌}
use native.Mathlib.Omega.{arith}
use lib.ListN.{length}
use Rattle.std.proofs.lemmas.List.{get_or-replicate}
use Rattle.walks.proofs.NotedStates.{side_none, side_more}
use Rattle.tracing.proofs.Scanned.{sound_of}
use Rattle.tracing.proofs.Sighting.{sight_room, sight_formed, sight_sound, sight_states_few}
use Rattle.tracing.proofs.SideNotes.{notes_fit, side_notes}
use Rattle.tracing.proofs.notes.note_side.Goals as goal

pub loop-e-init : goal.loop-e-init
loop-e-init c = (refl, refl, refl, side_none _ _ _ _ _ _)

pub invariant_of-followed : goal.invariant_of-followed
invariant_of-followed c =
    let a = c.args in
    record { formed = sight_formed a.scan (sound_of c.args.scan) a.backwards a.x c.sight_of-sight.result c.sight_of-sight.ensures }

pub advance-requires : goal.advance-requires
advance-requires c =
    let a = c.args in
    let room = sight_room a.scan (sound_of c.args.scan) a.backwards a.x c.sight_of-sight.result c.sight_of-sight.ensures _ c.requires.x_bound.1 in
    let few = sight_states_few a.scan (sound_of c.args.scan) a.backwards a.x c.sight_of-sight.result c.sight_of-sight.ensures in
    let e : c.loop-e.e < c.sight_of-sight.result.states = c.loop-e-test.true in record { e_bound = (omega (arith, few, e), omega (arith, c.keys_size-base.ensures), omega (arith, room.alone, c.loop-e.invariant.0, c.keys_size-base.ensures)); plan_in_bounds = (omega (arith, room.halves, c.loop-e.invariant.1), omega (arith, c.loop-e.invariant.1)) }

pub note_state-requires : goal.note_state-requires
note_state-requires c =
    let a = c.args in
    let room = sight_room a.scan (sound_of c.args.scan) a.backwards a.x c.sight_of-sight.result c.sight_of-sight.ensures _ c.requires.x_bound.1 in
    let few = sight_states_few a.scan (sound_of c.args.scan) a.backwards a.x c.sight_of-sight.result c.sight_of-sight.ensures in
    let same = c.advance.auto.work ∙ c.loop-e.invariant.0 in
    let e : c.loop-e.e < c.sight_of-sight.result.states = c.loop-e-test.true in (
      omega (arith, few, e),
      c.keys_size-base.ensures.1,
      omega (arith, room.alone, same, c.keys_size-base.ensures),
      omega (arith, c.keys_size-base.ensures),
      notes_fit a.scan (sound_of c.args.scan) a.backwards a.x c.sight_of-sight.result c.sight_of-sight.ensures c.loop-e.e _ e
          (omega (arith, c.requires.gaps_in_bounds.0, c.loop-e.invariant.2, c.fill.ensures.len)),
    )

pub loop-e-preserved : goal.loop-e-preserved
loop-e-preserved c =
    let a = c.args in
    let few = sight_states_few a.scan (sound_of c.args.scan) a.backwards a.x c.sight_of-sight.result c.sight_of-sight.ensures in
    let e : c.loop-e.e < c.sight_of-sight.result.states = c.loop-e-test.true in (
      c.advance.auto.work ∙ c.loop-e.invariant.0,
      c.advance.ensures.held_len_unchanged ∙ c.loop-e.invariant.1,
      c.note_state.auto.notes ∙ c.loop-e.invariant.2,
      side_more c.sight_of-sight.result.plan (sight_sound a.scan (sound_of c.args.scan) a.backwards a.x c.sight_of-sight.result c.sight_of-sight.ensures) a.scan.slack c.sight_of-sight.result.states _
          c.loop-e.e _ c.loop-e.work _ _
          c.loop-e.notes _ (omega (arith, few, e)) e (omega (arith, c.keys_size-base.ensures)) c.loop-e.invariant.3 c.advance.ensures.advanced c.note_state.ensures,
    )

pub returns : goal.returns
returns c =
    let a = c.args in
    let all : c.loop-e.e ≡ c.sight_of-sight.result.states = omega (arith, c.loop-e-test.false, c.loop-e.auto.e-end) in
    let clear = c.fill.ensures.after (λ y e. e) in
    λ plate laid.
    side_notes a.scan (sound_of c.args.scan) a.backwards a.x c.sight_of-sight.result c.sight_of-sight.ensures plate c.requires.x_bound.0 _ _ _ _ laid
    (λ q h. rw clear (get_or-replicate (length a.notes.now) q 0 0 (omega (arith, h, c.requires.gaps_in_bounds.0))))
    (rw (all, c.keys_size-base.ensures.0) at c.loop-e.invariant.3)
