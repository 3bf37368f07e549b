-- `sweep_apart` meets its contract: at each turn one state of each side is made and the two are joined. No state is made of the one before.
use Prim.Native.Nat.{◌+◌, ◌-◌, ◌≤◌}
use mathlib.Core.Path.{refl, ◌∙◌}
use mathlib.Core.Logic.{inl}
use native.Mathlib.Omega.{arith}
use lib.ListN.{length}
use Rattle.plans.specs.Plans.{state_size, keys_size}
use Rattle.plans.proofs.FormLaws.{well_formed_sound}
use Rattle.states.proofs.PlaneLaws.{apart_none}
use Rattle.stacks.proofs.StackLaws.{half_one}
use Rattle.sweeps.proofs.SweepLaws.{same_keys, same_size, same_half, full_last, swept_none, swept_more, swept_all, unlinked}
use Rattle.sweeps.proofs.sweeping.sweep_apart.Goals as goal

pub loop-e-init : goal.loop-e-init
loop-e-init c = let a = c.args in (refl, refl, refl, swept_none a.ours.plan a.theirs.plan a.states _ _ _)

pub overflow_add-next : goal.overflow_add-next
overflow_add-next c = omega (arith, c.requires.opposite.0.few, c.loop-e-test.true)

pub advance-requires : goal.advance-requires
advance-requires c =
    let a = c.args in
    let i = c.loop-e.invariant in
    let base = c.keys_size-base.ensures in
    let clear : keys_size a.theirs.plan ≤ c.keys_size-base.result = omega (arith, base, same_keys a.ours.plan a.theirs.plan a.states c.requires.opposite.0) in
    let fits : c.keys_size-base.result + state_size a.theirs.plan ≤ length c.loop-e.work =
    omega (arith, base, same_size a.ours.plan a.theirs.plan a.states c.requires.opposite.0, i.1, c.requires.plan_in_bounds.0) in record {
      first_lt_past = (omega arith, omega (arith, c.requires.opposite.0.few, c.loop-e-test.true), clear, clear, fits, fits);
      fact = inl refl;
      states_in_bounds = (
        half_one a.theirs.plan c.loop-e.e _ (omega (arith, same_half a.ours.plan a.theirs.plan a.states c.requires.opposite.0, i.2, c.requires.plan_in_bounds_2.0)),
        omega (arith, i.2, c.requires.plan_in_bounds_2.1),
      );
    }

pub overflow_sub-d : goal.overflow_sub-d
overflow_sub-d c = omega (arith, c.loop-e-test.true)

pub overflow_sub-d-in-loop-e : goal.overflow_sub-d-in-loop-e
overflow_sub-d-in-loop-e c = omega (arith, c.loop-e-test.true)

pub overflow_add-meeting : goal.overflow_add-meeting
overflow_add-meeting c = omega (arith, c.requires.opposite.0.few)

pub advance_joined-requires : goal.advance_joined-requires
advance_joined-requires c =
    let a = c.args in
    let i = c.loop-e.invariant in
    let taken = c.loop-e-test.true in
    let base = c.keys_size-base.ensures in
    let fits : c.keys_size-base.result + state_size a.ours.plan ≤ length c.advance.new.work = omega (arith, base, c.advance.ensures.advanced.apart.len, i.1, c.requires.plan_in_bounds.0) in record {
      first_lt_past = (omega arith, omega (arith, c.requires.opposite.0.few), full_last a.ours.plan a.theirs.plan a.states c.requires.opposite.0 _ (omega (arith, taken)), omega (arith, i.0, c.requires.plan_in_bounds.1));
      plan_bound = (omega (arith, base), fits, omega (arith, base), fits);
      states_in_bounds = (
        half_one a.ours.plan (a.states - 1 - c.loop-e.e) _ (omega (arith, c.advance.ensures.held_len_unchanged, i.2, c.requires.plan_in_bounds_2.0)),
        omega (arith, c.advance.ensures.held_len_unchanged, i.2, c.requires.plan_in_bounds_2.1),
      );
    }

pub loop-e-preserved : goal.loop-e-preserved
loop-e-preserved c =
    let a = c.args in
    let i = c.loop-e.invariant in
    let base = c.keys_size-base.result in
    let is_base = c.keys_size-base.ensures in (
      c.advance_joined.ensures.best_len_unchanged ∙ i.0,
      c.advance.ensures.advanced.apart.len ∙ i.1,
      c.advance_joined.ensures.held_len_unchanged ∙ c.advance.ensures.held_len_unchanged ∙ i.2,
      swept_more a.ours.plan a.theirs.plan a.states (well_formed_sound _ c.args.ours.formed) (well_formed_sound _ c.args.theirs.formed) c.requires.opposite.0 c.loop-e.e (a.states - 1 - c.loop-e.e) base
          c.loop-e-test.true refl a.work.now a.best.now c.loop-e.work c.loop-e.best c.advance.new.work c.advance.new.work c.advance_joined.new.best base base base
          (omega (arith, is_base)) (omega (arith, is_base)) (omega (arith, is_base)) i.3 c.advance.ensures.advanced (apart_none _ _ _) _
          (unlinked a.ours.plan a.states _ _ _ _ c.requires.opposite.1) c.advance_joined.ensures.joined,
    )

pub shape_of-best : goal.shape_of-best
shape_of-best c = c.loop-e.invariant.0

pub shape_of-work : goal.shape_of-work
shape_of-work c = c.loop-e.invariant.1

pub shape_of-held : goal.shape_of-held
shape_of-held c = c.loop-e.invariant.2

pub returns : goal.returns
returns c =
    let a = c.args in
    swept_all a.ours.plan a.theirs.plan a.states c.loop-e.e _ a.work.now a.best.now c.loop-e.work c.loop-e.best (omega (arith, c.loop-e-test.false)) c.loop-e.invariant.3
