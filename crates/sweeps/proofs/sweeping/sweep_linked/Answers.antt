-- `sweep_linked` meets its contract: at each turn the other side's next state is made in the place after the stack, this side's state that meets it
-- is made of the last one of the stack, with those between, and the two are joined.
use Prim.Native.Nat.{ℕ, ◌+◌, ◌-◌, ◌*◌, ◌≤◌}
use mathlib.Core.Path.{◌≡◌, refl, sym, ap, ◌∙◌, subst}
use mathlib.Core.Logic.{inl}
use native.Mathlib.Omega.{arith}
use lib.ListN.{length}
use Rattle.basics.specs.Cases.{EitherBy}
use Rattle.plans.specs.Plans.{state_size, keys_size, half_with}
use Rattle.stacks.specs.Stacks.{StackFits}
use Rattle.stacks.specs.Doors.{fetches}
use Rattle.plans.proofs.FormLaws.{well_formed_sound}
use Rattle.states.proofs.DoorTests.{hold_if}
use Rattle.stacks.proofs.DoorTests.{fetches_if, places_facts, top_4}
use Rattle.stacks.proofs.StackLaws.{states_below, half_one, half_fewer}
use Rattle.sweeps.proofs.SweepLaws.{some_size, StackAt, same_keys, same_size, same_half, full_last, swept_none, swept_all, stack_none, stack_fits_lem, top_fits, linked_turn}
use Rattle.sweeps.proofs.sweeping.sweep_linked.Goals as goal
use Rattle.sweeps.proofs.sweeping.sweep_linked.Goals.{After-at_once-spare, After-fetch-stack, After-places_in-places, After-top_of-from}

-- ---- before the loop
pub overflow_sub-work : goal.overflow_sub-work
overflow_sub-work c = omega (arith, c.keys_size-base.ensures, c.requires.plan_in_bounds.0)

pub overflow_sub-work-2 : goal.overflow_sub-work-2
overflow_sub-work-2 c = omega (arith, c.state_size-size.ensures, c.keys_size-base.ensures, c.requires.plan_in_bounds.0)

-- so many places find room behind the keys, and one state more
found : (n : After-places_in-places) → let places = n.places_in-places.result in
    let left = length n.args.work.now - n.keys_size-base.result - n.state_size-size.result in
    (1 ≤ places) × (places ≤ 64) × (places * n.state_size-size.result ≤ left)
found n =
    let size = n.state_size-size in
    let left = length n.args.work.now - n.keys_size-base.result - size.result in
    subst (λ (q : ℕ). (1 ≤ q) × (q ≤ 64) × (q * size.result ≤ left)) (sym n.places_in-places.ensures)
    (places_facts left size.result
    (omega (arith, size.ensures, some_size n.args.ours.plan (well_formed_sound _ n.args.ours.formed)))
    (omega (arith, size.ensures, n.keys_size-base.ensures, n.requires.plan_in_bounds.0)))

-- no product wraps
room : (n : After-places_in-places) → let p = n.args.ours.plan in
    let all = n.places_in-places.result * state_size p in
    (n.places_in-places.result * n.state_size-size.result ≡ all) × (all ≤ 603979776) × (keys_size p + all + state_size p ≤ length n.args.work.now)
room n =
    let f = n.args.ours in
    let places = n.places_in-places in
    let size = n.state_size-size.ensures.0 in
    let fits = rw size at (found n).2 in (
      ap (λ (q : ℕ). places.result * q) size,
      states_below f.plan places.result (well_formed_sound _ f.formed) (found n).1,
      omega (arith, fits, n.keys_size-base.ensures, n.requires.plan_in_bounds.0),
    )

pub overflow_mul-ends : goal.overflow_mul-ends
overflow_mul-ends c = omega (arith, room c)

pub overflow_add-ends : goal.overflow_add-ends
overflow_add-ends c = omega (arith, room c, c.keys_size-base.ensures)

-- so many states as are made at once find room among the held rows
held_once : (o : After-at_once-spare) → let a = o.args in
    half_with a.ours.plan (o.at_once-spare.result - 1) + half_with a.ours.plan (o.at_once-spare.result - 1) ≤ length a.held.now
held_once o =
    rw (hold_if o.args.ours.plan (length o.args.held.now) o.args.ours.formed o.requires.plan_in_bounds_2.0 o.requires.plan_in_bounds_2.1) at o.at_once-spare.ensures.either

pub overflow_sub-spare : goal.overflow_sub-spare
overflow_sub-spare c = omega (arith, c.at_once-spare.ensures.lower_bound.0)

pub loop-e-init : goal.loop-e-init
loop-e-init c =
    let a = c.args in (
      refl,
      refl,
      refl,
      refl,
      record { is_base = c.keys_size-base.ensures.0; is_places = refl; deep = omega arith },
      swept_none a.ours.plan a.theirs.plan a.states _ _ _,
      stack_none a.ours.plan a.states _ _ _ _,
    )

-- ---- the other side's state
pub overflow_add-next : goal.overflow_add-next
overflow_add-next c = omega (arith, c.requires.opposite.few, c.loop-e-test.true)

pub advance-requires : goal.advance-requires
advance-requires c =
    let a = c.args in
    let i = c.loop-e.invariant in
    let base = c.keys_size-base.ensures in
    let r = room (goal.at.advance-requires c).After-places_in-places in
    let ends = c.keys_size-base.result + c.places_in-places.result * c.state_size-size.result in
    let clear : keys_size a.theirs.plan ≤ ends = omega (arith, base, same_keys a.ours.plan a.theirs.plan a.states c.requires.opposite) in
    let fits : ends + state_size a.theirs.plan ≤ length c.loop-e.work = omega (arith, base, r, same_size a.ours.plan a.theirs.plan a.states c.requires.opposite, i.1) in record {
      first_lt_past = (omega arith, omega (arith, c.requires.opposite.few, c.loop-e-test.true), clear, clear, fits, fits);
      fact = inl refl;
      states_in_bounds = (
        half_one a.theirs.plan c.loop-e.e _ (omega (arith, same_half a.ours.plan a.theirs.plan a.states c.requires.opposite, i.2, c.requires.plan_in_bounds_2.0)),
        omega (arith, i.2, c.requires.plan_in_bounds_2.1),
      );
    }

-- ---- this side's stack
pub overflow_sub-d : goal.overflow_sub-d
overflow_sub-d c = omega (arith, c.loop-e-test.true)

pub overflow_sub-d-in-loop-e : goal.overflow_sub-d-in-loop-e
overflow_sub-d-in-loop-e c = omega (arith, c.loop-e-test.true)

pub slice_bounds-fetch-end : goal.slice_bounds-fetch-end
slice_bounds-fetch-end c = sym c.loop-e.invariant.3

-- the call is taken, whatever is promised of it
fetched : (f : After-fetch-stack) (spare : ℕ) (P Q : Type 0) →
    let a = f.args in
    let v = f.advance.new in
    EitherBy (fetches a.ours.plan f.loop-e.stack (a.states - 1 - f.loop-e.e) spare (length v.work) (length f.loop-e.marks) (length v.held)) P Q →
    spare ≤ 1024 → P
fetched f spare P Q e few =
    let a = f.args in
    let i = f.loop-e.invariant in
    let places = found (goal.at.After-fetch-stack f).After-places_in-places in
    let fits : keys_size a.ours.plan + f.places_in-places.result * state_size a.ours.plan + state_size a.ours.plan ≤ length f.advance.new.work =
    omega (arith, f.advance.ensures.advanced.apart.len, i.1, room (goal.at.After-fetch-stack f).After-places_in-places) in
    let taken = fetches_if a.ours.plan f.loop-e.stack (a.states - 1 - f.loop-e.e) spare (length f.advance.new.work) (length f.loop-e.marks) (length f.advance.new.held) f.args.ours.formed
    (omega (arith, f.advance.ensures.held_len_unchanged, i.2, f.requires.plan_in_bounds_2.0))
    (omega (arith, f.advance.ensures.held_len_unchanged, i.2, f.requires.plan_in_bounds_2.1))
    (subst (λ (m : ℕ). StackFits a.ours.plan f.loop-e.stack (length f.advance.new.work) m) (sym i.3)
    (stack_fits_lem a.ours.plan (well_formed_sound _ f.args.ours.formed) f.places_in-places.result (length f.advance.new.work) f.loop-e.stack places.0 places.1 fits i.4))
    (omega (arith, f.requires.opposite.few)) few in
    rw taken at e

-- the stack that came back
stack_at : (f : After-fetch-stack) → let a = f.args in
    StackAt a.ours.plan f.places_in-places.result f.fetch-stack.result
stack_at f =
    let e = (fetched f _ _ _ f.fetch-stack.ensures.either (omega (arith, f.at_once-spare.ensures.lower_bound))).0 in
    let i = f.loop-e.invariant.4 in
    record { is_base = e.0 ∙ i.is_base; is_places = e.1 ∙ i.is_places; deep = omega (arith, e.2, i.is_places) }

-- where its last state begins
top_is : (t : After-top_of-from) → let f = t.fetch-stack.result in
    t.top_of-from.result ≡ f.base + (f.depth - 1) * state_size t.args.ours.plan
top_is t =
    let k = stack_at (goal.at.After-top_of-from t).After-fetch-stack in
    t.top_of-from.ensures
    ∙ sym
    (top_4 _ _ t.args.ours.formed (omega (arith, k.deep, (found (goal.at.After-top_of-from t).After-places_in-places).1))
    (omega (arith, k.is_base, (well_formed_sound _ t.args.ours.formed).few_pixels)))

pub slice_bounds-last_mark-end : goal.slice_bounds-last_mark-end
slice_bounds-last_mark-end c =
    sym ((fetched (goal.at.slice_bounds-last_mark-end c).After-fetch-stack _ _ _ c.fetch-stack.ensures.either (omega (arith, c.at_once-spare.ensures.lower_bound))).1.len ∙ c.loop-e.invariant.3)

pub overflow_add-meeting : goal.overflow_add-meeting
overflow_add-meeting c = omega (arith, c.requires.opposite.few)

-- ---- the two are joined
pub advance_joined-requires : goal.advance_joined-requires
advance_joined-requires c =
    let a = c.args in
    let i = c.loop-e.invariant in
    let g = fetched (goal.at.advance_joined-requires c).After-fetch-stack _ _ _ c.fetch-stack.ensures.either (omega (arith, c.at_once-spare.ensures.lower_bound)) in
    let m = c.last_mark.ensures in
    let taken = c.loop-e-test.true in
    let places = found (goal.at.advance_joined-requires c).After-places_in-places in
    let r = room (goal.at.advance_joined-requires c).After-places_in-places in
    let base = c.keys_size-base.ensures in
    let fits : keys_size a.ours.plan + c.places_in-places.result * state_size a.ours.plan + state_size a.ours.plan ≤ length c.fetch-stack.new.work =
    omega (arith, g.1.apart.len, c.advance.ensures.advanced.apart.len, i.1, r) in
    let top = top_fits a.ours.plan (well_formed_sound _ c.args.ours.formed) c.places_in-places.result (length c.fetch-stack.new.work) c.fetch-stack.result places.0 places.1 fits
    (stack_at (goal.at.advance_joined-requires c).After-fetch-stack) c.top_of-from.result (top_is (goal.at.advance_joined-requires c).After-top_of-from) in record {
      first_lt_past = (
        omega (arith, m, g.1.not_past),
        omega (arith, c.requires.opposite.few),
        full_last a.ours.plan a.theirs.plan a.states c.requires.opposite _ (omega (arith, taken)),
        omega (arith, i.0, c.requires.plan_in_bounds.1),
      );
      plan_bound = (top.0, top.1, omega (arith, base), omega (arith, base, r, fits));
      states_in_bounds = (
        half_fewer a.ours.plan _ (c.at_once-spare.result - 1) _ (omega (arith, m, g.1.near))
            (omega (arith, held_once (goal.at.advance_joined-requires c).After-at_once-spare, c.fetch-stack.ensures.held_len_unchanged, c.advance.ensures.held_len_unchanged, i.2)),
        omega (arith, c.fetch-stack.ensures.held_len_unchanged, c.advance.ensures.held_len_unchanged, i.2, c.requires.plan_in_bounds_2.1),
      );
    }

pub loop-e-preserved : goal.loop-e-preserved
loop-e-preserved c =
    let a = c.args in
    let i = c.loop-e.invariant in
    let g = fetched (goal.at.loop-e-preserved c).After-fetch-stack _ _ _ c.fetch-stack.ensures.either (omega (arith, c.at_once-spare.ensures.lower_bound)) in
    let base = c.keys_size-base.ensures.0 in
    let size = c.state_size-size.ensures.0 in
    let turn = linked_turn a.ours.plan a.theirs.plan a.states (well_formed_sound _ c.args.ours.formed) (well_formed_sound _ c.args.theirs.formed) c.requires.opposite c.loop-e.e (a.states - 1 - c.loop-e.e) c.places_in-places.result c.top_of-from.result
    c.last_mark.result _ c.loop-e.stack c.fetch-stack.result a.work.now a.best.now c.loop-e.work c.loop-e.best c.advance.new.work c.fetch-stack.new.work c.advance_joined.new.best c.loop-e.marks c.fetch-stack.new.marks
    c.loop-e-test.true refl i.4 g.0.0 (top_is (goal.at.loop-e-preserved c).After-top_of-from) c.last_mark.ensures (rw (base, size) at i.5) i.6 (rw (base, size) at c.advance.ensures.advanced) g.1 (rw (base, size) at c.advance_joined.ensures.joined) in (
      c.advance_joined.ensures.best_len_unchanged ∙ i.0,
      g.1.apart.len ∙ c.advance.ensures.advanced.apart.len ∙ i.1,
      c.advance_joined.ensures.held_len_unchanged ∙ c.fetch-stack.ensures.held_len_unchanged ∙ c.advance.ensures.held_len_unchanged ∙ i.2,
      g.1.len ∙ i.3,
      stack_at (goal.at.loop-e-preserved c).After-fetch-stack,
      rw (base, size) turn.0,
      turn.1,
    )

pub shape_of-best : goal.shape_of-best
shape_of-best c = c.loop-e.invariant.0

pub shape_of-work : goal.shape_of-work
shape_of-work c = c.loop-e.invariant.1

pub shape_of-held : goal.shape_of-held
shape_of-held c = c.loop-e.invariant.2

pub returns : goal.returns
returns c =
    let a = c.args in
    swept_all a.ours.plan a.theirs.plan a.states c.loop-e.e _ a.work.now a.best.now c.loop-e.work c.loop-e.best (omega (arith, c.loop-e-test.false)) c.loop-e.invariant.5
