-- `make_states` meets its contract. After m rows the rows before m of the last state stand at `to`, and the halves hold row m − 1 of all states. A row
-- that is made reads the keys and the rows from m on of the state at `from`, which stand as they did; its place is written when it is made.
use Prim.Native.Nat.{suc, ◌+◌, ◌-◌, ◌<◌}
use mathlib.Core.Path.{◌≡◌, refl, ap}
use native.Mathlib.Omega.{arith}
use Rattle.plans.specs.Plans.{rows_in}
use Rattle.eights.specs.Turned.{numbers}
use Rattle.states.specs.Holding.{NextRows, AllRows}
use Rattle.eights.proofs.TurnedLaws.{turned_high}
use Rattle.plans.proofs.FollowedSizes.{row_bound}
use Rattle.plans.proofs.FormLaws.{well_formed_sound}
use Rattle.states.proofs.TurnedLaws.{same_many, numbers_filled}
use Rattle.states.proofs.SizeLaws.{row_fits, row_earlier, row_within, half_room}
use Rattle.states.proofs.StretchLaws.{halves_room, last_room, slotted_at, rows_one, rows_same, turn}
use Rattle.states.proofs.StateLaws.{halves_first, halves_same, halves_swapped, kept_apart, Making, making_none, making_more, making_swapped}
use Rattle.states.proofs.StateLaws.{stored_none, stored_more, stored_all}
use Rattle.states.proofs.state.make_states.Goals as goal
use Rattle.states.proofs.state.make_states.Goals.{then-first-e, else-first-e}
use Rattle.states.proofs.state.make_states.Goals.{In-loop-m, Joined-first-e}

-- ---- what is known in a turn
row_left : (t : In-loop-m) → let a = t.args in t.loop-m.m < rows_in a.followed.plan (a.batch.states.past - 1)
row_left t = omega (arith, t.loop-m-test.true, t.rows_in-rows.ensures)

-- the rows of all states, or the one of a state by itself, beside that of the state before
rows : (j : Joined-first-e) → let a = j.args in NextRows a.followed.plan a.batch.states.first a.batch.states.past j.loop-m.m j.loop-m.work j.loop-m.slots (numbers j.hold_last.new.held) (numbers j.if-first-e.held)
rows j =
    elim j.if-first-e.branch [
      | then-first-e w ↦ rows_same _ _ _ _ _ _ _ _ _ w.next_rows.ensures (ap numbers w.held-is)
      | else-first-e w ↦
          let alone : j.args.batch.states.past ≡ j.args.batch.states.first + 1 = omega (arith, w.if-first-e.false, j.args.batch.some, j.args.batch.near) in
          rows_same _ _ _ _ _ _ _ _ _ (rows_one _ _ _ _ _ _ _ _ _ (well_formed_sound _ j.args.followed.formed) alone j.args.batch.near (row_left (goal.at.Joined-first-e j).In-loop-m) j.loop-m.invariant.0 w.make_row.ensures) (ap numbers w.held-is)
    ]

turned : (j : Joined-first-e) → let a = j.args in AllRows a.followed.plan a.batch.states.first a.batch.states.past j.loop-m.m j.loop-m.work a.from j.loop-m.slots (numbers j.loop-m.held) (numbers j.if-first-e.held)
turned j =
    turn _ _ _ _ _ _ _ _ _ _ _ _ _ (well_formed_sound _ j.args.followed.formed) j.args.batch.some j.args.batch.near (row_left (goal.at.Joined-first-e j).In-loop-m) j.loop-m.invariant.0 j.half_with-half.ensures.0 (omega (arith, j.block_size.ensures))
    j.hold_last.ensures.last_row j.hold_last.ensures.apart (rows j)

made : (j : Joined-first-e) → let a = j.args in Making a.followed.plan a.batch.states.first a.batch.states.past (suc j.loop-m.m) a.work.now a.from (numbers j.if-first-e.held) j.loop-m.slots.now
made j =
    let kept = kept_apart j.args.followed.plan j.loop-m.m _ j.loop-m.work j.args.from j.args.to j.requires.plan_bound.1 j.requires.fact j.loop-m.invariant.2.apart in
    making_more _ _ _ _ _ _ _ _ _ _ (well_formed_sound _ j.args.followed.formed) j.args.batch.some j.args.batch.near kept j.loop-m.invariant.1 (turned j)

-- ---- the needs
pub overflow_sub-e : goal.overflow_sub-e
overflow_sub-e c = omega (arith, c.args.batch.some)

pub overflow_sub-e-2 : goal.overflow_sub-e-2
overflow_sub-e-2 c = omega (arith, c.args.batch.some)

pub half_with-half-requires : goal.half_with-half-requires
half_with-half-requires c = omega (arith, c.args.batch.some, c.args.batch.near)

pub overflow_sub-last : goal.overflow_sub-last
overflow_sub-last c = omega (arith, c.block_size.ensures, half_room c.args.followed.plan, c.half_with-half.ensures)

pub fill_run-requires : goal.fill_run-requires
fill_run-requires c = omega (arith, c.requires.states_in_bounds, c.half_with-half.ensures)

pub loop-m-init : goal.loop-m-init
loop-m-init c =
    let h = c.half_with-half.ensures in (
      halves_first _ _ _ _ _ refl h.0 c.requires.states_in_bounds.0 c.requires.states_in_bounds.1 c.fill_run.auto.to,
      making_none c.args.followed.plan _ _ _ _ _ _ _
          (numbers_filled _ _ _ _ _ _ c.fill_run.ensures (omega (arith, h.0, c.requires.states_in_bounds)) (turned_high 32768 (omega arith))) (omega (arith, h.0)),
      stored_none _ _ _ _ _ _,
    )

pub overflow_add-slots : goal.overflow_add-slots
overflow_add-slots c = omega (arith, c.block_size.ensures, last_room _ _ _ _ _ c.loop-m.invariant.0 c.half_with-half.ensures.0)

pub hold_last-requires : goal.hold_last-requires
hold_last-requires c =
    let a = c.args in record {
      e_bound = (
        omega (arith, a.batch.some, a.batch.near),
        row_earlier a.followed.plan (a.batch.states.past - 1) a.batch.states.first c.loop-m.m (well_formed_sound _ a.followed.formed) (omega (arith, a.batch.some, a.batch.near)) (row_left (goal.at.hold_last-requires c).In-loop-m),
        omega (arith, c.block_size.ensures, last_room _ _ _ _ _ c.loop-m.invariant.0 c.half_with-half.ensures.0),
        omega (arith, c.requires.plan_bound, c.loop-m.invariant.2.apart.len),
      );
    }

pub next_rows-requires : goal.next_rows-requires
next_rows-requires c =
    record { m_bound = (row_left (goal.at.next_rows-requires c).In-loop-m, omega (arith, c.requires.plan_bound, c.loop-m.invariant.2.apart.len)); halves = halves_same _ _ _ _ _ c.loop-m.invariant.0 c.hold_last.auto.held }

pub make_row-requires : goal.make_row-requires
make_row-requires c =
    record { e_bound = (omega (arith, c.args.batch.some, c.args.batch.near), row_left (goal.at.make_row-requires c).In-loop-m, omega (arith, c.requires.plan_bound, c.loop-m.invariant.2.apart.len)); slotted = slotted_at c.args.followed.plan 0 _ _ _ _ (halves_same _ _ _ _ _ c.loop-m.invariant.0 c.hold_last.auto.held) (omega arith) (omega arith) (omega arith) }

pub store_row-requires : goal.store_row-requires
store_row-requires c =
    let p = c.args.followed.plan in
    let e = c.args.batch.states.past - 1 in
    let near : e < 65536 = omega (arith, c.args.batch.some, c.args.batch.near) in
    let left = row_left (goal.at.store_row-requires c).In-loop-m in
    let r = c.row-row.ensures.inside near left in (
      row_fits p e c.loop-m.m c.row-row.result (well_formed_sound _ c.args.followed.formed) near left r.0 r.1,
      omega (arith, half_room p, halves_room p 0 _ c.loop-m.slots _ c.loop-m.invariant.0 (omega arith), same_many _ _ (turned (goal.at.store_row-requires c).Joined-first-e).len),
      omega (arith, row_within p e c.loop-m.m left, c.requires.plan_bound, c.loop-m.invariant.2.apart.len),
    )

pub overflow_mul-at : goal.overflow_mul-at
overflow_mul-at c = omega (arith, row_bound c.args.followed.plan c.args.followed.formed)

pub overflow_mul-at-in-loop-m : goal.overflow_mul-at-in-loop-m
overflow_mul-at-in-loop-m c =
    omega (arith, row_within c.args.followed.plan (c.args.batch.states.past - 1) c.loop-m.m (row_left (goal.at.overflow_mul-at-in-loop-m c).In-loop-m), c.requires.plan_bound, c.well_formed.0, c.loop-m.invariant.2.apart.len)

pub overflow_add-at : goal.overflow_add-at
overflow_add-at c =
    omega (arith, row_within c.args.followed.plan (c.args.batch.states.past - 1) c.loop-m.m (row_left (goal.at.overflow_add-at c).In-loop-m), c.requires.plan_bound, c.well_formed.0, c.loop-m.invariant.2.apart.len)

pub loop-m-preserved : goal.loop-m-preserved
loop-m-preserved c =
    let i = c.loop-m.invariant in
    let r = c.row-row.ensures.inside (omega (arith, c.args.batch.some, c.args.batch.near)) (row_left (goal.at.loop-m-preserved c).In-loop-m) in
    let w = c.swapped-slots.ensures in
    let j = (goal.at.loop-m-preserved c).Joined-first-e in
    let m = made j in (
      halves_swapped _ _ _ _ _ _ i.0 w.0 w.1 (same_many _ _ (turned j).len),
      making_swapped _ _ _ _ _ _ _ _ _ _ m refl w.0,
      stored_more _ _ _ _ _ _ _ _ _ _ _ _ _ _ _ (well_formed_sound _ c.args.followed.formed) c.args.batch.some c.args.batch.near (row_left (goal.at.loop-m-preserved c).In-loop-m) refl refl r.0 r.1 i.2 m
          c.store_row.ensures.by_index c.store_row.ensures.apart,
    )

pub shape_of-work : goal.shape_of-work
shape_of-work c = c.loop-m.invariant.2.apart.len

pub shape_of-held : goal.shape_of-held
shape_of-held c = omega (arith, c.loop-m.auto.held, c.fill_run.auto.to)

pub returns : goal.returns
returns c = record { advanced = stored_all _ _ _ _ _ _ _ _ c.loop-m.invariant.2 (omega (arith, c.rows_in-rows.ensures)); held_len_unchanged = omega (arith, c.loop-m.auto.held, c.fill_run.auto.to) }
