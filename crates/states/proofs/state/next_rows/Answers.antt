-- `next_rows` meets its contract. Each state's row is made beside that of the state before, one row nearer to the beginning of the half.
use Prim.Native.Nat.{ℕ, ◌+◌, ◌-◌, ◌*◌, ◌≤◌, ◌<◌}
use mathlib.Core.Path.{◌≡◌, refl, subst, sym}
use native.Mathlib.Omega.{arith}
use lib.ListN.{length}
use Rattle.plans.specs.Plans.{rows_in, block_of, half_of}
use Rattle.states.specs.Holding.{Slotted}
use Rattle.states.specs.States.{further_in}
use Rattle.states.specs.declared.state.Slots.{Slots}
use Rattle.plans.proofs.FormLaws.{well_formed_sound}
use Rattle.states.proofs.SizeLaws.{half_room, row_earlier}
use Rattle.states.proofs.StretchLaws.{rows_none, rows_more, rows_all, halves_room, slotted_at}
use Rattle.states.proofs.state.next_rows.Goals as goal
use Rattle.states.proofs.state.next_rows.Goals.{After-further, At-loop-e, Start}

-- ---- what is known of a state of the stretch
-- its slots have room
room : (s : Start) (d : ℕ) → let a = s.args in a.batch.states.first ≤ d →
    (a.slots.was + (a.batch.states.past - 1 - d) * block_of a.followed.plan + half_of a.followed.plan ≤ length a.held.now)
    × (a.slots.now + (a.batch.states.past - 1 - d) * block_of a.followed.plan + half_of a.followed.plan ≤ length a.held.now)
    × (length a.held.now ≤ 40000)
room s d l = halves_room s.args.followed.plan _ (further_in s.args.batch.states) s.args.slots _ s.requires.halves (omega arith)

slotted : (s : Start) (d size : ℕ) (t : Slots) → let a = s.args in a.batch.states.first ≤ d → size ≡ length a.held.now →
    t.was ≡ a.slots.was + (a.batch.states.past - 1 - d) * block_of a.followed.plan →
    t.now ≡ a.slots.now + (a.batch.states.past - 1 - d) * block_of a.followed.plan → Slotted a.followed.plan t size
slotted s d size t l e ew en =
    subst (λ (n : ℕ). Slotted s.args.followed.plan t n) (sym e)
    (slotted_at s.args.followed.plan _ (further_in s.args.batch.states) s.args.slots t _ s.requires.halves (omega arith) ew en)

has_row : (s : Start) (d : ℕ) → let a = s.args in d < a.batch.states.past → a.m < rows_in a.followed.plan d
has_row s d l = row_earlier s.args.followed.plan (s.args.batch.states.past - 1) d s.args.m (well_formed_sound _ s.args.followed.formed) (omega arith) s.requires.m_bound.0

-- ---- up to the loop
pub loop-e-init : goal.loop-e-init
loop-e-init c = rows_none _ _ _ _ _ _ _

-- ---- a turn
abbrev start : (h : At-loop-e) → Start
start h = (goal.at.At-loop-e h).Start

pub overflow_mul-at : goal.overflow_mul-at
overflow_mul-at c = rw c.block_size-block.ensures.0 (omega (arith, c.well_formed, room (start (goal.at.overflow_mul-at c).At-loop-e) c.loop-e.e (omega arith)))

pub further-requires : goal.further-requires
further-requires c = rw c.block_size-block.ensures.0 (omega (arith, half_room c.args.followed.plan, room (start (goal.at.further-requires c).At-loop-e) c.loop-e.e (omega arith)))

pub make_row-requires : goal.make_row-requires
make_row-requires c =
    let taken = c.loop-e-test.true in record { e_bound = (omega (arith, c.args.batch.some, c.args.batch.near, taken), has_row (start (goal.at.make_row-requires c).At-loop-e) c.loop-e.e taken, c.requires.m_bound.1); slotted = slotted (start (goal.at.make_row-requires c).At-loop-e) c.loop-e.e _ c.further.result (omega arith) c.loop-e.auto.held (rw c.block_size-block.ensures.0 at c.further.ensures.0) (rw c.block_size-block.ensures.0 at c.further.ensures.1) }

pub loop-e-preserved : goal.loop-e-preserved
loop-e-preserved c =
    rows_more _ _ _ _ _ _ _ c.loop-e.e _ _ _ c.further.result _ (well_formed_sound _ c.args.followed.formed) (omega arith) c.loop-e-test.true c.args.batch.near c.requires.m_bound.0 refl c.requires.halves
    (rw c.block_size-block.ensures.0 at c.further.ensures.0) (rw c.block_size-block.ensures.0 at c.further.ensures.1) c.loop-e.invariant c.make_row.ensures

-- ---- the end
pub returns : goal.returns
returns c = rows_all _ _ _ _ _ _ _ c.loop-e.e _ (omega (arith, c.loop-e-test.false)) c.loop-e.invariant
