-- Which sweeps are taken: the plans can be followed, and what is lent has room. A call that is not taken changes nothing. These definitions
-- serve contracts inside the engine only: no public contract cites them.
use Rattle.std.specs.Prelude.{ℕ, ◌+◌, ◌-◌, ◌*◌, Bool, cond, not, ◌&&◌, leb}
use Rattle.plans.specs.Plans.{keys_size, state_size}
use Rattle.plans.specs.Forms.{well_formed}
use Rattle.plans.specs.declared.plan.Plan.{Plan}
use Rattle.plans.specs.declared.plan.Reach.{Reach}
use Rattle.states.specs.Doors.{can_hold}

-- how many states there are with all their rows
unfoldable pub states_of : Plan → ℕ
states_of p = cond p.still p.orders (p.orders + 1 - p.rows)

-- the same rows counted the other way from a line or rank, with these steps
abbrev pub recounted : Plan → Reach → ℕ → Plan
recounted p reach origin =
    record {
      planes = p.planes;
      lines = p.lines;
      across = p.across;
      rows = p.rows;
      orders = p.orders;
      origin = origin;
      back = not p.back;
      still = p.still;
      ranked = p.ranked;
      top = p.top;
      bottom = p.bottom;
      left = p.left;
      right = p.right;
      linked = p.linked;
      lone = p.lone;
      pixel = p.pixel;
      slack = p.slack;
      reach = reach;
    }

-- the same rows counted from the other end, with steps that lead back
abbrev pub other_end : Plan → Reach → Plan
other_end p reach =
    recounted p reach (cond p.back (cond p.ranked (p.top + p.left) p.top) (cond p.ranked (p.bottom + p.right - 2) (p.bottom - 1)))

-- one state finds room behind the keys, or two where a state is made of the last one too
unfoldable pub room_for : Plan → ℕ
room_for p = keys_size p + cond p.linked 2 1 * state_size p

-- both plans can be followed with what a sweep holds, and work and best have so many numbers as they ask for
unfoldable pub sweepable : Plan → Reach → (work best : ℕ) → Bool
sweepable p reach work best =
    can_hold p 24480 && well_formed (other_end p reach) && leb (states_of p) 1024 && leb (room_for p) work && leb (keys_size p) best
