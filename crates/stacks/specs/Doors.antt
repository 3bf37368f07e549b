-- Which calls of the stack are taken: the plan can be followed, and what is lent has room. A call that is not taken changes nothing. These
-- definitions serve contracts inside the engine only: no public contract cites them.
use Rattle.std.specs.Prelude.{ℕ, ◌+◌, ◌-◌, ◌*◌, ◌/◌, min, Bool, cond, ◌&&◌, eqb, leb, ltb}
use Rattle.plans.specs.Plans.{keys_size, state_size, block_of}
use Rattle.plans.specs.Forms.{among, well_formed}
use Rattle.plans.specs.declared.plan.Plan.{Plan}
use Rattle.states.specs.Doors.{can_hold}
use Rattle.stacks.specs.declared.stack.Stack.{Stack}

-- the stack stands behind the keys, and its places find room in work and in marks
unfoldable pub stack_fits : Plan → Stack → (work marks : ℕ) → Bool
stack_fits p s work marks =
    leb (keys_size p) s.base
    && ltb s.base 16777216
    && among 1 64 s.places
    && leb s.depth s.places
    && leb (s.base + s.places * state_size p) work
    && leb s.places marks

unfoldable pub fetches : Plan → Stack → (want spare work marks held : ℕ) → Bool
fetches p s want spare work marks held = can_hold p held && stack_fits p s work marks && leb want 1024 && leb spare 1024

-- where the last state of a stack begins, where the stack does if it is empty; 0 where it is none
unfoldable pub has_top : Plan → Stack → Bool
has_top p s = well_formed p && leb s.depth 64 && ltb s.base 16777216

unfoldable pub top_of : Plan → Stack → ℕ
top_of p s = cond (has_top p s) (s.base + (s.depth - 1) * state_size p) 0

-- how many states are made at once where they are linked: as many rows as find room twice in the held numbers, less that of the state before, up to six
abbrev pub linked_at_once : Plan → (held : ℕ) → ℕ
linked_at_once p held = cond p.linked (min (held / 2 / block_of p - 1) 6) 1

-- one where the plan cannot be followed with what is lent
unfoldable pub at_once : Plan → ℕ → ℕ
at_once p held = cond (can_hold p held) (linked_at_once p held) 1

-- how many states of a size find room, up to the 64 that a stack has places for; none where they have no size
unfoldable pub places_in : (room size : ℕ) → ℕ
places_in room size = cond (eqb size 0) 0 (min (room / size) 64)
