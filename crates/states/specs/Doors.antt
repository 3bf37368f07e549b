-- Which calls of this crate are taken: the plan can be followed, and what is lent has room. A call that is not taken changes nothing. These definitions
-- serve contracts inside the engine only: no public contract cites them.
use Rattle.std.specs.Prelude.{ℕ, ◌+◌, ◌-◌, Bool, ◌&&◌, ◌||◌, leb, ltb, eqb}
use Rattle.plans.specs.Plans.{rows_in, half_with, keys_size, state_size}
use Rattle.plans.specs.Forms.{well_formed}
use Rattle.plans.specs.declared.plan.Plan.{Plan}
use Rattle.states.specs.declared.state.Stretch.{Stretch}
use Rattle.states.specs.States.{further_in}

-- the length of `held` suffices for two rows of each state, where `more` are made at once with the first
unfoldable pub held_fits : Plan → (more held : ℕ) → Bool
held_fits p more held = leb (half_with p more + half_with p more) held && leb held 40000

-- a plan that can be followed, with room for the held rows of one state
unfoldable pub can_hold : Plan → ℕ → Bool
can_hold p held = well_formed p && held_fits p 0 held

-- a plan that can be followed and states of it, with room for the held rows of all of them
unfoldable pub can_make : Plan → Stretch → ℕ → Bool
can_make p s held = well_formed p && ltb s.first s.past && leb s.past 65536 && held_fits p (further_in s) held

-- a state stands behind the keys and within so many numbers of work
unfoldable pub state_fits : Plan → ℕ → ℕ → Bool
state_fits p at work = leb (keys_size p) at && leb (at + state_size p) work

-- two states at the same place, or at places that do not overlap
unfoldable pub same_or_apart : Plan → ℕ → ℕ → Bool
same_or_apart p from to = eqb from to || leb (from + state_size p) to || leb (to + state_size p) from

-- the states of a stretch from the one at `from`, the last to `to`, with so many numbers of work and held
unfoldable pub advances : Plan → Stretch → (from to work held : ℕ) → Bool
advances p s from to work held = can_make p s held && state_fits p from work && state_fits p to work && same_or_apart p from to

-- the states of a stretch from the one at `from`; the last, which has all rows, is joined with the one at `ends`
unfoldable pub joins : Plan → Stretch → (from ends best work held : ℕ) → Bool
joins p s from ends best work held =
    can_make p s held
    && eqb (rows_in p (s.past - 1)) p.rows
    && state_fits p from work
    && state_fits p ends work
    && leb (keys_size p) best
