-- Which calls of this crate are taken: the plan can be followed, the numbers are those of its rows, and what is lent has room. A call that is not taken
-- changes nothing and finds nothing. These definitions serve contracts inside the engine only: no public contract cites them.
use Rattle.std.specs.Prelude.{ℕ, ◌+◌, ◌*◌, Bool, cond, ◌&&◌, leb, ltb}
use Rattle.plans.specs.Plans.{rows_in}
use Rattle.plans.specs.Forms.{well_formed}
use Rattle.plans.specs.declared.plan.Plan.{Plan}
use Rattle.states.specs.Doors.{state_fits}
use Rattle.walks.specs.Noting.{steps_past}
use Rattle.walks.specs.declared.found.Paths.{Paths}
use Rattle.walks.specs.declared.stand.Stand.{Stand}

-- a state of a plan that can be followed stands at a place, with so many numbers of work
unfoldable pub can_read : Plan → ℕ → ℕ → Bool
can_read p base work = well_formed p && state_fits p base work

-- all rows of state e have their notes within so many
unfoldable pub can_note : Plan → ℕ → ℕ → (notes work : ℕ) → Bool
can_note p e base notes work = can_read p base work && ltb e 65536 && leb base 65536 && leb (steps_past p e * p.planes) notes

-- walks of the plan have so many steps and gaps: on lines no more steps than the one state has rows
unfoldable pub can_end : Plan → ℕ → (steps gaps work : ℕ) → Bool
can_end p base steps gaps work = can_read p base work && ltb gaps p.planes && ltb steps (cond p.ranked 65536 (rows_in p 0))

-- a stand is in a row of the plan
unfoldable pub on_row : Plan → Stand → Bool
on_row p s = ltb s.state 65536 && ltb s.row (rows_in p s.state) && ltb s.pixel p.across && ltb s.gaps p.planes

-- and a state can be read to which a step leads
unfoldable pub can_step : Plan → ℕ → Stand → ℕ → Bool
can_step p base s work = can_read p base work && on_row p s

-- the notes of one side
abbrev pub notes_size : Paths → ℕ
notes_size n = (n.steps + 1) * (n.gaps + 1)

-- the notes of both sides are so many, and a pixel of this rank has paths of so many steps, of which the longest have `spare` more
unfoldable pub can_search : Paths → (rank ends goes : ℕ) → Bool
can_search n rank ends goes =
    ltb n.steps 65536
    && leb n.gaps 8
    && ltb n.spare 65536
    && leb rank (n.steps + n.spare)
    && leb (notes_size n) ends
    && leb (notes_size n) goes
