-- Which plans a sweep can follow, as one computed test: every door that takes a plan asks it first. The sizes are those of a plate, the area lies on
-- the frame, rows are counted through it from one end to the other, and a step leads no further than what is held. proofs/FormLaws.antt shows that
-- such a plan is sound. These definitions serve contracts inside the engine only: no public contract cites them.
use Rattle.std.specs.Prelude.{ℕ, ◌+◌, ◌-◌, ◌*◌, Bool, cond, not, ◌&&◌, leb, ltb, eqb}
use Rattle.plans.specs.declared.plan.Plan.{Plan}

-- n is one of the numbers from lo to hi
unfoldable pub among : ℕ → ℕ → ℕ → Bool
among lo hi n = leb lo n && leb n hi

-- planes for up to 8 gaps, and lines, pixels and rows as a plate can have them
unfoldable pub in_limits : Plan → Bool
in_limits p = among 1 9 p.planes && among 1 1024 p.lines && among 1 1024 p.across && among 1 1024 p.rows && leb (p.lines * p.across) 65536

-- the lines and pixels that count are some of the frame's
unfoldable pub in_frame : Plan → Bool
in_frame p = ltb p.top p.bottom && leb p.bottom p.lines && ltb p.left p.right && leb p.right p.across

-- how many lines or ranks the area has, and with which of them the count begins: the first, or the last where it goes back
unfoldable pub orders_of : Plan → ℕ
orders_of p = cond p.ranked (p.bottom - p.top + (p.right - p.left) - 1) (p.bottom - p.top)

unfoldable pub origin_of : Plan → ℕ
origin_of p = cond p.back (cond p.ranked (p.bottom + p.right - 2) (p.bottom - 1)) (cond p.ranked (p.top + p.left) p.top)

unfoldable pub is_counted : Plan → Bool
is_counted p = eqb p.orders (orders_of p) && eqb p.origin (origin_of p)

-- rows are whole lines, or ranks, of which a state has one after the other
unfoldable pub is_shaped : Plan → Bool
is_shaped p = cond p.ranked (not p.still && p.linked && leb p.across p.lines) (eqb p.left 0 && eqb p.right p.across)

-- on lines: a step to one of the rows held, one pixel back, none or one on; without links only to the row before of the same state
unfoldable pub step_on_lines : Bool → ℕ → ℕ → Bool
step_on_lines linked y x = leb x 2 && leb y (cond linked 2 0)

-- on ranks: a step to the rank before, by no pixel or by one, or by one pixel to the rank before that
unfoldable pub step_on_ranks : Bool → ℕ → ℕ → Bool
step_on_ranks back y x = cond (eqb y 2) (among (cond back 1 0) (cond back 2 1) x) (eqb y 1 && eqb x (cond back 2 0))

unfoldable pub step_held : Plan → ℕ → ℕ → Bool
step_held p y x = cond p.ranked (step_on_ranks p.back y x) (step_on_lines p.linked y x)

unfoldable pub steps_held : Plan → Bool
steps_held p = step_held p p.reach.y0 p.reach.x0 && step_held p p.reach.y1 p.reach.x1 && step_held p p.reach.y2 p.reach.x2

unfoldable pub well_formed : Plan → Bool
well_formed p = in_limits p && in_frame p && is_counted p && is_shaped p && steps_held p
