-- What the tests of specs/Forms.antt say of a plan that passes them.
use Prim.Native.Nat.{ℕ, ◌*◌, ◌≤◌, ◌<◌}
use mathlib.Core.Path.{◌≡◌, refl}
use mathlib.Core.Bool.{Bool, true, false, cond, not, ◌&&◌}
use mathlib.Core.Logic.{◌⊎◌, inl, inr}
use lib.Dec.{leb, ltb, eqb}
use borrow.Author.Tests.{ltb-true, leb-true, eqb-true, not-true}
use Rattle.basics.proofs.Tests.{true_T, T_true, and_both}
use Rattle.plans.specs.Forms.{among, in_limits, in_frame, orders_of, origin_of, is_counted, is_shaped, step_on_lines, step_on_ranks, step_held, steps_held, well_formed}
use Rattle.plans.specs.declared.plan.Plan.{Plan}

-- two tests that pass together
pub both : (a b : Bool) → (a && b) ≡ true → (a ≡ true) × (b ≡ true)
both a b e = let r = and_both a b (true_T (a && b) e) in (T_true a r.0, T_true b r.1)

pub among_from : (lo hi n : ℕ) → among lo hi n ≡ true → lo ≤ n
unfolding among
among_from lo hi n e = leb-true lo n (both (leb lo n) (leb n hi) e).0

pub among_high : (lo hi n : ℕ) → among lo hi n ≡ true → n ≤ hi
unfolding among
among_high lo hi n e = leb-true n hi (both (leb lo n) (leb n hi) e).1

-- sizes of a plate
pub record Limits (p : Plan) : Type 0 where
  pub some_planes : 1 ≤ p.planes
  pub few_planes : p.planes ≤ 9
  pub some_lines : 1 ≤ p.lines
  pub few_lines : p.lines ≤ 1024
  pub some_across : 1 ≤ p.across
  pub few_across : p.across ≤ 1024
  pub some_rows : 1 ≤ p.rows
  pub few_rows : p.rows ≤ 1024
  pub few_pixels : p.lines * p.across ≤ 65536

pub limits_facts : (p : Plan) → in_limits p ≡ true → Limits p
unfolding in_limits
limits_facts p e =
    let pixels = leb (p.lines * p.across) 65536 in
    let rows = among 1 1024 p.rows in
    let across = among 1 1024 p.across in
    let lines = among 1 1024 p.lines in
    let planes = among 1 9 p.planes in
    let f = both (planes && lines && across && rows) pixels e in
    let d = both (planes && lines && across) rows f.0 in
    let b = both (planes && lines) across d.0 in
    let a = both planes lines b.0 in
    record {
      some_planes = among_from 1 9 p.planes a.0;
      few_planes = among_high 1 9 p.planes a.0;
      some_lines = among_from 1 1024 p.lines a.1;
      few_lines = among_high 1 1024 p.lines a.1;
      some_across = among_from 1 1024 p.across b.1;
      few_across = among_high 1 1024 p.across b.1;
      some_rows = among_from 1 1024 p.rows d.1;
      few_rows = among_high 1 1024 p.rows d.1;
      few_pixels = leb-true (p.lines * p.across) 65536 f.1;
    }

-- an area of the frame
pub record Area (p : Plan) : Type 0 where
  pub high : p.top < p.bottom
  pub low : p.bottom ≤ p.lines
  pub wide : p.left < p.right
  pub narrow : p.right ≤ p.across

pub frame_facts : (p : Plan) → in_frame p ≡ true → Area p
unfolding in_frame
frame_facts p e =
    let wide = ltb p.left p.right in
    let narrow = leb p.right p.across in
    let low = leb p.bottom p.lines in
    let high = ltb p.top p.bottom in
    let d = both (high && low && wide) narrow e in
    let b = both (high && low) wide d.0 in
    let a = both high low b.0 in
    record {
      high = ltb-true p.top p.bottom a.0;
      low = leb-true p.bottom p.lines a.1;
      wide = ltb-true p.left p.right b.1;
      narrow = leb-true p.right p.across d.1;
    }

-- ---- how rows are counted, what they are, and where steps lead

pub record Counted (p : Plan) : Type 0 where
  pub orders : p.orders ≡ orders_of p
  pub origin : p.origin ≡ origin_of p

pub counted_facts : (p : Plan) → is_counted p ≡ true → Counted p
unfolding is_counted
counted_facts p e =
    let b = both (eqb p.orders (orders_of p)) (eqb p.origin (origin_of p)) e in
    record { orders = eqb-true p.orders (orders_of p) b.0; origin = eqb-true p.origin (origin_of p) b.1 }

-- all that a well-formed plan passed
pub record Formed (p : Plan) : Type 0 where
  pub limits : Limits p
  pub area : Area p
  pub counted : Counted p
  pub shaped : is_shaped p ≡ true
  pub first : step_held p p.reach.y0 p.reach.x0 ≡ true
  pub second : step_held p p.reach.y1 p.reach.x1 ≡ true
  pub third : step_held p p.reach.y2 p.reach.x2 ≡ true

steps_facts : (p : Plan) → steps_held p ≡ true →
    (step_held p p.reach.y0 p.reach.x0 ≡ true) × (step_held p p.reach.y1 p.reach.x1 ≡ true) ×
    (step_held p p.reach.y2 p.reach.x2 ≡ true)
unfolding steps_held
steps_facts p e =
    let first = step_held p p.reach.y0 p.reach.x0 in
    let second = step_held p p.reach.y1 p.reach.x1 in
    let third = step_held p p.reach.y2 p.reach.x2 in
    let b = both (first && second) third e in
    let a = both first second b.0 in (a.0, a.1, b.1)

pub formed : (p : Plan) → well_formed p ≡ true → Formed p
unfolding well_formed
formed p e =
    let d = both (in_limits p && in_frame p && is_counted p && is_shaped p) (steps_held p) e in
    let c = both (in_limits p && in_frame p && is_counted p) (is_shaped p) d.0 in
    let b = both (in_limits p && in_frame p) (is_counted p) c.0 in
    let a = both (in_limits p) (in_frame p) b.0 in
    let s = steps_facts p d.1 in
    record {
      limits = limits_facts p a.0;
      area = frame_facts p a.1;
      counted = counted_facts p b.1;
      shaped = c.1;
      first = s.0;
      second = s.1;
      third = s.2;
    }

-- ---- lines

pub record OnLines (p : Plan) : Type 0 where
  pub from_left : p.left ≡ 0
  pub to_right : p.right ≡ p.across

pub lines_shaped : (p : Plan) → p.ranked ≡ false → is_shaped p ≡ true → OnLines p
unfolding is_shaped
lines_shaped p r e =
    let b = both (eqb p.left 0) (eqb p.right p.across) (rw r at e) in
    record { from_left = eqb-true p.left 0 b.0; to_right = eqb-true p.right p.across b.1 }

pub line_step : (p : Plan) (y x : ℕ) → p.ranked ≡ false → step_held p y x ≡ true → (x ≤ 2) × (y ≤ cond p.linked 2 0)
unfolding step_held step_on_lines
line_step p y x r e =
    let b = both (leb x 2) (leb y (cond p.linked 2 0)) (rw r at e) in (leb-true x 2 b.0, leb-true y (cond p.linked 2 0) b.1)

-- ---- ranks

pub record OnRanks (p : Plan) : Type 0 where
  pub moves : p.still ≡ false
  pub linked : p.linked ≡ true
  pub slim : p.across ≤ p.lines

pub ranks_shaped : (p : Plan) → p.ranked ≡ true → is_shaped p ≡ true → OnRanks p
unfolding is_shaped
ranks_shaped p r e =
    let b = both (not p.still && p.linked) (leb p.across p.lines) (rw r at e) in
    let a = both (not p.still) p.linked b.0 in
    record { moves = not-true p.still a.0; linked = a.1; slim = leb-true p.across p.lines b.1 }

-- a step to the rank before, or by one pixel to the one before that
pub rank_step : (p : Plan) (y x : ℕ) → p.ranked ≡ true → step_held p y x ≡ true →
    ((y ≡ 2) × (cond p.back 1 0 ≤ x) × (x ≤ cond p.back 2 1)) ⊎ ((y ≡ 1) × (x ≡ cond p.back 2 0))
unfolding step_held step_on_ranks
rank_step p y x r e = go (eqb y 2) refl (rw r at e)
  where
    go : (b : Bool) → eqb y 2 ≡ b →
        cond b (among (cond p.back 1 0) (cond p.back 2 1) x) (eqb y 1 && eqb x (cond p.back 2 0)) ≡ true →
        ((y ≡ 2) × (cond p.back 1 0 ≤ x) × (x ≤ cond p.back 2 1)) ⊎ ((y ≡ 1) × (x ≡ cond p.back 2 0))
    go true t h = inl (eqb-true y 2 t, among_from (cond p.back 1 0) (cond p.back 2 1) x h, among_high (cond p.back 1 0) (cond p.back 2 1) x h)
    go false t h =
        let b = both (eqb y 1) (eqb x (cond p.back 2 0)) h in inr (eqb-true y 1 b.0, eqb-true x (cond p.back 2 0) b.1)
