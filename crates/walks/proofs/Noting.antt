-- The notes of one state: they rise to the planes of a row, and to one row after the other.
use Prim.Native.Nat.{ℕ, ◌+◌, ◌-◌, ◌*◌, ◌≤◌, ◌<◌, min}
use mathlib.Core.Path.{◌≡◌, refl, sym, ap, subst, ◌∙◌}
use mathlib.Core.Bool.{Bool, true, false, cond}
use mathlib.Core.List.{List}
use mathlib.Core.Logic.{◌⊎◌, inl, inr, ⊎_elim}
use native.Mathlib.Omega.{arith}
use lib.ListN.{length, get_or, set}
use Rattle.basics.proofs.Numbers.{le_or_lt, rows_fit}
use Rattle.plans.specs.Plans.{rows_in, row_lo, row_hi, row_at, row_size, steps_at}
use Rattle.plans.specs.declared.plan.Plan.{Plan}
use Rattle.walks.specs.Noting.{Highest, Lifted, FromRow, FromState, steps_past, row_ended}
use Rattle.walks.specs.Endings.{ended_at, ended_in}
use Rattle.theory.specs.BestWalks.{ended}
use Rattle.walks.proofs.Parts.{part, part_length, part_ended}
use Rattle.walks.proofs.Lifting.{FromRun, lifted_then, lifted_none, lifted_same, lifted_set}

-- ---- the planes of a row

pub row_lifted_none : (f : ℕ → ℕ → ℕ) (lo hi to : ℕ) (notes : List ℕ) → Lifted (FromRow f lo hi to 0) notes notes
row_lifted_none f lo hi to notes = lifted_none _ notes (λ q v s. omega (arith, s.plane_below))

module _ (f : ℕ → ℕ → ℕ) (lo hi to j : ℕ) where
  row_split : (q v : ℕ) → FromRow f lo hi to (j + 1) q v → FromRow f lo hi to j q v ⊎ FromRun (f j) lo hi (to + j) q v
  row_split q v s =
      ⊎_elim
      (λ l.
      let same : s.plane ≡ j = omega (arith, s.plane_below) in
      inr (record {
        pixel = s.pixel;
        low = s.low;
        high = s.high;
        at = s.at ∙ ap (λ (n : ℕ). to + n) same;
        is = s.is ∙ ap (λ (n : ℕ). f n
            s.pixel) same;
      }))
      (λ l. inl (record { plane = s.plane; pixel = s.pixel; plane_below = l; low = s.low; high = s.high; at = s.at; is = s.is }))
      (le_or_lt j s.plane)

  row_wider : (q v : ℕ) → FromRow f lo hi to j q v → FromRow f lo hi to (j + 1) q v
  row_wider q v s =
      record { plane = s.plane; pixel = s.pixel; plane_below = omega (arith, s.plane_below); low = s.low; high = s.high; at = s.at; is = s.is }

  row_last : (q v : ℕ) → FromRun (f j) lo hi (to + j) q v → FromRow f lo hi to (j + 1) q v
  row_last q v s = record { plane = j; pixel = s.pixel; plane_below = omega arith; low = s.low; high = s.high; at = s.at; is = s.is }

  pub row_lifted_more :
      (r : ℕ) (old mid : List ℕ) → to + j < length mid → Lifted (FromRow f lo hi to j) old mid → Highest (f j) lo hi (get_or mid (to + j) 0) r →
      Lifted (FromRow f lo hi to (j + 1)) old (set mid (to + j) r)
  row_lifted_more r old mid l d h =
      lifted_then _ _ _ old mid (set mid (to + j) r) row_split row_wider row_last d (lifted_set (f j) lo hi (to + j) r mid l h)

-- the part of the work buffer that is plane j of a row, with the part that its keys are
module _ (work : List ℕ) (slack key at across j lo hi v r : ℕ) (ordered : lo ≤ hi) (keyed : key + hi ≤ length work)
    (there : at + j * across + hi ≤ length work) where
  abbrev from : ℕ
  from = at + j * across + lo

  abbrev past : ℕ
  past = at + j * across + hi

  cell_same :
      (x k : ℕ) → x ≡ lo + k → k < hi - lo →
      min (get_or (part work from past) k 0) (ended slack (get_or (part work (key + lo) (key + hi)) k 0)) ≡ row_ended work slack key at across j x
  cell_same x k e l =
      let cell : from + k ≡ at + (j * across + x) = omega arith in
      let beside : key + lo + k ≡ key + x = omega arith in
      part_ended work slack from past (key + lo) (key + hi) k (omega arith) (omega arith) ∙ rw (cell, beside) refl

  pub highest_cells :
      Highest (λ (k : ℕ). min (get_or (part work from past) k 0) (ended slack (get_or (part work (key + lo) (key + hi)) k 0))) 0
      (length (part work from past)) v r →
      Highest (row_ended work slack key at across j) lo hi v r
  highest_cells h =
      let long = part_length work from past there in
      record {
        not_below = h.not_below;
        best = λ x l u.
            let e : x ≡ lo + (x - lo) = omega arith in rw (cell_same x (x - lo) e (omega arith)) at (h.best (x - lo) (omega arith) (omega arith));
        source =
            ⊎_elim inl
            (λ s. inr (lo + s.0, omega arith, omega (arith, s.2), s.3 ∙ cell_same (lo + s.0) s.0 refl (omega (arith, s.2)))) h.source;
      }

-- ---- the rows of a state

pub state_lifted_none : (p : Plan) (f : ℕ → ℕ → ℕ → ℕ) (e : ℕ) (notes : List ℕ) → Lifted (FromState p f e 0) notes notes
state_lifted_none p f e notes = lifted_none _ notes (λ q v s. omega (arith, s.row_below))

module _ (p : Plan) (f : ℕ → ℕ → ℕ → ℕ) (e m : ℕ) where
  abbrev RowOf : ℕ → ℕ → ℕ → Type 0
  RowOf m q v = FromRow (f m) (row_lo p e m) (row_hi p e m) (steps_at p e m * p.planes) p.planes q v

  state_split : (q v : ℕ) → FromState p f e (m + 1) q v → FromState p f e m q v ⊎ RowOf m q v
  state_split q v s =
      ⊎_elim
      (λ l. let same : s.row ≡ m = omega (arith, s.row_below) in inr (subst (λ (n : ℕ). RowOf n q v) same s.number))
      (λ l. inl (record { row = s.row; row_below = l; number = s.number }))
      (le_or_lt m s.row)

  pub state_lifted_more :
      (old mid new : List ℕ) → Lifted (FromState p f e m) old mid → Lifted (RowOf m) mid new → Lifted (FromState p f e (m + 1)) old new
  state_lifted_more old mid new d r =
      lifted_then _ _ _ old mid new state_split
      (λ q v s. record { row = s.row; row_below = omega (arith, s.row_below); number = s.number })
      (λ q v s. record { row = m; row_below = omega arith; number = s })
      d r

-- where no row has so many steps, and the state's number is below, no notes are past them
pub past_most : (p : Plan) (e most : ℕ) → e < most → ((m : ℕ) → m < rows_in p e → steps_at p e m < most) → steps_past p e ≤ most
unfolding steps_past
past_most p e most h few = go p.ranked few
  where
    go : (b : Bool) → ((m : ℕ) → m < rows_in p e → cond b e m < most) → cond b (e + 1) (rows_in p e) ≤ most
    go true k = omega arith
    go false k = ⊎_elim (λ l. omega (arith, k (rows_in p e - 1) (omega arith))) (λ l. omega arith) (le_or_lt 1 (rows_in p e))

-- the notes of a row find room
pub steps_fit :
    (p : Plan) (e size m steps : ℕ) → steps_past p e * p.planes ≤ size → steps ≡ steps_at p e m → m < rows_in p e →
    steps * p.planes + p.planes ≤ size
unfolding steps_past
steps_fit p e size m steps room es h = omega (arith, room, rows_fit steps 1 (steps_past p e) p.planes (below p.ranked es))
  where
    below : (b : Bool) → steps ≡ cond b e m → steps + 1 ≤ cond b (e + 1) (rows_in p e)
    below true k = omega arith
    below false k = omega (arith, h)

-- the same numbers of a row
pub row_same :
    (f g : ℕ → ℕ → ℕ) (lo hi to planes q v : ℕ) → ((j x : ℕ) → j < planes → lo ≤ x → x < hi → f j x ≡ g j x) → FromRow f lo hi to planes q v →
    FromRow g lo hi to planes q v
row_same f g lo hi to planes q v e s =
    record {
      plane = s.plane;
      pixel = s.pixel;
      plane_below = s.plane_below;
      low = s.low;
      high = s.high;
      at = s.at;
      is = s.is ∙ e s.plane s.pixel s.plane_below s.low s.high;
    }

-- row m of a state in the work buffer
pub row_in_state :
    (p : Plan) (slack e m at base lo hi keys steps : ℕ) (work old new : List ℕ) → at ≡ base + m * row_size p → lo ≡ row_lo p e m → hi ≡ row_hi p e m →
    keys ≡ row_at p e m → steps ≡ steps_at p e m →
    Lifted (FromRow (row_ended work slack keys at p.across) lo hi (steps * p.planes) p.planes) old new →
    Lifted (FromRow (ended_in work slack base p e m) (row_lo p e m) (row_hi p e m) (steps_at p e m * p.planes) p.planes) old new
row_in_state p slack e m at base lo hi keys steps work old new ea el eh ek es d =
    let cell : (j x : ℕ) → row_ended work slack (row_at p e m) at p.across j x ≡ ended_in work slack base p e m j x =
    λ j x. ap (λ (i : ℕ). ended_at work slack (row_at p e m + x) i)
    (let i : at + (j * p.across + x) ≡ base + (m * row_size p + (j * p.across + x)) = omega arith in i) in
    lifted_same _ _ old new
    (λ q v s. row_same _ _ _ _ _ _ q v (λ j x _ _ _. cell j x) s)
    (λ q v s. row_same _ _ _ _ _ _ q v (λ j x _ _ _. sym (cell j x)) s)
    (rw (el, eh, ek, es) at d)
