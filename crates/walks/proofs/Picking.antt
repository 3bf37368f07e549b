-- Pixels whose number is high enough, looked for in a state that stands in the work buffer: row after row, or where a step leads.
use Prim.Native.Nat.{ℕ, suc, ◌+◌, ◌-◌, ◌*◌, ◌≤◌, ◌<◌, min}
use mathlib.Core.Path.{◌≡◌, refl, sym, ap, subst, ◌∙◌}
use mathlib.Core.Bool.{true, false, true≢false}
use mathlib.Core.List.{List}
use mathlib.Core.Logic.{◌⊎◌, inl, inr, ⊎_elim}
use Rattle.std.specs.Prelude.{Option, Some, None, IsSome, MatchOption}
use native.Mathlib.Omega.{arith}
use lib.ListN.{length, get_or}
use Rattle.basics.proofs.Numbers.{le_or_lt}
use Rattle.plans.specs.Plans.{Sound, row_lo, row_hi, row_at, rows_in, row_size}
use Rattle.states.specs.States.{Holds}
use Rattle.plans.specs.declared.plan.Plan.{Plan}
use Rattle.walks.specs.Picking.{Tells, stored_at, Picked, RowsFrom, OfSteps, JustBefore, TapTo, StepTo}
use Rattle.theory.specs.BestWalks.{ended}
use Rattle.walks.specs.Endings.{ended_in}
use Rattle.walks.specs.declared.stand.Stand.{Stand}
use Rattle.walks.proofs.Parts.{part, part_length, part_ended}

-- ---- one pixel is picked, or none

-- none
pub picked_none :
    (Among : ℕ → ℕ → ℕ → Type 0) (f : ℕ → ℕ → ℕ → ℕ → ℕ) (p : Plan) (j t : ℕ) → ((e m x : ℕ) → Among e m x → Tells f p j t e m x → ⊥) →
    Picked Among f p j t None
picked_none Among f p j t none = none

-- where one is, one is picked
pub picked_there :
    (Among : ℕ → ℕ → ℕ → Type 0) (f : ℕ → ℕ → ℕ → ℕ → ℕ) (p : Plan) (j t : ℕ) (r : Option Stand) → Picked Among f p j t r → (e m x : ℕ) →
    Among e m x → Tells f p j t e m x → IsSome r
picked_there Among f p j t None d e m x a h = absurd (d e m x a h)
picked_there Among f p j t (Some s) d e m x a h = refl

-- among the same pixels, said otherwise
pub picked_among :
    (A B : ℕ → ℕ → ℕ → Type 0) (f : ℕ → ℕ → ℕ → ℕ → ℕ) (p : Plan) (j t : ℕ) (r : Option Stand) →
    ((e m x : ℕ) → m < rows_in p e → A e m x → B e m x) → ((e m x : ℕ) → m < rows_in p e → B e m x → A e m x) → Picked A f p j t r → Picked B f p j t r
picked_among A B f p j t None there back d = λ e m x b h. d e m x (back e m x h.row b) h
picked_among A B f p j t (Some s) there back d =
    record { is_gaps = d.is_gaps; on = d.on; among = there _ _ _ d.tells.row d.among; tells = d.tells }

-- by the same numbers, said otherwise
pub picked_same :
    (Among : ℕ → ℕ → ℕ → Type 0) (f g : ℕ → ℕ → ℕ → ℕ → ℕ) (p : Plan) (j t : ℕ) (r : Option Stand) →
    ((e m x : ℕ) → m < rows_in p e → row_lo p e m ≤ x → x < row_hi p e m → Among e m x → f e m j x ≡ g e m j x) →
    Picked Among f p j t r → Picked Among g p j t r
picked_same Among f g p j t None same d =
    λ e m x a h. d e m x a (record { row = h.row; low = h.low; high = h.high; counts = omega (arith, h.counts, same e m x h.row h.low h.high a) })
picked_same Among f g p j t (Some s) same d =
    let c = d.tells in
    record {
      is_gaps = d.is_gaps;
      on = d.on;
      among = d.among;
      tells = record { row = c.row; low = c.low; high = c.high; counts = omega (arith, c.counts, same _ _ _ c.row c.low c.high d.among) };
    }

-- the numbers of a state that the buffer holds
pub picked_held :
    (work : List ℕ) (base : ℕ) (p : Plan) (f : ℕ → ℕ → ℕ → ℕ → ℕ) (j t : ℕ) → j < p.planes → (Among : ℕ → ℕ → ℕ → Type 0) (r : Option Stand) →
    ((e m x : ℕ) → m < rows_in p e → row_lo p e m ≤ x → x < row_hi p e m → Among e m x → Holds work base p e (f e)) →
    Picked Among (stored_at work base p) p j t r → Picked Among f p j t r
picked_held work base p f j t few Among r held =
    picked_same Among (stored_at work base p) f p j t r (λ e m x row low high a. (held e m x row low high a).is m j x row few low high)

-- by one way, or where that finds none by another
pub picked_or :
    (A B : ℕ → ℕ → ℕ → Type 0) (f : ℕ → ℕ → ℕ → ℕ → ℕ) (p : Plan) (j t : ℕ) (a r : Option Stand) → Picked A f p j t a →
    MatchOption a (Picked B f p j t r) (λ s. r ≡ Some s) → Picked (λ e m x. A e m x ⊎ B e m x) f p j t r
picked_or A B f p j t (Some s) r d e =
    rw e (record { is_gaps = d.is_gaps; on = d.on; among = inl d.among; tells = d.tells })
picked_or A B f p j t None None d e = λ e' m x k h. ⊎_elim (λ i. d e' m x i h) (λ i. e e' m x i h) k
picked_or A B f p j t None (Some s) d e = record { is_gaps = e.is_gaps; on = e.on; among = inr e.among; tells = e.tells }

-- what an option's alternative is known to be
pub match_some : (P Q : Type 0) (R : Stand → Type 0) (o : Option Stand) → MatchOption o P R → (P → Q) → MatchOption o Q R
match_some P Q R None p f = f p
match_some P Q R (Some x) r f = r

-- ---- row after row

less_or_more : (n m : ℕ) → (n < m) ⊎ (m ≤ n)
less_or_more n m = ⊎_elim (λ l. inr l) (λ l. inl l) (le_or_lt m n)

module _ (work : List ℕ) (slack base : ℕ) (p : Plan) (state j t : ℕ) where
  -- the rows from `first` below `row` have no pixel where a walk may end
  pub record Missed (first row : ℕ) : Type 0 where
    pub none : (m x : ℕ) → first ≤ m → m < row → Tells (ended_in work slack base p) p j t state m x → ⊥

  pub missed_none : (first : ℕ) → Missed first first
  missed_none first = record { none = λ m x h l d. omega arith }

  module _ (m lo hi key : ℕ) (is-lo : lo ≡ row_lo p state m) (is-hi : hi ≡ row_hi p state m) (is_key : key ≡ row_at p state m) where
    abbrev plane : ℕ
    plane = base + m * row_size p + j * p.across

    -- what the code reads of the row
    abbrev read : ℕ → ℕ
    read k = min (get_or (part work (plane + lo) (plane + hi)) k 0) (ended slack (get_or (part work (key + lo) (key + hi)) k 0))

    read_place : (x k : ℕ) → x ≡ lo + k → k < hi - lo → read k ≡ ended_in work slack base p state m j x
    read_place x k e l =
        let same : plane + lo + k ≡ base + (m * row_size p + (j * p.across + x)) = omega arith in
        let beside : key + lo + k ≡ row_at p state m + x = omega arith in
        part_ended work slack (plane + lo) (plane + hi) (key + lo) (key + hi) k (omega arith) (omega arith) ∙ rw (same, beside) refl

    module _ (there : plane + hi ≤ length work) (keyed : key + hi ≤ length work) where
      abbrev long : ℕ
      long = length (part work (plane + lo) (plane + hi))

      is_long : long ≡ hi - lo
      is_long = omega (arith, part_length work (plane + lo) (plane + hi) there)

      pub missed_more : (first : ℕ) → Missed first m → ((k : ℕ) → k < long → read k < t) → Missed first (m + 1)
      missed_more first d low =
          record {
            none = λ n x h l k.
                ⊎_elim
                (λ a. d.none n x h a k)
                (λ a.
                let same : n ≡ m = omega arith in
                let told : Tells (ended_in work slack base p) p j t state m x = rw same at k in
                let e : x ≡ lo + (x - lo) = omega (arith, told.low) in
                omega (
                  arith,
                  told.counts,
                  read_place x (x - lo) e (omega (arith, told.low, told.high)),
                  low (x - lo) (omega (arith, told.low, told.high, is_long)),
                ))
                (less_or_more n m);
          }

      pub row_picked :
          (first past k : ℕ) → first ≤ m → m < past → m < rows_in p state → hi ≤ p.across →
          (k < long) × (t ≤ read k) × ((i : ℕ) → i < k → read i < t) →
          Picked (RowsFrom state first past) (ended_in work slack base p) p j t (Some (record { state = state; row = m; pixel = lo + k; gaps = j }))
      row_picked first past k h l row wide found =
          let near : k < hi - lo = omega (arith, found.0, is_long) in
          record {
            is_gaps = refl;
            on = omega arith;
            among = (refl, h, l);
            tells =
                record { row = row; low = omega arith; high = omega arith; counts = omega (arith, found.1, read_place (lo + k) k refl near) };
          }

  pub missed_picked :
      (first past row : ℕ) → past ≤ row → Missed first row → Picked (RowsFrom state first past) (ended_in work slack base p) p j t None
  missed_picked first past row l d =
      λ e m x a h. d.none m x a.1 (omega (arith, a.2)) (subst (λ (k : ℕ). Tells (ended_in work slack base p) p j t k m x) a.0 h)

-- the walks of so many steps
module _ (f : ℕ → ℕ → ℕ → ℕ → ℕ) (p : Plan) (n j t : ℕ) (r : Option Stand) where
  pub ranks_picked : p.ranked ≡ true → Picked (RowsFrom n 0 (rows_in p n)) f p j t r → Picked (OfSteps p n) f p j t r
  ranks_picked k d =
      picked_among (RowsFrom n 0 (rows_in p n)) (OfSteps p n) f p j t r
      (λ e m x h a. (rw k a.0, λ z. absurd (true≢false (sym k ∙ z))))
      (λ e m x h b. let e= : e ≡ n = rw k at b.0 in (e=, omega arith, subst (λ (i : ℕ). m < rows_in p i) e= h)) d

  pub lines_picked : p.ranked ≡ false → Picked (RowsFrom 0 n (n + 1)) f p j t r → Picked (OfSteps p n) f p j t r
  lines_picked k d =
      picked_among (RowsFrom 0 n (n + 1)) (OfSteps p n) f p j t r
      (λ e m x h a. (rw k (omega (arith, a.1, a.2)), λ z. a.0))
      (λ e m x h b. let m= : m ≡ n = rw k at b.0 in (b.1 k, omega arith, omega arith)) d

-- ---- where a step leads

module _ (work : List ℕ) (base : ℕ) (p : Plan) (state row past j t : ℕ) where
  looked_none :
      ((x : ℕ) → x + 1 ≡ past → Tells (stored_at work base p) p j t state row x → ⊥) →
      Picked (JustBefore state row past) (stored_at work base p) p j t None
  looked_none none = λ e m x a h. none x a.2 (rw (a.0, a.1) at h)

  -- the row does not have it
  module _ (lo hi : ℕ) (is-lo : lo ≡ row_lo p state row) (is-hi : hi ≡ row_hi p state row) where
    pub looked_under : past ≤ lo → Picked (JustBefore state row past) (stored_at work base p) p j t None
    looked_under l = looked_none (λ x e h. omega (arith, h.low))

    pub looked_over : hi < past → Picked (JustBefore state row past) (stored_at work base p) p j t None
    looked_over l = looked_none (λ x e h. omega (arith, h.high))

    -- the number that the code reads
    module _ (at v : ℕ) (is_at : at ≡ base + row * row_size p + j * p.across) (is-v : v ≡ get_or work (at + (past - 1)) 0) (within : lo < past) where
      number_read : (x : ℕ) → x + 1 ≡ past → v ≡ stored_at work base p state row j x
      number_read x e =
          let there : at + (past - 1) ≡ base + (row * row_size p + (j * p.across + x)) = omega arith in is-v ∙ ap (λ (i : ℕ). get_or work i 0) there

      pub looked_low : v < t → Picked (JustBefore state row past) (stored_at work base p) p j t None
      looked_low low = looked_none (λ x e h. omega (arith, h.counts, number_read x e))

      pub looked_high :
          (r : Stand) → r.gaps ≡ j → r.state ≡ state → r.row ≡ row → r.pixel ≡ past - 1 → row < rows_in p state → past ≤ hi → hi ≤ p.across → t ≤ v →
          Picked (JustBefore state row past) (stored_at work base p) p j t (Some r)
      looked_high r same es em ex there below wide high =
          record {
            is_gaps = same;
            on = omega arith;
            among = (es, em, omega arith);
            tells = rw (es, em, ex)
                (record { row = there; low = omega arith; high = omega arith; counts = omega (arith, number_read (past - 1) (omega arith)) });
          }

module _ (f : ℕ → ℕ → ℕ → ℕ → ℕ) (p : Plan) (s : Stand) (y X t : ℕ) where
  pub tap_looked :
      (e m : ℕ) (r : Option Stand) → s.state ≡ e + min 1 y → s.row ≡ m + min 1 (2 - y) → Picked (JustBefore e m (s.pixel + X)) f p s.gaps t r →
      Picked (TapTo s y X) f p s.gaps t r
  tap_looked e m r h k d =
      picked_among (JustBefore e m (s.pixel + X)) (TapTo s y X) f p s.gaps t r
      (λ i n x l o. record { state = omega (arith, o.0); row = omega (arith, o.1); pixel = sym o.2 })
      (λ i n x l o. (omega (arith, o.state), omega (arith, o.row), sym o.pixel)) d

  -- there are not so many states or rows
  pub tap_first_state : s.state < min 1 y → Picked (TapTo s y X) f p s.gaps t None
  tap_first_state l = λ e m x o h. omega (arith, o.state)

  pub tap_first_row : s.row < min 1 (2 - y) → Picked (TapTo s y X) f p s.gaps t None
  tap_first_row l = λ e m x o h. omega (arith, o.row)

-- the row where it leads is there
pub tap_row :
    (p : Plan) (sound : Sound p) (e m older upper : ℕ) → m < rows_in p e → older ≤ 1 → older ≤ e → m - upper < rows_in p (e - older)
tap_row p sound e m older upper h few le =
    ⊎_elim
    (λ a. let same : e ≡ e - older + 1 = omega arith in
    let k : e - older + 1 ≡ suc (e - older) = omega arith in
    omega (arith, h, ap (rows_in p) (same ∙ k), sound.more (e - older)))
    (λ a. let same : e - older ≡ e = omega arith in omega (arith, h, ap (rows_in p) same))
    (le_or_lt 1 older)

-- one of the three steps
pub picked_again :
    (f : ℕ → ℕ → ℕ → ℕ → ℕ) (p : Plan) (s : Stand) (t : ℕ) (r : Option Stand) →
    Picked
    (λ e m x. (TapTo s p.reach.y0 p.reach.x0 e m x ⊎ TapTo s p.reach.y1 p.reach.x1 e m x) ⊎ TapTo s p.reach.y2 p.reach.x2 e m x) f p s.gaps t r →
    Picked (StepTo p s) f p s.gaps t r
picked_again f p s t r d =
    picked_among _ (StepTo p s) f p s.gaps t r
    (λ e m x _ h. ⊎_elim (λ a. ⊎_elim (λ k. inl k) (λ k. inr (inl k)) a) (λ k. inr (inr k)) h)
    (λ e m x _ h. ⊎_elim (λ k. inl (inl k)) (λ a. ⊎_elim (λ k. inl (inr k)) (λ k. inr k) a) h) d
