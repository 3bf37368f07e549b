-- The rows of a trace. Its walks of no steps start at the picked pixel alone, which is in row 0 of state 0. And every number of fewer
-- than L steps that is not 0 has its row: on a straight direction row n of the one state has the walks of n steps, on a diagonal state n has them, and
-- its rows are the ranks from the n-th on; the cone lies on these rows.
use Prim.Native.Nat.{ℕ, ◌+◌, ◌-◌, ◌≤◌, ◌<◌, min, max}
use mathlib.Core.Path.{◌≡◌, refl, sym, ap, subst, ◌∙◌}
use mathlib.Core.Bool.{Bool, true, false, ◌&&◌}
use mathlib.Core.Logic.{◌⊎◌, inl, inr, ⊎_elim}
use native.Mathlib.Omega.{arith}
use lib.Dec.{eqb}
use borrow.Author.Tests.{eqb-true, eq-eqb}
use Rattle.frames.specs.Frames.{place_in, Framed}
use Rattle.frames.specs.declared.frame.Frame.{Frame}
use Rattle.plans.specs.Plans.{line_of, first_in, past_in, order_of, line_at, row_lo, row_hi, rows_in, starts, starts_at, steps_at}
use Rattle.plans.specs.declared.plan.Plan.{Plan}
use Rattle.directions.specs.Numbers.{pixel_in}
use Rattle.directions.specs.Plans.{straight_plan, ranked_plan, FrameOf}
use Rattle.directions.specs.Traces.{trace_area, trace_plan, trace_states, SpotOf}
use Rattle.directions.specs.declared.frame.Spot.{Spot}
use Rattle.directions.proofs.StepPlaces.{clash, place_injective}
use Rattle.directions.proofs.TraceAreas.{Cone, cone_or_not, traced, trace_none}

-- ---- the plan, by the kind of direction

abbrev pub line_rows : Frame → Bool → ℕ → Spot → ℕ
line_rows r back L s = min L ((trace_area r back s).bottom - (trace_area r back s).top)

abbrev pub rank_rows : Frame → Bool → ℕ → Spot → ℕ
rank_rows r back L s = min L ((trace_area r back s).right - (trace_area r back s).left)

module _ (r : Frame) (along_rows back : Bool) (L planes : ℕ) (s : Spot) where
  pub trace_straight_plan :
      r.diagonal ≡ false → trace_plan r along_rows back L planes s ≡ straight_plan r back (trace_area r back s) (line_rows r back L s) planes
  unfolding trace_plan
  trace_straight_plan d = rw d

  pub trace_ranked_plan :
      r.diagonal ≡ true → trace_plan r along_rows back L planes s ≡ ranked_plan r along_rows back (trace_area r back s) (rank_rows r back L s) planes
  unfolding trace_plan
  trace_ranked_plan d = rw d

module _ (r : Frame) (back : Bool) (L : ℕ) (s : Spot) where
  pub trace_straight_states : r.diagonal ≡ false → trace_states r back L s ≡ 1
  unfolding trace_states
  trace_straight_states d = rw d

  pub trace_ranked_states :
      r.diagonal ≡ true →
      trace_states r back L s
      ≡ min L ((trace_area r back s).bottom - (trace_area r back s).top + ((trace_area r back s).right - (trace_area r back s).left) - 1)
  unfolding trace_states
  trace_ranked_states d = rw d

-- ---- where walks start

tests_same : (a b : Bool) → (a ≡ true → b ≡ true) → (b ≡ true → a ≡ true) → a ≡ b
tests_same true b f g = sym (f refl)
tests_same false true f g = g refl
tests_same false false f g = refl

both_true : (a b : Bool) → (a && b) ≡ true → (a ≡ true) × (b ≡ true)
both_true true b e = (refl, e)
both_true false b e = clash false e refl

-- at a pixel (i, x) of row m, where the picked one is in row 0 alone
picked :
    (r : Frame) (W H index : ℕ) → FrameOf r W H index → (s : Spot) (target : ℕ) → SpotOf r s target → (m i x : ℕ) → i < r.lines → x < r.across →
    (m ≡ 0 → x ≡ s.pixel → i ≡ s.line) → (i ≡ s.line → x ≡ s.pixel → m ≡ 0) → (eqb m 0 && eqb x s.pixel) ≡ eqb (place_in r i x) target
picked r W H index O s target S m i x hi hx there here =
    tests_same (eqb m 0 && eqb x s.pixel) (eqb (place_in r i x) target)
    (λ e.
    let b = both_true (eqb m 0) (eqb x s.pixel) e in
    let x= = eqb-true x s.pixel b.1 in
    let i= = there (eqb-true m 0 b.0) x= in
    eq-eqb (place_in r i x) target (rw (i=, x=) S.is))
    (λ e.
    let at = place_injective r W H index O i x s.line s.pixel hi hx S.on_line S.on_pixel (eqb-true (place_in r i x) target e ∙ sym S.is) in
    rw (eq-eqb m 0 (here at.0 at.1), eq-eqb x s.pixel at.1))

-- a pixel on the part of a rank that an area has
rank_low : (left line bottom x : ℕ) → max left (line + 1 - bottom) ≤ x → (left ≤ x) × (line < bottom + x)
rank_low left line bottom x h = omega arith

rank_high : (right line top x : ℕ) → x < min right (line + 1 - top) → (x < right) × (top + x ≤ line)
rank_high right line top x h = omega arith

rank_line : (line bottom x k : ℕ) → line < bottom + x → k < bottom → line - x < bottom
rank_line line bottom x k h l = omega arith

within : (a b c : ℕ) → a < b + 1 → b < c → a < c
within a b c h l = omega arith

few_ranks : (rows l p e m : ℕ) → m < min rows (l + 1 - 0 + (p + 1 - 0) - 1 - e) → m ≤ l + p
few_ranks rows l p e m h = omega arith

-- the rank of the picked pixel is the first, counted on or back
rank_on : (l p e m x : ℕ) → e ≡ 0 → m ≡ 0 → x ≡ p → l + p + (e + m) - x ≡ l
rank_on l p e m x e= m= x= = omega arith

on_rank : (l p e m x : ℕ) → e ≡ 0 → l + p + (e + m) - x ≡ l → x ≡ p → m ≡ 0
on_rank l p e m x e= i= x= = omega arith

rank_back : (l p e m x : ℕ) → e ≡ 0 → m ≡ 0 → x ≡ p → l + 1 + (p + 1) - 2 - (e + m) - x ≡ l
rank_back l p e m x e= m= x= = omega arith

back_rank : (l p e m x : ℕ) → e ≡ 0 → 0 + x ≤ l + 1 + (p + 1) - 2 - (e + m) → m ≤ l + p → l + 1 + (p + 1) - 2 - (e + m) - x ≡ l → x ≡ p → m ≡ 0
back_rank l p e m x e= h k i= x= = omega arith

-- the walks of no steps in the rows of a plan start at a place
pub record StartsFrom (r : Frame) (p : Plan) (target : ℕ) : Type 0 where
  pub is : (e m x : ℕ) → m < rows_in p e → row_lo p e m ≤ x → x < row_hi p e m → starts p e m ≡ true → (p.ranked ≡ false → e ≡ 0) →
      starts_at p m x ≡ eqb (pixel_in r p.ranked (line_at p e m) x) target

module _ (r : Frame) (W H index : ℕ) (O : FrameOf r W H index) (s : Spot) (target : ℕ) (S : SpotOf r s target) (planes rows : ℕ) where
  straight_started : (back : Bool) → StartsFrom r (straight_plan r back (trace_area r back s) rows planes) target
  unfolding rows_in starts starts_at line_of order_of first_in past_in
  straight_started true =
      record {
        is = λ e m x hm lo hi st first.
            let m= = eqb-true m 0 st in
            picked r W H index O s target S m _ x (omega (arith, S.on_line)) hi (λ _ _. omega (arith, m=, first refl)) (λ _ _. m=);
      }
  straight_started false =
      record {
        is = λ e m x hm lo hi st first.
            let m= = eqb-true m 0 st in
            picked r W H index O s target S m _ x (omega (arith, m=, first refl, S.on_line)) hi (λ _ _. omega (arith, m=, first refl)) (λ _ _. m=);
      }

  ranked_started : (along_rows back : Bool) → StartsFrom r (ranked_plan r along_rows back (trace_area r back s) rows planes) target
  unfolding rows_in starts starts_at line_of order_of first_in past_in
  ranked_started along_rows true =
      record {
        is = λ e m x hm lo hi st first.
            let e= = eqb-true e 0 st in
            let line = s.line + 1 + (s.pixel + 1) - 2 - (e + m) in
            let low = rank_low 0 line (s.line + 1) x lo in
            let high = rank_high (s.pixel + 1) line 0 x hi in
            picked r W H index O s target S m (line - x) x
            (within (line - x) s.line r.lines (rank_line line (s.line + 1) x s.line low.1 (omega arith)) S.on_line)
            (within x s.pixel r.across high.0 S.on_pixel)
            (λ m= x=. rank_back s.line s.pixel e m x e= m= x=)
            (λ i= x=. back_rank s.line s.pixel e m x e= high.1 (few_ranks rows s.line s.pixel e m hm) i= x=);
      }
  ranked_started along_rows false =
      record {
        is = λ e m x hm lo hi st first.
            let e= = eqb-true e 0 st in
            let line = s.line + s.pixel + (e + m) in
            let low = rank_low s.pixel line r.lines x lo in
            let high = rank_high r.across line s.line x hi in
            picked r W H index O s target S m (line - x) x (rank_line line r.lines x s.line low.1 S.on_line) high.0
            (λ m= x=. rank_on s.line s.pixel e m x e= m= x=) (λ i= x=. on_rank s.line s.pixel e m x e= i= x=);
      }

module _ (r : Frame) (W H index : ℕ) (O : FrameOf r W H index) (s : Spot) (target : ℕ) (S : SpotOf r s target) (along_rows back : Bool) (L planes : ℕ) where
  started_by : (b : Bool) → r.diagonal ≡ b → StartsFrom r (trace_plan r along_rows back L planes s) target
  started_by true d =
      subst (λ (p : Plan). StartsFrom r p target) (sym (trace_ranked_plan r along_rows back L planes s d))
      (ranked_started r W H index O s target S planes (rank_rows r back L s) along_rows back)
  started_by false d =
      subst (λ (p : Plan). StartsFrom r p target) (sym (trace_straight_plan r along_rows back L planes s d))
      (straight_started r W H index O s target S planes (line_rows r back L s) back)

  pub trace_started : StartsFrom r (trace_plan r along_rows back L planes s) target
  trace_started = started_by r.diagonal refl

-- a straight trace has one state
pub trace_first :
    (r : Frame) (along_rows back : Bool) (L planes : ℕ) (s : Spot) (e : ℕ) → e < trace_states r back L s →
    (trace_plan r along_rows back L planes s).ranked ≡ false → e ≡ 0
trace_first r along_rows back L planes s e h k = go r.diagonal refl
  where
    go : (b : Bool) → r.diagonal ≡ b → e ≡ 0
    go true d = clash true refl (sym (ap (λ (p : Plan). p.ranked) (trace_ranked_plan r along_rows back L planes s d)) ∙ k)
    go false d = omega (arith, h, trace_straight_states r back L s d)

-- ---- the row of a number

-- pixel x of line i has the number of its walks of n steps in a row of the plan
pub record HasRow (r : Frame) (p : Plan) (states n i x : ℕ) : Type 0 where
  pub state : ℕ
  pub row : ℕ
  pub state_below : state < states
  pub row_below : row < rows_in p state
  pub steps : steps_at p state row ≡ n
  pub low : row_lo p state row ≤ x
  pub high : x < row_hi p state row
  pub place : pixel_in r p.ranked (line_at p state row) x ≡ place_in r i x

-- a rank of an area has its pixels
low_in : (left line bottom i x : ℕ) → line ≡ i + x → left ≤ x → i < bottom → max left (line + 1 - bottom) ≤ x
low_in left line bottom i x e h k = omega arith

high_in : (right line top i x : ℕ) → line ≡ i + x → x < right → top ≤ i → x < min right (line + 1 - top)
high_in right line top i x e h k = omega arith

rank_place : (r : Frame) (line i x : ℕ) → line ≡ i + x → place_in r (line - x) x ≡ place_in r i x
rank_place r line i x e = let e' : line - x ≡ i = omega arith in ap (λ (k : ℕ). place_in r k x) e'

-- of an area of a lines and b pixels
row_in : (L a b n m : ℕ) → m < L → m < b → n + m < a + b - 1 → m < min (min L b) (a + b - 1 - n)
row_in L a b n m h k l = omega arith

module _ (r : Frame) (s : Spot) (planes L n i x : ℕ) (few : n < L) (hi : i < r.lines) (hx : x < r.across) where
  straight_row :
      (back : Bool) → r.diagonal ≡ false → Cone r back s n i x →
      HasRow r (straight_plan r back (trace_area r back s) (line_rows r back L s) planes) 1 n i x
  unfolding rows_in line_of order_of first_in past_in
  straight_row true d C =
      let c = C.straight d in
      let i= : s.line + 1 - 1 - (0 + n) ≡ i = omega (arith, c) in
      record {
        state = 0;
        row = n;
        state_below = omega arith;
        row_below = omega (arith, c);
        steps = refl;
        low = omega arith;
        high = hx;
        place = ap (λ (k : ℕ). place_in r k x) i=;
      }
  straight_row false d C =
      let c = C.straight d in
      let i= : s.line + (0 + n) ≡ i = omega (arith, c) in
      record {
        state = 0;
        row = n;
        state_below = omega arith;
        row_below = omega (arith, c);
        steps = refl;
        low = omega arith;
        high = hx;
        place = ap (λ (k : ℕ). place_in r k x) i=;
      }

  ranked_row_back :
      (along_rows : Bool) → r.diagonal ≡ true → Cone r true s n i x → (m : ℕ) → i + x + (n + m) ≡ s.line + s.pixel →
      HasRow r (ranked_plan r along_rows true (trace_area r true s) (rank_rows r true L s) planes) (min L (s.line + 1 - 0 + (s.pixel + 1 - 0) - 1)) n i x
  unfolding rows_in line_of order_of first_in past_in
  ranked_row_back along_rows d C m e =
      let c = C.diagonal d in
      let line = s.line + 1 + (s.pixel + 1) - 2 - (n + m) in
      let line= : line ≡ i + x = omega (arith, e) in
      record {
        state = n;
        row = m;
        state_below = omega (arith, c);
        row_below = row_in L (s.line + 1 - 0) (s.pixel + 1 - 0) n m (omega (arith, c, e)) (omega (arith, c, e)) (omega (arith, e));
        steps = refl;
        low = low_in 0 line (s.line + 1) i x line= (omega arith) (omega (arith, c));
        high = high_in (s.pixel + 1) line 0 i x line= (omega (arith, c)) (omega arith);
        place = rank_place r line i x line=;
      }

  ranked_row_on :
      (along_rows : Bool) → r.diagonal ≡ true → Cone r false s n i x → (m : ℕ) → s.line + s.pixel + (n + m) ≡ i + x →
      HasRow r (ranked_plan r along_rows false (trace_area r false s) (rank_rows r false L s) planes) (min L (r.lines - s.line + (r.across - s.pixel) - 1)) n i x
  unfolding rows_in line_of order_of first_in past_in
  ranked_row_on along_rows d C m e =
      let c = C.diagonal d in
      let line = s.line + s.pixel + (n + m) in
      record {
        state = n;
        row = m;
        state_below = omega (arith, c);
        row_below = row_in L (r.lines - s.line) (r.across - s.pixel) n m (omega (arith, c, e)) (omega (arith, c, e)) (omega (arith, c, e));
        steps = refl;
        low = low_in s.pixel line r.lines i x e (omega (arith, c)) hi;
        high = high_in r.across line s.line i x e hx (omega (arith, c));
        place = rank_place r line i x e;
      }

  ranked_row :
      (along_rows back : Bool) → r.diagonal ≡ true → Cone r back s n i x →
      HasRow r (ranked_plan r along_rows back (trace_area r back s) (rank_rows r back L s) planes)
      (min L ((trace_area r back s).bottom - (trace_area r back s).top + ((trace_area r back s).right - (trace_area r back s).left) - 1)) n i x
  ranked_row along_rows true d C = ranked_row_back along_rows d C (s.line + s.pixel - (i + x) - n) (omega (arith, C.diagonal d))
  ranked_row along_rows false d C = ranked_row_on along_rows d C (i + x - (s.line + s.pixel) - n) (omega (arith, C.diagonal d))

  cone_row :
      (along_rows back b : Bool) → r.diagonal ≡ b → Cone r back s n i x →
      HasRow r (trace_plan r along_rows back L planes s) (trace_states r back L s) n i x
  cone_row along_rows back true d C =
      rw (trace_ranked_plan r along_rows back L planes s d, trace_ranked_states r back L s d) (ranked_row along_rows back d C)
  cone_row along_rows back false d C =
      rw (trace_straight_plan r along_rows back L planes s d, trace_straight_states r back L s d) (straight_row back d C)

-- every number that is not 0 has its row
pub trace_rows :
    (r : Frame) (W H index : ℕ) → Framed r W H index → FrameOf r W H index → (along_rows back : Bool) (L planes : ℕ) (s : Spot)
    (target : ℕ) → SpotOf r s target → (g : ℕ → ℕ) (n i x : ℕ) → n < L → i < r.lines → x < r.across →
    ((j : ℕ) → traced 65535 W H index back g target n j (place_in r i x) ≡ 0) ⊎ HasRow r (trace_plan r along_rows back L planes s) (trace_states r back L s) n i x
trace_rows r W H index F O along_rows back L planes s target S g n i x few hi hx =
    ⊎_elim (λ C. inr (cone_row r s planes L n i x few hi hx along_rows back r.diagonal refl C))
    (λ off. inl (λ j. trace_none 65535 r W H index F O back s target S g n j i x hi hx off))
    (cone_or_not r back s n i x r.diagonal refl)
