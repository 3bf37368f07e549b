-- Where a number of a trace came from. A number that is not 0 and that a step found stands in a row of this state or of the last one; and what a step of
-- a trace's plan reads there belongs to a pixel to which one step of the direction leads, with a step fewer: on a straight direction the row before is
-- the line before, on a diagonal the same row of the last state is one rank on and the row before two.
use Prim.Native.Nat.{ℕ, zero, suc, ◌+◌, ◌-◌, ◌^◌, ◌≤◌, ◌<◌}
use mathlib.Core.Path.{◌≡◌, refl, sym, ap, ◌∙◌}
use mathlib.Core.Bool.{Bool, true, false, cond}
use mathlib.Core.List.{Memᴰ}
use mathlib.Core.Logic.{◌⊎◌, inl, inr}
use native.Mathlib.Omega.{arith}
use lib.Dec.{leb}
use borrow.Author.Tests.{leb-true}
use Rattle.frames.specs.Frames.{past, Framed}
use Rattle.frames.specs.declared.frame.Frame.{Frame}
use Rattle.plans.specs.Plans.{line_at, row_lo, row_hi, rows_in, Sound, steps_at}
use Rattle.states.specs.Rows.{gate, in_row}
use Rattle.states.specs.States.{row_before, last_before, seen}
use Rattle.plans.specs.declared.plan.Plan.{Plan}
use Rattle.directions.specs.Numbers.{pixel_in}
use Rattle.directions.specs.Plans.{straight_plan, ranked_plan, AreaOf}
use Rattle.directions.specs.Traces.{trace_area, trace_plan, SpotOf}
use Rattle.directions.specs.declared.plan.Area.{Area}
use Rattle.directions.specs.declared.frame.Spot.{Spot}
use Rattle.theory.specs.Walks.{around}
use Rattle.directions.proofs.KeptLaws.{RowOn, on_straight, on_ranked}
use Rattle.directions.proofs.RankedLaws.{rank_on, rank_two_on}
use Rattle.directions.proofs.StepPlaces.{clash, place_step}
use Rattle.directions.proofs.StraightLaws.{line_before}
use Rattle.directions.proofs.TraceLaws.{trace_area_lem}
use Rattle.directions.proofs.TraceRows.{line_rows, rank_rows}
use Rattle.directions.proofs.TracePlans.{trace_choice}

-- ---- where a number was read

-- a number that is not 0 is one of the row's
pub in_row_some : (lo hi : ℕ) (f : ℕ → ℕ) (X : ℕ) → 1 ≤ in_row lo hi f X → (lo < X) × (X ≤ hi) × (in_row lo hi f X ≡ f (X - 1))
unfolding in_row
in_row_some lo hi f X h = go (leb (lo + 1) X) (leb X hi) refl refl h
  where
    go : (a b : Bool) → leb (lo + 1) X ≡ a → leb X hi ≡ b → 1 ≤ gate a (gate b (f (X - 1))) →
        (lo < X) × (X ≤ hi) × (gate a (gate b (f (X - 1))) ≡ f (X - 1))
    go true true u v l = (omega (arith, leb-true (lo + 1) X u), leb-true X hi v, refl)
    go true false u v l = absurd (omega arith)
    go false b u v l = absurd (omega arith)

-- by the row y that a step leads to: the row before of this state, the row before of the last, or the same row of the last
pub record ReadAt (p : Plan) (e : ℕ) (last this : ℕ → ℕ → ℕ → ℕ) (y m j X : ℕ) : Type 0 where
  pub own : y ≡ 0 → (m' : ℕ) × (m ≡ suc m') × (row_lo p e m' < X) × (X ≤ row_hi p e m') × (seen p e last this y m j X ≡ this m' j (X - 1))
  pub before : y ≡ 1 →
      (d : ℕ) × (m' : ℕ) × (e ≡ suc d) × (m ≡ suc m') × (row_lo p d m' < X) × (X ≤ row_hi p d m') × (seen p e last this y m j X ≡ last m' j (X - 1))
  pub beside : y ≡ 2 → (d : ℕ) × (e ≡ suc d) × (row_lo p d m < X) × (X ≤ row_hi p d m) × (seen p e last this y m j X ≡ last m j (X - 1))

row_read : (p : Plan) (e : ℕ) (f : ℕ → ℕ → ℕ → ℕ) (m j X : ℕ) → 1 ≤ row_before p e f m j X →
    (m' : ℕ) × (m ≡ suc m') × (row_lo p e m' < X) × (X ≤ row_hi p e m') × (row_before p e f m j X ≡ f m' j (X - 1))
unfolding row_before
row_read p e f zero j X h = absurd (omega arith)
row_read p e f (suc m) j X h = let s = in_row_some (row_lo p e m) (row_hi p e m) (f m j) X h in (m, refl, s.0, s.1, s.2)

last_read : (p : Plan) (e : ℕ) (f : ℕ → ℕ → ℕ → ℕ) (m j X : ℕ) → 1 ≤ last_before p e f m j X →
    (d : ℕ) × (m' : ℕ) × (e ≡ suc d) × (m ≡ suc m') × (row_lo p d m' < X) × (X ≤ row_hi p d m') × (last_before p e f m j X ≡ f m' j (X - 1))
unfolding last_before
last_read p zero f m j X h = absurd (omega arith)
last_read p (suc e) f m j X h = let s = row_read p e f m j X h in (e, s.0, refl, s.1, s.2, s.3, s.4)

same_read : (p : Plan) (e : ℕ) (f : ℕ → ℕ → ℕ → ℕ) (m j X : ℕ) → 1 ≤ last_before p e f (suc m) j X →
    (d : ℕ) × (e ≡ suc d) × (row_lo p d m < X) × (X ≤ row_hi p d m) × (last_before p e f (suc m) j X ≡ f m j (X - 1))
unfolding last_before row_before
same_read p zero f m j X h = absurd (omega arith)
same_read p (suc e) f m j X h = let s = in_row_some (row_lo p e m) (row_hi p e m) (f m j) X h in (e, refl, s.0, s.1, s.2)

pub read_tap : (p : Plan) (e : ℕ) (last this : ℕ → ℕ → ℕ → ℕ) (y m j X : ℕ) → y ≤ 2 → 1 ≤ seen p e last this y m j X → ReadAt p e last this y m j X
unfolding seen
read_tap p e last this zero m j X few h =
    record { own = λ _. row_read p e this m j X h; before = λ y. absurd (omega arith); beside = λ y. absurd (omega arith) }
read_tap p e last this (suc zero) m j X few h =
    record { own = λ y. absurd (omega arith); before = λ _. last_read p e last m j X h; beside = λ y. absurd (omega arith) }
read_tap p e last this (suc (suc y)) m j X few h =
    record { own = λ y. absurd (omega arith); before = λ y. absurd (omega arith); beside = λ _. same_read p e last m j X h }

-- ---- a step to row y, d pixels on less one

-- from pixel z of row m of state e it reads pixel z' of row m' of state e', and both are there
pub record Tap (p : Plan) (y d e m z e' m' z' : ℕ) : Type 0 where
  pub own : y ≡ 0 → (e' ≡ e) × (m ≡ suc m')
  pub before : y ≡ 1 → (e ≡ suc e') × (m ≡ suc m')
  pub beside : y ≡ 2 → (e ≡ suc e') × (m' ≡ m)
  pub aside : z + d ≡ suc z'
  pub row : m < rows_in p e
  pub low : row_lo p e m ≤ z
  pub high : z < row_hi p e m
  pub row' : m' < rows_in p e'
  pub low' : row_lo p e' m' ≤ z'
  pub high' : z' < row_hi p e' m'

-- the pixel that is read is one to which a step leads, with a step fewer
pub record Leads (r : Frame) (p : Plan) (back : Bool) (W H index e m z e' m' z' : ℕ) : Type 0 where
  pub next : Memᴰ (pixel_in r p.ranked (line_at p e' m') z') (around back W H (2 ^ index) (pixel_in r p.ranked (line_at p e m) z))
  pub fewer : steps_at p e m ≡ suc (steps_at p e' m')

-- where a number that is not 0 was read, as such a step, in states f
pub record Tapped (p : Plan) (f : ℕ → ℕ → ℕ → ℕ → ℕ) (y d e m z j : ℕ) : Type 0 where
  pub state : ℕ
  pub row : ℕ
  pub pixel : ℕ
  pub tap : Tap p y d e m z state row pixel
  pub is : seen p e (f (e - 1)) (f e) y m j (z + d) ≡ f state row j pixel

-- a row of the state before e
more_rows : (p : Plan) → Sound p → (e d m : ℕ) → e ≡ suc d → m < rows_in p e → m < rows_in p d
more_rows p S e d m is h = omega (arith, ap (rows_in p) is, S.more d)

pub seen_tap : (p : Plan) → Sound p → (f : ℕ → ℕ → ℕ → ℕ → ℕ) (y d e m z j : ℕ) → y ≤ 2 → m < rows_in p e → row_lo p e m ≤ z → z < row_hi p e m →
    1 ≤ seen p e (f (e - 1)) (f e) y m j (z + d) → Tapped p f y d e m z j
seen_tap p S f zero d e m z j few row low high h =
    let s = (read_tap p e (f (e - 1)) (f e) 0 m j (z + d) few h).own refl in
    record {
      state = e;
      row = s.0;
      pixel = z + d - 1;
      tap =
          record {
            own = λ _. (refl, s.1);
            before = λ y. absurd (omega arith);
            beside = λ y. absurd (omega arith);
            aside = omega (arith, s.2);
            row = row;
            low = low;
            high = high;
            row' = omega (arith, s.1);
            low' = omega (arith, s.2);
            high' = omega (arith, s.2, s.3);
          };
      is = s.4;
    }
seen_tap p S f (suc zero) d e m z j few row low high h =
    let s = (read_tap p e (f (e - 1)) (f e) 1 m j (z + d) few h).before refl in
    let e= : e - 1 ≡ s.0 = omega (arith, s.2) in
    record {
      state = s.0;
      row = s.1;
      pixel = z + d - 1;
      tap =
          record {
            own = λ y. absurd (omega arith);
            before = λ _. (s.2, s.3);
            beside = λ y. absurd (omega arith);
            aside = omega (arith, s.4);
            row = row;
            low = low;
            high = high;
            row' = more_rows p S e s.0 s.1 s.2 (omega (arith, s.3));
            low' = omega (arith, s.4);
            high' = omega (arith, s.4, s.5);
          };
      is = s.6 ∙ ap (λ (i : ℕ). f i s.1 j (z + d - 1)) e=;
    }
seen_tap p S f (suc (suc y)) d e m z j few row low high h =
    let y= : suc (suc y) ≡ 2 = omega arith in
    let s = (read_tap p e (f (e - 1)) (f e) (suc (suc y)) m j (z + d) few h).beside y= in
    let e= : e - 1 ≡ s.0 = omega (arith, s.1) in
    record {
      state = s.0;
      row = m;
      pixel = z + d - 1;
      tap =
          record {
            own = λ y. absurd (omega arith);
            before = λ y. absurd (omega arith);
            beside = λ _. (s.1, refl);
            aside = omega (arith, s.2);
            row = row;
            low = low;
            high = high;
            row' = more_rows p S e s.0 m s.1 row;
            low' = omega (arith, s.2);
            high' = omega (arith, s.2, s.3);
          };
      is = s.4 ∙ ap (λ (i : ℕ). f i m j (z + d - 1)) e=;
    }

-- ---- the ranks of both pixels, R and R'

-- along the line, one rank on
rank_along : (back : Bool) (R R' z z' : ℕ) → past back R ≡ suc R' → z + cond back 2 0 ≡ suc z' → z ≤ R → z' ≤ R' →
    (R' - z' ≡ R - z) × (past back z ≡ suc z')
unfolding past
rank_along true R R' z z' e a h k = (omega arith, omega arith)
rank_along false R R' z z' e a h k = (omega arith, omega arith)

-- to the next line, one rank on
rank_across : (back : Bool) (R R' z z' : ℕ) → past back R ≡ suc R' → z + 1 ≡ suc z' → z ≤ R → z' ≤ R' → (past back (R - z) ≡ suc (R' - z')) × (z' ≡ z)
unfolding past
rank_across true R R' z z' e a h k = (omega arith, omega arith)
rank_across false R R' z z' e a h k = (omega arith, omega arith)

-- both, two ranks on
rank_both : (back : Bool) (R R' z z' : ℕ) → past back (past back R) ≡ R' + 2 → z + cond back 2 0 ≡ suc z' → z ≤ R → z' ≤ R' →
    (past back (R - z) ≡ suc (R' - z')) × (past back z ≡ suc z')
unfolding past
rank_both true R R' z z' e a h k = (omega arith, omega arith)
rank_both false R R' z z' e a h k = (omega arith, omega arith)

-- ---- both kinds of plans

module _ (r : Frame) (W H index : ℕ) (F : Framed r W H index) (back : Bool) (a : Area) (area : AreaOf r a) (rows planes : ℕ) where
  -- in a straight direction every step leads to the line before
  straight_tap : r.diagonal ≡ false → (d e m z e' m' z' : ℕ) → d ≤ 2 → Tap (straight_plan r back a rows planes) 0 d e m z e' m' z' →
      Leads r (straight_plan r back a rows planes) back W H index e m z e' m' z'
  straight_tap straight d e m z e' m' z' few t =
      let p = straight_plan r back a rows planes in
      let o = t.own refl in
      let here : RowOn r p e m z = on_straight r a area rows planes back e m z t.row t.low t.high in
      let there : RowOn r p e' m' z' = on_straight r a area rows planes back e' m' z' t.row' t.low' t.high' in
      record {
        next =
            place_step r W H index F back (line_at p e m) z here.within here.column (line_at p e' m') z'
            (record {
              on_line = there.within;
              on_pixel = there.column;
              straight = λ _. (
                line_before r back a rows planes area e m t.row m' o.1 ∙ ap (λ (k : ℕ). suc (line_at p k m')) (sym o.0),
                omega (arith, t.aside),
                omega (arith, t.aside),
              );
              diagonal = λ i. clash r.diagonal i straight;
            });
        fewer = o.1;
      }

  module _ (slanted : r.diagonal ≡ true) (along_rows : Bool) (e m z e' m' z' : ℕ) where
    abbrev ranks : Plan
    ranks = ranked_plan r along_rows back a rows planes

    -- a step whose lines and pixels are those of the direction
    ranked_by : (y d : ℕ) → Tap ranks y d e m z e' m' z' → e ≡ suc e' →
        (z ≤ line_at ranks e m → z' ≤ line_at ranks e' m' →
        ((line_at ranks e' m' - z' ≡ line_at ranks e m - z) × (past back z ≡ suc z'))
        ⊎ (((past back (line_at ranks e m - z) ≡ suc (line_at ranks e' m' - z')) × (z' ≡ z))
        ⊎ ((past back (line_at ranks e m - z) ≡ suc (line_at ranks e' m' - z')) × (past back z ≡ suc z')))) →
        Leads r ranks back W H index e m z e' m' z'
    ranked_by y d t is led =
        let here : RowOn r ranks e m z = on_ranked r a area rows planes along_rows back e m z t.low t.high in
        let there : RowOn r ranks e' m' z' = on_ranked r a area rows planes along_rows back e' m' z' t.low' t.high' in
        record {
          next =
              place_step r W H index F back (line_at ranks e m - z) z here.within here.column (line_at ranks e' m' - z') z'
              (record {
                on_line = there.within;
                on_pixel = there.column;
                straight = λ i. clash r.diagonal slanted i;
                diagonal = λ _. led (here.reached refl) (there.reached refl);
              });
          fewer = is;
        }

    -- the same row of the last state is one rank on
    one_on : (d : ℕ) → Tap ranks 2 d e m z e' m' z' → past back (line_at ranks e m) ≡ suc (line_at ranks e' m')
    one_on d t =
        let o = t.beside refl in
        rank_on r along_rows back a rows planes area e e' m t.row o.0 ∙ ap (λ (k : ℕ). suc (line_at ranks e' k)) (sym o.1)

    along_tap : Tap ranks 2 (cond back 2 0) e m z e' m' z' → Leads r ranks back W H index e m z e' m' z'
    along_tap t =
        ranked_by 2 (cond back 2 0) t (t.beside refl).0
        (λ h k. inl (rank_along back (line_at ranks e m) (line_at ranks e' m') z z' (one_on (cond back 2 0) t) t.aside h k))

    across_tap : Tap ranks 2 1 e m z e' m' z' → Leads r ranks back W H index e m z e' m' z'
    across_tap t =
        ranked_by 2 1 t (t.beside refl).0
        (λ h k. inr (inl (rank_across back (line_at ranks e m) (line_at ranks e' m') z z' (one_on 1 t) t.aside h k)))

    both_tap : Tap ranks 1 (cond back 2 0) e m z e' m' z' → Leads r ranks back W H index e m z e' m' z'
    both_tap t =
        let o = t.before refl in
        ranked_by 1 (cond back 2 0) t o.0
        (λ h k.
        inr (inr (rank_both back (line_at ranks e m) (line_at ranks e' m') z z'
        (rank_two_on r along_rows back a rows planes area e e' m t.row o.0 m' o.1) t.aside h k)))

-- ---- the plan of a trace

few_left : (back : Bool) → cond back 2 0 ≤ 2
few_left true = omega arith
few_left false = omega arith

few_right : (back : Bool) → cond back 0 2 ≤ 2
few_right true = omega arith
few_right false = omega arith

module _ (r : Frame) (W H index : ℕ) (F : Framed r W H index) (along_rows back : Bool) (L planes : ℕ) (s : Spot) (x : ℕ) (S : SpotOf r s x)
    (e m z e' m' z' : ℕ) where
  abbrev area : AreaOf r (trace_area r back s)
  area = trace_area_lem r back s S.on_line S.on_pixel

  abbrev ranked-plan : Bool → Plan
  ranked-plan rows = ranked_plan r rows back (trace_area r back s) (rank_rows r back L s) planes

  ranked_first : r.diagonal ≡ true → (rows : Bool) → Tap (ranked-plan rows) (ranked-plan rows).reach.y0 (ranked-plan rows).reach.x0 e m z e' m' z' →
      Leads r (ranked-plan rows) back W H index e m z e' m' z'
  ranked_first d true t = along_tap r W H index F back (trace_area r back s) area (rank_rows r back L s) planes d true e m z e' m' z' t
  ranked_first d false t = across_tap r W H index F back (trace_area r back s) area (rank_rows r back L s) planes d false e m z e' m' z' t

  ranked_second : r.diagonal ≡ true → (rows : Bool) → Tap (ranked-plan rows) (ranked-plan rows).reach.y1 (ranked-plan rows).reach.x1 e m z e' m' z' →
      Leads r (ranked-plan rows) back W H index e m z e' m' z'
  ranked_second d true t = both_tap r W H index F back (trace_area r back s) area (rank_rows r back L s) planes d true e m z e' m' z' t
  ranked_second d false t = both_tap r W H index F back (trace_area r back s) area (rank_rows r back L s) planes d false e m z e' m' z' t

  ranked_third : r.diagonal ≡ true → (rows : Bool) → Tap (ranked-plan rows) (ranked-plan rows).reach.y2 (ranked-plan rows).reach.x2 e m z e' m' z' →
      Leads r (ranked-plan rows) back W H index e m z e' m' z'
  ranked_third d true t = across_tap r W H index F back (trace_area r back s) area (rank_rows r back L s) planes d true e m z e' m' z' t
  ranked_third d false t = along_tap r W H index F back (trace_area r back s) area (rank_rows r back L s) planes d false e m z e' m' z' t

  pub first_tap :
      Tap (trace_plan r along_rows back L planes s) (trace_plan r along_rows back L planes s).reach.y0 (trace_plan r along_rows back L planes s).reach.x0
      e m z e' m' z' → Leads r (trace_plan r along_rows back L planes s) back W H index e m z e' m' z'
  first_tap =
      trace_choice r along_rows back L planes s
      (λ (p : Plan) (n : ℕ). Tap p p.reach.y0 p.reach.x0 e m z e' m' z' → Leads r p back W H index e m z e' m' z')
      (λ d t. ranked_first d along_rows t)
      (λ d t. straight_tap r W H index F back (trace_area r back s) area (line_rows r back L s) planes d _ e m z e' m' z' (few_left back) t)

  pub second_tap :
      Tap (trace_plan r along_rows back L planes s) (trace_plan r along_rows back L planes s).reach.y1 (trace_plan r along_rows back L planes s).reach.x1
      e m z e' m' z' → Leads r (trace_plan r along_rows back L planes s) back W H index e m z e' m' z'
  second_tap =
      trace_choice r along_rows back L planes s
      (λ (p : Plan) (n : ℕ). Tap p p.reach.y1 p.reach.x1 e m z e' m' z' → Leads r p back W H index e m z e' m' z')
      (λ d t. ranked_second d along_rows t)
      (λ d t. straight_tap r W H index F back (trace_area r back s) area (line_rows r back L s) planes d 1 e m z e' m' z' (omega arith) t)

  pub third_tap :
      Tap (trace_plan r along_rows back L planes s) (trace_plan r along_rows back L planes s).reach.y2 (trace_plan r along_rows back L planes s).reach.x2
      e m z e' m' z' → Leads r (trace_plan r along_rows back L planes s) back W H index e m z e' m' z'
  third_tap =
      trace_choice r along_rows back L planes s
      (λ (p : Plan) (n : ℕ). Tap p p.reach.y2 p.reach.x2 e m z e' m' z' → Leads r p back W H index e m z e' m' z')
      (λ d t. ranked_third d along_rows t)
      (λ d t. straight_tap r W H index F back (trace_area r back s) area (line_rows r back L s) planes d _ e m z e' m' z' (few_right back) t)
