-- The plans of both sides of a direction, row against row. Row m of state e meets, counted from the last, row m of state e of the other side: at the
-- same pixels, and with the other steps of a whole path. And where there is room for two walks of so many steps together, some row has them.
use Prim.Native.Nat.{ℕ, ◌+◌, ◌-◌, ◌≤◌, ◌<◌, min, max}
use mathlib.Core.Path.{◌≡◌, refl, ap, subst}
use mathlib.Core.Bool.{Bool, true, false, cond}
use native.Mathlib.Omega.{arith}
use Rattle.frames.specs.Frames.{place_in}
use Rattle.frames.specs.declared.frame.Frame.{Frame}
use Rattle.plans.specs.Plans.{line_of, first_in, past_in, order_of, line_at, row_lo, row_hi, rows_in, steps_at}
use Rattle.plans.specs.declared.plan.Plan.{Plan}
use Rattle.directions.specs.Plans.{straight_plan, still_plan, ranked_plan, whole_area, spare_of, filter_plan, filter_states}
use Rattle.directions.specs.Numbers.{pixel_in}
use Rattle.directions.proofs.ChoiceLaws.{filter_choice}
use Rattle.plans.proofs.LineForms.{still_rows}

-- the row whose walks of n steps go on from pixel x of line i
pub record RowFor (r : Frame) (p : Plan) (states i x n : ℕ) : Type 0 where
  pub state : ℕ
  pub row : ℕ
  pub some_state : state < states
  pub some_row : row < p.rows
  pub from : row_lo p state row ≤ x
  pub below : x < row_hi p state row
  pub is_steps : steps_at p state row ≡ n
  pub is_place : pixel_in r p.ranked (line_at p state row) x ≡ place_in r i x

-- both sides, for paths of so many steps
pub record Paired (r : Frame) (p o : Plan) (states steps planes slack : ℕ) : Type 0 where
  pub same_planes : p.planes ≡ planes
  pub same_slack : (p.slack ≡ slack) × (o.slack ≡ slack)
  pub full : (e : ℕ) → e < states → rows_in p e ≡ p.rows
  pub meets : (e m x : ℕ) → e < states → m < p.rows →
      pixel_in r o.ranked (line_at o (states - 1 - e) (p.rows - 1 - m)) x ≡ pixel_in r p.ranked (line_at p e m) x
  pub together : (e m : ℕ) → e < states → m < p.rows → steps_at p e m + steps_at o (states - 1 - e) (p.rows - 1 - m) ≡ steps
  pub row_for : (i x n l : ℕ) → i < r.lines → x < r.across → n + l ≡ steps → n ≤ i + cond r.diagonal x 0 →
      l ≤ r.lines - 1 - i + cond r.diagonal (r.across - 1 - x) 0 → RowFor r p states i x n

-- ---- straight: windows of lines

module _ (s lines L : ℕ) (long : s + L ≡ lines) where
  straight_full : (e : ℕ) → e < s + 1 → min L (lines - 0 - e) ≡ L
  straight_full e h = omega arith

  straight_line : (e m : ℕ) → e < s + 1 → m < L → lines - 1 - (s + 1 - 1 - e + (L - 1 - m)) ≡ 0 + (e + m)
  straight_line e m h k = omega arith

  straight_state : (i n l : ℕ) → n + l + 1 ≡ L → l ≤ lines - 1 - i → n ≤ i → i < lines → (i - n < s + 1) × (0 + (i - n + n) ≡ i)
  straight_state i n l all h k on = (omega arith, omega arith)

module _ (r : Frame) (L planes slack : ℕ) (some : 1 ≤ L) (straight : r.diagonal ≡ false) (long : spare_of r L + L ≡ r.lines) where
  abbrev window : Bool → Plan
  window back = straight_plan r back (whole_area r slack) L planes

  window_line : (e m : ℕ) → e < spare_of r L + 1 → m < L → line_at (window true) (spare_of r L + 1 - 1 - e) (L - 1 - m) ≡ line_at (window false) e m
  unfolding line_of order_of
  window_line e m h k = straight_line (spare_of r L) r.lines L long e m h k

  window_row : (i x n l : ℕ) → i < r.lines → x < r.across → n + l ≡ L - 1 → n ≤ i → l ≤ r.lines - 1 - i →
      RowFor r (window false) (spare_of r L + 1) i x n
  unfolding line_of order_of first_in past_in
  window_row i x n l on column all hn hl =
      let st = straight_state (spare_of r L) r.lines L long i n l (omega arith) hl hn on in
      record {
        state = i - n;
        row = n;
        some_state = st.0;
        some_row = omega arith;
        from = omega arith;
        below = column;
        is_steps = refl;
        is_place = ap (λ (y : ℕ). place_in r y x) st.1;
      }

  paired_straight : Paired r (window false) (window true) (spare_of r L + 1) (L - 1) planes slack
  unfolding rows_in
  paired_straight =
      record {
        same_planes = refl;
        same_slack = (refl, refl);
        full = λ e h. straight_full (spare_of r L) r.lines L long e h;
        meets = λ e m x h k. ap (λ (y : ℕ). place_in r y x) (window_line e m h k);
        together = λ e m h k. omega arith;
        row_for = λ i x n l on column all hn hl.
            window_row i x n l on column all
            (let z = subst (λ (b : Bool). n ≤ i + cond b x 0) straight hn in omega (arith, z))
            (let z = subst (λ (b : Bool). l ≤ r.lines - 1 - i + cond b (r.across - 1 - x) 0) straight hl in omega (arith, z));
      }

-- ---- single lines

module _ (r : Frame) (along_rows : Bool) (L planes slack : ℕ) (some : 1 ≤ L) where
  abbrev single : Bool → Plan
  single back = still_plan r along_rows back L planes slack

  single_line : (e m : ℕ) → e < r.lines → line_at (single true) (r.lines - 1 - e) (L - 1 - m) ≡ line_at (single false) e m
  unfolding line_of order_of
  single_line e m h = omega arith

  single_row : (i x n l : ℕ) → i < r.lines → x < r.across → n + l ≡ L - 1 → RowFor r (single false) r.lines i x n
  unfolding line_of order_of first_in past_in
  single_row i x n l on column all =
      record {
        state = i;
        row = n;
        some_state = on;
        some_row = omega arith;
        from = omega arith;
        below = column;
        is_steps = refl;
        is_place = let z : 0 + i ≡ i = omega arith in ap (λ (y : ℕ). place_in r y x) z;
      }

  paired_still : Paired r (single false) (single true) r.lines (L - 1) planes slack
  paired_still =
      record {
        same_planes = refl;
        same_slack = (refl, refl);
        full = λ e h. still_rows (single false) e refl h;
        meets = λ e m x h k. ap (λ (y : ℕ). place_in r y x) (single_line e m h);
        together = λ e m h k. omega arith;
        row_for = λ i x n l on column all hn hl. single_row i x n l on column all;
      }

-- ---- ranks

module _ (s lines across L : ℕ) (long : s + L + 1 ≡ lines + across) where
  ranked_full : (e : ℕ) → e < L → min (s + 1) (lines - 0 + (across - 0) - 1 - e) ≡ s + 1
  ranked_full e h = omega arith

  ranked_line : (e m : ℕ) → e < L → m < s + 1 → lines + across - 2 - (L - 1 - e + (s + 1 - 1 - m)) ≡ 0 + (e + m)
  ranked_line e m h k = omega arith

  ranked_row : (i x n l : ℕ) → n + l + 1 ≡ L → l ≤ lines - 1 - i + (across - 1 - x) → n ≤ i + x → i < lines → x < across →
      (i + x - n < s + 1) × (0 + (n + (i + x - n)) ≡ i + x)
  ranked_row i x n l all h k on column = (omega arith, omega arith)

-- pixel x of line i is one of its rank
rank_pixel : (lines across i x rank : ℕ) → rank ≡ i + x → i < lines → x < across →
    (max 0 (rank + 1 - lines) ≤ x) × (x < min across (rank + 1 - 0)) × (rank - x ≡ i)
rank_pixel lines across i x rank e on column = (omega arith, omega arith, omega arith)

module _ (r : Frame) (along_rows : Bool) (L planes slack : ℕ) (some : 1 ≤ L) (slanted : r.diagonal ≡ true)
    (long : spare_of r L + L + 1 ≡ r.lines + r.across) where
  abbrev slope : Bool → Plan
  slope back = ranked_plan r along_rows back (whole_area r slack) (spare_of r L + 1) planes

  slope_line : (e m : ℕ) → e < L → m < spare_of r L + 1 → line_at (slope true) (L - 1 - e) (spare_of r L + 1 - 1 - m) ≡ line_at (slope false) e m
  unfolding line_of order_of
  slope_line e m h k = ranked_line (spare_of r L) r.lines r.across L long e m h k

  slope_row : (i x n l : ℕ) → i < r.lines → x < r.across → n + l ≡ L - 1 → n ≤ i + x → l ≤ r.lines - 1 - i + (r.across - 1 - x) →
      RowFor r (slope false) L i x n
  unfolding line_of order_of first_in past_in
  slope_row i x n l on column all hn hl =
      let st = ranked_row (spare_of r L) r.lines r.across L long i x n l (omega arith) hl hn on column in
      let px = rank_pixel r.lines r.across i x (0 + (n + (i + x - n))) st.1 on column in
      record {
        state = n;
        row = i + x - n;
        some_state = omega arith;
        some_row = st.0;
        from = px.0;
        below = px.1;
        is_steps = refl;
        is_place = ap (λ (y : ℕ). place_in r y x) px.2;
      }

  paired_ranked : Paired r (slope false) (slope true) L (L - 1) planes slack
  unfolding rows_in
  paired_ranked =
      record {
        same_planes = refl;
        same_slack = (refl, refl);
        full = λ e h. ranked_full (spare_of r L) r.lines r.across L long e h;
        meets = λ e m x h k. ap (λ (y : ℕ). place_in r (y - x) x) (slope_line e m h k);
        together = λ e m h k. omega arith;
        row_for = λ i x n l on column all hn hl.
            slope_row i x n l on column all (subst (λ (b : Bool). n ≤ i + cond b x 0) slanted hn)
            (subst (λ (b : Bool). l ≤ r.lines - 1 - i + cond b (r.across - 1 - x) 0) slanted hl);
      }

-- ---- the plans of the filter

module _ (r : Frame) (along_rows : Bool) (L planes slack : ℕ) (some : 1 ≤ L) (some_across : 1 ≤ r.across)
    (fits : L ≤ r.lines + cond r.diagonal (r.across - 1) 0) where
  long_straight : r.diagonal ≡ false → spare_of r L + L ≡ r.lines
  long_straight d =
      let z : cond r.diagonal (r.across - 1) 0 ≡ 0 = rw d in omega (arith, z, fits)

  long_slanted : r.diagonal ≡ true → spare_of r L + L + 1 ≡ r.lines + r.across
  long_slanted d =
      let z : cond r.diagonal (r.across - 1) 0 ≡ r.across - 1 = rw d in omega (arith, z, fits)

  pub paired : Paired r (filter_plan r along_rows false L planes slack) (filter_plan r along_rows true L planes slack) (filter_states r L) (L - 1) planes slack
  paired = filter_choice r L along_rows planes slack (λ p S. Paired r (p false) (p true) S (L - 1) planes slack)
      (λ d b. paired_ranked r along_rows L planes slack some d (long_slanted d))
      (λ d b. paired_still r along_rows L planes slack some)
      (λ d. paired_straight r L planes slack some d (long_straight d))
