-- Where the keys of a row stand. Row m of a state begins at a row of keys, and key x of it is that of pixel x. On lines the row of keys is the line; on
-- ranks it is the rank, or past the last line the rank less the number of lines, where the pixels of that rank are those past the row's number.
use Prim.Native.Nat.{ℕ, ◌+◌, ◌-◌, ◌*◌, ◌/◌, ◌%◌, ◌≤◌, ◌<◌, min, max}
use mathlib.Core.Path.{◌≡◌, refl, sym, ap, subst, ◌∙◌}
use mathlib.Core.Bool.{Bool, true, false, cond, true≢false}
use mathlib.Core.Logic.{⊎_elim}
use native.Mathlib.Omega.{arith}
use lib.Arith.{digits_lt, digits_div, digits_mod}
use lib.Dec.{leb}
use borrow.Author.Tests.{le-leb, lt-leb}
use Rattle.basics.proofs.Numbers.{le_or_lt}
use Rattle.frames.specs.Frames.{place_in}
use Rattle.frames.specs.declared.frame.Frame.{Frame}
use Rattle.plans.specs.Plans.{line_of, first_in, past_in, keys_of, order_of, line_at, row_lo, row_hi, row_at, rows_in}
use Rattle.plans.specs.declared.plan.Plan.{Plan}
use Rattle.directions.specs.declared.plan.Area.{Area}
use Rattle.directions.specs.Plans.{straight_plan, still_plan, ranked_plan, whole_area, AreaOf, spare_of, filter_plan, filter_states}
use Rattle.directions.specs.Numbers.{pixel_in, line_kept, place_kept}
use Rattle.directions.proofs.ChoiceLaws.{whole_area_lem, filter_choice}

-- ---- one row of keys

-- the row of keys of a line or rank
abbrev key_row : Plan → ℕ → ℕ
key_row p line = cond (leb p.lines line) (line - p.lines) line

module _ (r : Frame) (p : Plan) (same_lines : p.lines ≡ r.lines) (same_across : p.across ≡ r.across) (line x : ℕ) (column : x < r.across) where
  row_near : line < r.lines → key_row p line ≡ line
  row_near h = rw (lt-leb p.lines line (omega arith))

  row_far : r.lines ≤ line → key_row p line ≡ line - r.lines
  row_far h = rw (le-leb p.lines line (omega arith), same_lines)

  -- the place of key x of a row, by the line it is on
  place_by : (ranked : Bool) (row i : ℕ) → key_row p line ≡ row → line_kept r ranked row x ≡ i → place_kept r ranked (keys_of p line + x) ≡ place_in r i x
  unfolding place_kept keys_of
  place_by ranked row i is_row is_line =
      let e : key_row p line * p.across + x ≡ row * r.across + x = rw (is_row, same_across) in
      let d : (key_row p line * p.across + x) / r.across ≡ row = ap (λ (n : ℕ). n / r.across) e ∙ digits_div row column in
      let m : (key_row p line * p.across + x) % r.across ≡ x = ap (λ (n : ℕ). n % r.across) e ∙ digits_mod row column in
      rw (d, m, is_line)

  pub kept_line : line < r.lines → place_kept r false (keys_of p line + x) ≡ pixel_in r false line x
  unfolding line_kept
  kept_line h = place_by false line line (row_near h) refl

  kept_low : (row : ℕ) → x ≤ row → line_kept r true row x ≡ row - x
  unfolding line_kept
  kept_low row h = rw (le-leb x row h)

  kept_high : (row : ℕ) → row < x → line_kept r true row x ≡ row + r.lines - x
  unfolding line_kept
  kept_high row h = rw (lt-leb x row h)

  pub kept_rank : x ≤ line → line - x < r.lines → r.across ≤ r.lines → place_kept r true (keys_of p line + x) ≡ pixel_in r true line x
  kept_rank h k slim =
      ⊎_elim
      (λ far. place_by true (line - r.lines) (line - x) (row_far far)
      (let z : line - r.lines + r.lines - x ≡ line - x = omega arith in kept_high (line - r.lines) (omega arith) ∙ z))
      (λ close. place_by true line (line - x) (row_near close) (kept_low line h))
      (le_or_lt r.lines line)

  -- the keys of all rows lie one after the other
  inside_by : (row : ℕ) → key_row p line ≡ row → row < r.lines → keys_of p line + x < r.lines * r.across
  unfolding keys_of
  inside_by row is_row h = rw (is_row, same_across) (digits_lt h column)

  pub inside_line : line < r.lines → keys_of p line + x < r.lines * r.across
  inside_line h = inside_by line (row_near h) h

  pub inside_rank : x ≤ line → line - x < r.lines → r.across ≤ r.lines → keys_of p line + x < r.lines * r.across
  inside_rank h k slim =
      ⊎_elim (λ far. inside_by (line - r.lines) (row_far far) (omega arith)) inside_line (le_or_lt r.lines line)

-- ---- a pixel of a row, on the frame

pub record RowOn (r : Frame) (p : Plan) (e m x : ℕ) : Type 0 where
  pub column : x < r.across
  pub within : cond p.ranked (line_at p e m - x) (line_at p e m) < r.lines
  pub reached : p.ranked ≡ true → x ≤ line_at p e m

-- a plan of the frame's size, whose ranks find room for their keys
pub record PlanOn (r : Frame) (p : Plan) : Type 0 where
  pub same_lines : p.lines ≡ r.lines
  pub same_across : p.across ≡ r.across
  pub slim : p.ranked ≡ true → r.across ≤ r.lines

module _ (r : Frame) (p : Plan) (sized : PlanOn r p) (e m x : ℕ) (on : RowOn r p e m x) where
  line_within : (ranked : Bool) → p.ranked ≡ ranked → cond ranked (line_at p e m - x) (line_at p e m) < r.lines
  line_within ranked is = subst (λ (b : Bool). cond b (line_at p e m - x) (line_at p e m) < r.lines) is on.within

  kept_by : (ranked : Bool) → p.ranked ≡ ranked → place_kept r ranked (row_at p e m + x) ≡ pixel_in r ranked (line_at p e m) x
  kept_by true is =
      kept_rank r p sized.same_lines sized.same_across (line_at p e m) x on.column (on.reached is) (line_within true is) (sized.slim is)
  kept_by false is = kept_line r p sized.same_lines sized.same_across (line_at p e m) x on.column (line_within false is)

  pub kept_on : place_kept r p.ranked (row_at p e m + x) ≡ pixel_in r p.ranked (line_at p e m) x
  kept_on = kept_by p.ranked refl

  within_keys : (ranked : Bool) → p.ranked ≡ ranked → row_at p e m + x < r.lines * r.across
  within_keys true is =
      inside_rank r p sized.same_lines sized.same_across (line_at p e m) x on.column (on.reached is) (line_within true is) (sized.slim is)
  within_keys false is = inside_line r p sized.same_lines sized.same_across (line_at p e m) x on.column (line_within false is)

  pub kept_inside : row_at p e m + x < r.lines * r.across
  kept_inside = within_keys p.ranked refl

-- ---- the three kinds of plans

-- the pixels of a rank, in plain numbers
rank_on : (top bottom left right line x : ℕ) → max left (line + 1 - bottom) ≤ x → x < min right (line + 1 - top) →
    (x < right) × (x ≤ line) × (line - x + 1 ≤ max bottom 1)
rank_on top bottom left right line x lo hi = (omega arith, omega arith, omega arith)

module _ (r : Frame) (a : Area) (area : AreaOf r a) (rows planes : ℕ) where
  pub sized_straight : (back : Bool) → PlanOn r (straight_plan r back a rows planes)
  sized_straight back = record { same_lines = refl; same_across = refl; slim = λ h. absurd (true≢false (sym h)) }

  pub on_straight : (back : Bool) (e m x : ℕ) → m < rows_in (straight_plan r back a rows planes) e →
      row_lo (straight_plan r back a rows planes) e m ≤ x → x < row_hi (straight_plan r back a rows planes) e m →
      RowOn r (straight_plan r back a rows planes) e m x
  unfolding rows_in line_of order_of first_in past_in
  on_straight true e m x h lo hi =
      record { column = hi; within = omega (arith, area.low, area.high); reached = λ t. absurd (true≢false (sym t)) }
  on_straight false e m x h lo hi =
      record { column = hi; within = omega (arith, area.low, area.high); reached = λ t. absurd (true≢false (sym t)) }

  pub sized_ranked : (along_rows back : Bool) → r.across ≤ r.lines → PlanOn r (ranked_plan r along_rows back a rows planes)
  sized_ranked along_rows back slim = record { same_lines = refl; same_across = refl; slim = λ h. slim }

  pub on_ranked : (along_rows back : Bool) (e m x : ℕ) →
      row_lo (ranked_plan r along_rows back a rows planes) e m ≤ x → x < row_hi (ranked_plan r along_rows back a rows planes) e m →
      RowOn r (ranked_plan r along_rows back a rows planes) e m x
  unfolding first_in past_in
  on_ranked along_rows back e m x lo hi =
      let line : ℕ = line_at (ranked_plan r along_rows back a rows planes) e m in
      let on = rank_on a.top a.bottom a.left a.right line x lo hi in
      record { column = omega (arith, area.narrow, on.0); within = omega (arith, area.low, area.high, on.2); reached = λ t. on.1 }

module _ (r : Frame) (rows planes slack : ℕ) (along_rows : Bool) where
  pub sized_still : (back : Bool) → PlanOn r (still_plan r along_rows back rows planes slack)
  sized_still back = record { same_lines = refl; same_across = refl; slim = λ h. absurd (true≢false (sym h)) }

  pub on_still : (back : Bool) (e m x : ℕ) → e < r.lines → row_lo (still_plan r along_rows back rows planes slack) e m ≤ x →
      x < row_hi (still_plan r along_rows back rows planes slack) e m → RowOn r (still_plan r along_rows back rows planes slack) e m x
  unfolding line_of order_of first_in past_in
  on_still true e m x h lo hi = record { column = hi; within = omega arith; reached = λ t. absurd (true≢false (sym t)) }
  on_still false e m x h lo hi = record { column = hi; within = omega arith; reached = λ t. absurd (true≢false (sym t)) }

-- ---- the plans of the filter

module _ (r : Frame) (along_rows : Bool) (L planes slack : ℕ) where
  module _ (some_lines : 1 ≤ r.lines) (some_across : 1 ≤ r.across) (slim : r.diagonal ≡ true → r.across ≤ r.lines) where
    area : AreaOf r (whole_area r slack)
    area = whole_area_lem r slack some_lines some_across

    pub sized_filter : (back : Bool) → PlanOn r (filter_plan r along_rows back L planes slack)
    sized_filter = filter_choice r L along_rows planes slack (λ p S. (back : Bool) → PlanOn r (p back))
        (λ d b back. sized_ranked r (whole_area r slack) area (spare_of r L + 1) planes along_rows back (slim d))
        (λ d b back. sized_still r L planes slack along_rows back)
        (λ d back. sized_straight r (whole_area r slack) area L planes back)

    pub on_filter : (back : Bool) (e m x : ℕ) → e < filter_states r L → m < rows_in (filter_plan r along_rows back L planes slack) e →
        row_lo (filter_plan r along_rows back L planes slack) e m ≤ x → x < row_hi (filter_plan r along_rows back L planes slack) e m →
        RowOn r (filter_plan r along_rows back L planes slack) e m x
    on_filter = filter_choice r L along_rows planes slack
        (λ p S. (back : Bool) (e m x : ℕ) → e < S → m < rows_in (p back) e → row_lo (p back) e m ≤ x → x < row_hi (p back) e m → RowOn r (p back) e m x)
        (λ d b back e m x h k. on_ranked r (whole_area r slack) area (spare_of r L + 1) planes along_rows back e m x)
        (λ d b back e m x h k. on_still r L planes slack along_rows back e m x h)
        (λ d back e m x h k. on_straight r (whole_area r slack) area L planes back e m x k)

    pub kept_row : (back : Bool) (e m x : ℕ) → e < filter_states r L → m < rows_in (filter_plan r along_rows back L planes slack) e →
        row_lo (filter_plan r along_rows back L planes slack) e m ≤ x → x < row_hi (filter_plan r along_rows back L planes slack) e m →
        place_kept r (filter_plan r along_rows back L planes slack).ranked (row_at (filter_plan r along_rows back L planes slack) e m + x)
        ≡ pixel_in r (filter_plan r along_rows back L planes slack).ranked (line_at (filter_plan r along_rows back L planes slack) e m) x
    kept_row back e m x h k lo hi =
        kept_on r (filter_plan r along_rows back L planes slack) (sized_filter back) e m x (on_filter back e m x h k lo hi)

    -- the keys of the rows, where the keys of the plate stand so
    pub keyed : (g keys : ℕ → ℕ) (back : Bool) → ((q : ℕ) → keys q ≡ g (place_kept r (filter_plan r along_rows back L planes slack).ranked q)) →
        (e m x : ℕ) → e < filter_states r L → m < rows_in (filter_plan r along_rows back L planes slack) e →
        row_lo (filter_plan r along_rows back L planes slack) e m ≤ x → x < row_hi (filter_plan r along_rows back L planes slack) e m →
        keys (row_at (filter_plan r along_rows back L planes slack) e m + x)
        ≡ g (pixel_in r (filter_plan r along_rows back L planes slack).ranked (line_at (filter_plan r along_rows back L planes slack) e m) x)
    keyed g keys back are e m x h k lo hi =
        are (row_at (filter_plan r along_rows back L planes slack) e m + x) ∙ ap g (kept_row back e m x h k lo hi)

    -- both sides keep the keys in the same way
    pub same_ranked : (filter_plan r along_rows true L planes slack).ranked ≡ (filter_plan r along_rows false L planes slack).ranked
    same_ranked = filter_choice r L along_rows planes slack (λ p S. (p true).ranked ≡ (p false).ranked) (λ d b. refl) (λ d b. refl) (λ d. refl)
