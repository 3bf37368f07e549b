-- Ranks of a diagonal: state e is the walks of e steps, and row m those at rank e + m of an area. A step along the line or to the line before leads one
-- rank on, where the walks of a step fewer are the same row of the last state; one that does both leads two ranks on, to the row before of the last
-- state. Before row 0 there is none, and no walk: so many steps don't find room there. So the states grow as `best_walk_to` does.
use Prim.Native.Nat.{ℕ, zero, suc, ◌+◌, ◌-◌, ◌^◌, ◌≤◌, ◌<◌}
use mathlib.Core.Path.{◌≡◌, refl, sym, ap, ◌∙◌}
use mathlib.Core.Bool.{Bool, true, false, cond}
use mathlib.Core.Logic.{⊎_elim}
use native.Mathlib.Omega.{arith}
use Rattle.frames.specs.Frames.{Framed, place_in, spot, past, onward}
use Rattle.frames.specs.declared.frame.Frame.{Frame}
use Rattle.plans.specs.Plans.{line_of, order_of, first_in, past_in, line_at, rows_in, row_lo, row_hi}
use Rattle.states.specs.States.{row_before, last_before, seen, ahead, Grown}
use Rattle.plans.specs.declared.plan.Plan.{Plan}
use Rattle.directions.specs.Plans.{ranked_plan, AreaOf}
use Rattle.directions.specs.Numbers.{number_at}
use Rattle.directions.specs.declared.plan.Area.{Area}
use Rattle.theory.specs.BestWalks.{best_walk_to}
use Rattle.theory.specs.Walks.{around}
use Rattle.directions.proofs.SpotRows.{InArea, Beside, in_or_beside, spot_zero, rank_row}
use Rattle.directions.proofs.TapLaws.{diagonal_taps}
use Rattle.directions.proofs.GrownLaws.{Keyed, StartsBy, grown_by}

-- ---- ranks that a step leads to

past_line : (back : Bool) (i x : ℕ) → past back i + (x + 1) ≡ past back (i + x) + 1
unfolding past
past_line true i x = omega arith
past_line false i x = omega arith

past_pixel : (back : Bool) (i x : ℕ) → i + 1 + past back x ≡ past back (i + x) + 1
unfolding past
past_pixel true i x = omega arith
past_pixel false i x = omega arith

past_both : (back : Bool) (i x : ℕ) → past back i + past back x ≡ past back (past back (i + x))
unfolding past
past_both true i x = omega arith
past_both false i x = omega arith

-- how many steps there are in the area, from a pixel of it
abbrev pub room_in : Area → Bool → ℕ → ℕ → ℕ
room_in a back i x = cond back (a.bottom - 1 - i + (a.right - 1 - x)) (i - a.top + (x - a.left))

module _ (r : Frame) (along_rows back : Bool) (a : Area) (rows planes : ℕ) (area : AreaOf r a) where
  abbrev plan : Plan
  plan = ranked_plan r along_rows back a rows planes

  -- a pixel of a rank
  pixel_on : (e m x : ℕ) → row_lo plan e m ≤ x → x < row_hi plan e m → (line_at plan e m - x < r.lines) × (x < r.across)
  unfolding first_in past_in
  pixel_on e m x k l = (omega (arith, area.low), omega (arith, area.narrow))

  pixel_rank : (e m x : ℕ) → row_lo plan e m ≤ x → x < row_hi plan e m → line_at plan e m - x + x ≡ line_at plan e m
  unfolding first_in past_in
  pixel_rank e m x k l = omega arith

  -- ranks end in the area
  rank_within : (e m : ℕ) → m < rows_in plan e → e + m + 2 + a.top + a.left ≤ a.bottom + a.right
  unfolding rows_in
  rank_within e m row = omega (arith, row, area.high, area.wide)

  module _ (e n m : ℕ) (row : m < rows_in plan e) (is : e ≡ suc n) where
    -- the same row of the last state is one rank on
    pub rank_on : past back (line_at plan e m) ≡ suc (line_at plan n m)
    unfolding line_of order_of past
    rank_on =
        elim back as (λ b. past b (line_at (ranked_plan r along_rows b a rows planes) e m) ≡ suc (line_at (ranked_plan r along_rows b a rows planes) n m)) [ true ↦ omega (arith, rank_within e m row) | false ↦ omega arith ]

    -- the row before of the last state is two
    pub rank_two_on : (k : ℕ) → m ≡ suc k → past back (past back (line_at plan e m)) ≡ line_at plan n k + 2
    unfolding line_of order_of past
    rank_two_on k h =
        elim back as (λ b. past b (past b (line_at (ranked_plan r along_rows b a rows planes) e m)) ≡ line_at (ranked_plan r along_rows b a rows planes) n k + 2) [ true ↦ omega (arith, rank_within e m row) | false ↦ omega arith ]

    -- two ranks on from row 0, no pixel of the area has room for the walks of the last state
    no_room :
        (i x y z : ℕ) → m ≡ 0 → i + x ≡ line_at plan e m → past back i ≡ suc y → past back x ≡ suc z → InArea a y z → room_in a back y z < n
    unfolding line_of order_of past
    no_room i x y z h =
        elim back as (λ b. i + x ≡ line_at (ranked_plan r along_rows b a rows planes) e m → past b i ≡ suc y → past b x ≡ suc z → InArea a y z → room_in a b y z < n) [
          | true ↦ λ s u v w. omega (arith, rank_within e m row, w.over_bottom, w.before_right)
          | false ↦ λ s u v w. omega (arith, w.under_top, w.past_left)
        ]

-- ---- the three steps

module _ (r : Frame) (W H index : ℕ) (framed : Framed r W H index) (slanted : r.diagonal ≡ true) (along_rows back : Bool) (g : ℕ → ℕ) (passes : ℕ → Bool)
    (a : Area) (area : AreaOf r a) (rows planes : ℕ)
    (outside : (n j i x : ℕ) → i < r.lines → x < r.across → Beside a i x → best_walk_to a.slack (around back W H (2 ^ index)) g passes n j (place_in r i x) ≡ 0)
    (too_far : (n j i x : ℕ) → InArea a i x → room_in a back i x < n → best_walk_to a.slack (around back W H (2 ^ index)) g passes n j (place_in r i x) ≡ 0) where
  abbrev p : Plan
  p = ranked_plan r along_rows back a rows planes

  abbrev walks : ℕ → ℕ → ℕ → ℕ
  walks = best_walk_to a.slack (around back W H (2 ^ index)) g passes

  abbrev number : ℕ → ℕ → ℕ → ℕ → ℕ
  number = number_at r p (around back W H (2 ^ index)) g passes

  module _ (e n : ℕ) (is : e ≡ suc n) (j : ℕ) where
    -- a row of the last state is the spots of its rank
    last_row : (k Y X : ℕ) → Y + X ≡ line_at p n k + 2 → last_before p e (number (e - 1)) (suc k) j X ≡ spot (walks n j) r Y X
    unfolding last_before row_before first_in past_in number_at
    last_row k Y X sum =
        let z : e - 1 ≡ n = omega arith in
        ap (λ (i : ℕ). last_before p i (number (e - 1)) (suc k) j X) is
        ∙ rank_row (number (e - 1) k j) (walks n j) r a area (line_at p n k) Y X sum (λ x c d. ap (λ (i : ℕ). number i k j x) z) (outside n j)

    no_row : (X : ℕ) → last_before p e (number (e - 1)) 0 j X ≡ 0
    unfolding last_before row_before
    no_row X = ap (λ (i : ℕ). last_before p i (number (e - 1)) 0 j X) is

    module _ (m i x : ℕ) (row : m < rows_in p e) (sum : i + x ≡ line_at p e m) where
      one_on : past back (i + x) ≡ suc (line_at p n m)
      one_on = ap (past back) sum ∙ rank_on r along_rows back a rows planes area e n m row is

      two_on : (k : ℕ) → k ≡ m → last_before p e (number (e - 1)) m j (past back x) ≡ spot (walks n j) r (past back i) (past back x)
      two_on zero h =
          ap (λ (q : ℕ). last_before p e (number (e - 1)) q j (past back x)) (sym h)
          ∙ no_row (past back x)
          ∙ sym (spot_zero (walks n j) r (past back i) (past back x)
          (λ y z c d u v. ⊎_elim
          (λ w. too_far n j y z w (no_room r along_rows back a rows planes area e n m row is i x y z (sym h) sum u v w))
          (λ w. outside n j y z c d w)
          (in_or_beside a y z)))
      two_on (suc k) h =
          ap (λ (q : ℕ). last_before p e (number (e - 1)) q j (past back x)) (sym h)
          ∙ last_row k (past back i) (past back x)
          (past_both back i x ∙ ap (λ (q : ℕ). past back (past back q)) sum ∙ rank_two_on r along_rows back a rows planes area e n m row is k (sym h))

      onto : ahead p e (number (e - 1)) (number e) (suc j) m x ≡ onward (walks n j) r back i x
      unfolding ahead seen
      onto =
          diagonal_taps (walks n j) r back i x (λ y X. seen p e (number (e - 1)) (number e) y m j X) along_rows true slanted
          (last_row m (i + 1) (past back x) (omega (arith, past_pixel back i x, one_on)))
          (last_row m (past back i) (x + 1) (omega (arith, past_line back i x, one_on)))
          (two_on m refl)

  pub ranked_grown :
      (e : ℕ) (keys : ℕ → ℕ) → Keyed r (ranked_plan r along_rows back a rows planes) e keys g → StartsBy r (ranked_plan r along_rows back a rows planes) e passes →
      Grown (ranked_plan r along_rows back a rows planes) e keys
      (number_at r (ranked_plan r along_rows back a rows planes) (around back W H (2 ^ index)) g passes (e - 1))
      (number_at r (ranked_plan r along_rows back a rows planes) (around back W H (2 ^ index)) g passes e)
  ranked_grown e keys keyed started =
      grown_by r W H index framed back p g passes e keys keyed started (number (e - 1))
      (λ m x h k l. pixel_on r along_rows back a rows planes area e m x k l)
      (λ m x h k l n is j. onto e n is j m (line_at p e m - x) x h (pixel_rank r along_rows back a rows planes area e m x k l))
