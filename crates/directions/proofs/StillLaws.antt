-- Single lines of a diagonal: state e is a line, and row m its walks of m steps. A step along the line leads to the row before of the same state, and
-- one to the line before leads to the row before of the last state; before the first line there is none, and no walk. So the states grow as
-- `best_walk_to` does. Whether lines are rows of the plate only orders the three steps.
use Prim.Native.Nat.{ℕ, zero, suc, ◌+◌, ◌-◌, ◌^◌, ◌<◌}
use mathlib.Core.Path.{◌≡◌, refl, sym, ap, ◌∙◌}
use mathlib.Core.Bool.{Bool, true, false}
use native.Mathlib.Omega.{arith}
use Rattle.frames.specs.Frames.{Framed, spot, past, onward}
use Rattle.frames.specs.declared.frame.Frame.{Frame}
use Rattle.plans.specs.Plans.{line_of, order_of, first_in, past_in, line_at}
use Rattle.states.specs.States.{row_before, last_before, seen, ahead, Grown}
use Rattle.plans.specs.declared.plan.Plan.{Plan}
use Rattle.directions.specs.Plans.{still_plan}
use Rattle.directions.specs.Numbers.{number_at}
use Rattle.theory.specs.BestWalks.{best_walk_to}
use Rattle.theory.specs.Walks.{around}
use Rattle.directions.proofs.SpotRows.{spot_zero, line_row}
use Rattle.directions.proofs.TapLaws.{diagonal_taps}
use Rattle.directions.proofs.GrownLaws.{Keyed, StartsBy, grown_by}

-- ---- the lines of the states

module _ (r : Frame) (along_rows back : Bool) (rows planes slack e : ℕ) (on : e < r.lines) where
  abbrev plan : Plan
  plan = still_plan r along_rows back rows planes slack

  line_on : (m : ℕ) → line_at plan e m < r.lines
  unfolding line_of order_of
  line_on m = elim back as (λ b. line_at (still_plan r along_rows b rows planes slack) e m < r.lines) [ true ↦ omega arith | false ↦ omega arith ]

  -- the last state is the line before
  line_before : (d m n : ℕ) → e ≡ suc d → past back (line_at plan e m) ≡ suc (line_at plan d n)
  unfolding line_of order_of past
  line_before d m n h =
      elim back as (λ b. past b (line_at (still_plan r along_rows b rows planes slack) e m) ≡ suc (line_at (still_plan r along_rows b rows planes slack) d n)) [ true ↦ omega arith | false ↦ omega arith ]

  -- and none is before the first
  none_before : (m i : ℕ) → e ≡ 0 → i < r.lines → past back (line_at plan e m) ≡ suc i → ⊥
  unfolding line_of order_of past
  none_before m i =
      elim back as (λ b. e ≡ 0 → i < r.lines → past b (line_at (still_plan r along_rows b rows planes slack) e m) ≡ suc i → ⊥) [ true ↦ λ h k s. omega arith | false ↦ λ h k s. omega arith ]

-- ---- the three steps

module _ (r : Frame) (W H index : ℕ) (framed : Framed r W H index) (slanted : r.diagonal ≡ true) (along_rows back : Bool) (g : ℕ → ℕ) (passes : ℕ → Bool)
    (rows planes slack : ℕ) where
  abbrev p : Plan
  p = still_plan r along_rows back rows planes slack

  abbrev walks : ℕ → ℕ → ℕ → ℕ
  walks = best_walk_to slack (around back W H (2 ^ index)) g passes

  abbrev number : ℕ → ℕ → ℕ → ℕ → ℕ
  number = number_at r p (around back W H (2 ^ index)) g passes

  module _ (e m n : ℕ) (on : e < r.lines) (is : m ≡ suc n) (j : ℕ) where
    -- the row before of the same state is the spots of the line
    along : (X : ℕ) → row_before p e (number e) m j X ≡ spot (walks n j) r (line_at p e m + 1) X
    unfolding row_before first_in past_in number_at order_of
    along X =
        ap (λ (i : ℕ). row_before p e (number e) i j X) is
        ∙ line_row (number e n j) (walks n j) r (line_at p e n) (line_at p e m + 1) X (line_on r along_rows back rows planes slack e on n) (omega arith) (λ x h. refl)

    -- the row before of the last state is the spots of the line before
    before : (d : ℕ) → d ≡ e → (X : ℕ) → last_before p e (number (e - 1)) m j X ≡ spot (walks n j) r (past back (line_at p e m)) X
    unfolding last_before row_before first_in past_in number_at
    before zero h X =
        ap (λ (i : ℕ). last_before p i (number (e - 1)) m j X) (sym h)
        ∙ sym (spot_zero (walks n j) r (past back (line_at p e m)) X
        (λ i x k l u v. absurd (none_before r along_rows back rows planes slack e on m i (sym h) k u)))
    before (suc d) h X =
        let z : e - 1 ≡ d = omega arith in
        ap (λ (i : ℕ). last_before p i (number (e - 1)) m j X) (sym h)
        ∙ ap (λ (i : ℕ). row_before p d (number (e - 1)) i j X) is
        ∙ line_row (number (e - 1) n j) (walks n j) r (line_at p d n) (past back (line_at p e m)) X
        (line_on r along_rows back rows planes slack d (omega arith) n) (line_before r along_rows back rows planes slack e on d m n (sym h))
        (λ x l. ap (λ (i : ℕ). number i n j x) z)

    onto : (x : ℕ) → ahead p e (number (e - 1)) (number e) (suc j) m x ≡ onward (walks n j) r back (line_at p e m) x
    unfolding ahead seen
    onto x =
        diagonal_taps (walks n j) r back (line_at p e m) x (λ y X. seen p e (number (e - 1)) (number e) y m j X) along_rows false slanted
        (along (past back x)) (before e refl (x + 1)) (before e refl (past back x))

  pub still_grown :
      (e : ℕ) (keys : ℕ → ℕ) → e < r.lines → Keyed r (still_plan r along_rows back rows planes slack) e keys g →
      StartsBy r (still_plan r along_rows back rows planes slack) e passes →
      Grown (still_plan r along_rows back rows planes slack) e keys
      (number_at r (still_plan r along_rows back rows planes slack) (around back W H (2 ^ index)) g passes (e - 1))
      (number_at r (still_plan r along_rows back rows planes slack) (around back W H (2 ^ index)) g passes e)
  unfolding first_in past_in
  still_grown e keys on keyed started =
      grown_by r W H index framed back p g passes e keys keyed started (number (e - 1))
      (λ m x h k l. (line_on r along_rows back rows planes slack e on m, l))
      (λ m x h k l n is j. onto e m n on is j x)
