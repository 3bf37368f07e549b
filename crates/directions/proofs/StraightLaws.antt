-- Windows of lines in a straight direction: row m of a state is the walks of m steps, and each of the three steps leads to the line before, whose walks
-- of one step fewer are the row before of the same state. So the states grow as `best_walk_to` does.
use Prim.Native.Nat.{ℕ, suc, ◌^◌, ◌<◌}
use mathlib.Core.Path.{◌≡◌, refl, ap, ◌∙◌}
use mathlib.Core.Bool.{Bool, true, false}
use native.Mathlib.Omega.{arith}
use Rattle.frames.specs.Frames.{Framed, spot, past, onward}
use Rattle.frames.specs.declared.frame.Frame.{Frame}
use Rattle.plans.specs.Plans.{line_of, order_of, first_in, past_in, line_at, rows_in}
use Rattle.states.specs.States.{row_before, seen, ahead, Grown}
use Rattle.plans.specs.declared.plan.Plan.{Plan}
use Rattle.directions.specs.Plans.{straight_plan, AreaOf}
use Rattle.directions.specs.Numbers.{number_at}
use Rattle.directions.specs.declared.plan.Area.{Area}
use Rattle.theory.specs.BestWalks.{best_walk_to}
use Rattle.theory.specs.Walks.{around}
use Rattle.directions.proofs.SpotRows.{line_row}
use Rattle.directions.proofs.TapLaws.{straight_taps}
use Rattle.directions.proofs.GrownLaws.{Keyed, StartsBy, grown_by}

-- ---- the lines of the rows

module _ (r : Frame) (back : Bool) (a : Area) (rows planes : ℕ) (area : AreaOf r a) (e m : ℕ) (row : m < rows_in (straight_plan r back a rows planes) e) where
  pub line_on : line_at (straight_plan r back a rows planes) e m < r.lines
  unfolding rows_in line_of order_of
  line_on = elim back as (λ b. line_at (straight_plan r b a rows planes) e m < r.lines) [ true ↦ omega (arith, area.high, area.low) | false ↦ omega (arith, row, area.low) ]

  -- the row before is the line before
  pub line_before : (n : ℕ) → m ≡ suc n →
      past back (line_at (straight_plan r back a rows planes) e m) ≡ suc (line_at (straight_plan r back a rows planes) e n)
  unfolding rows_in line_of order_of past
  line_before n h =
      elim back as (λ b. past b (line_at (straight_plan r b a rows planes) e m) ≡ suc (line_at (straight_plan r b a rows planes) e n)) [ true ↦ omega (arith, row, area.high) | false ↦ omega arith ]

module _ (r : Frame) (W H index : ℕ) (framed : Framed r W H index) (straight : r.diagonal ≡ false) (back : Bool) (g : ℕ → ℕ) (passes : ℕ → Bool)
    (a : Area) (area : AreaOf r a) (rows planes : ℕ) where
  abbrev p : Plan
  p = straight_plan r back a rows planes

  abbrev walks : ℕ → ℕ → ℕ → ℕ
  walks = best_walk_to a.slack (around back W H (2 ^ index)) g passes

  abbrev number : ℕ → ℕ → ℕ → ℕ → ℕ
  number = number_at r p (around back W H (2 ^ index)) g passes

  module _ (e m n : ℕ) (row : m < rows_in p e) (is : m ≡ suc n) (j : ℕ) where
    -- a row before is the spots of the line before
    before : (X : ℕ) → row_before p e (number e) m j X ≡ spot (walks n j) r (past back (line_at p e m)) X
    unfolding row_before first_in past_in number_at
    before X =
        ap (λ (i : ℕ). row_before p e (number e) i j X) is
        ∙ line_row (number e n j) (walks n j) r (line_at p e n) (past back (line_at p e m)) X (line_on r back a rows planes area e n (omega arith))
        (line_before r back a rows planes area e m row n is) (λ x h. refl)

    onto : (last : ℕ → ℕ → ℕ → ℕ) (x : ℕ) → ahead p e last (number e) (suc j) m x ≡ onward (walks n j) r back (line_at p e m) x
    unfolding ahead seen
    onto last x =
        straight_taps (walks n j) r back (line_at p e m) x (λ y X. seen p e last (number e) y m j X) straight before

  pub straight_grown :
      (e : ℕ) (keys : ℕ → ℕ) → Keyed r (straight_plan r back a rows planes) e keys g → StartsBy r (straight_plan r back a rows planes) e passes →
      (last : ℕ → ℕ → ℕ → ℕ) →
      Grown (straight_plan r back a rows planes) e keys last (number_at r (straight_plan r back a rows planes) (around back W H (2 ^ index)) g passes e)
  unfolding first_in past_in
  straight_grown e keys keyed started last =
      grown_by r W H index framed back p g passes e keys keyed started last
      (λ m x h k l. (line_on r back a rows planes area e m h, l))
      (λ m x h k l n is j. onto e m n h is j last x)
