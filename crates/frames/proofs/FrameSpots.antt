-- The spots of a frame, and those beside a pixel. A spot on the frame has the number of its pixel and one off it has 0: the line before the first, the
-- pixels beside a line. A step leads to three spots, of the line before or, on a diagonal, of the same line; the pixel before lies one nearer to where
-- the line begins.
use Prim.Native.Nat.{ℕ, suc, ◌+◌, ◌-◌, ◌≤◌, ◌<◌, max}
use mathlib.Core.Path.{◌≡◌, ◌∙◌}
use mathlib.Core.Bool.{Bool, true, false}
use native.Mathlib.Omega.{arith}
use borrow.Author.Tests.{le-leb, lt-leb}
use lib.Dec.{leb}
use Rattle.frames.specs.Steps.{gate}
use Rattle.frames.proofs.PlateSpots.{gate_zero}
use Rattle.frames.specs.Frames.{place_in, spot, past, onward}
use Rattle.frames.specs.declared.frame.Frame.{Frame}

-- ---- on the frame and off it

pub gate_yes : (a b v : ℕ) → a ≤ b → gate (leb a b) v ≡ v
gate_yes a b v h = rw (le-leb a b h)

pub gate_no : (a b v : ℕ) → b < a → gate (leb a b) v ≡ 0
gate_no a b v h = rw (lt-leb a b h)

module _ (f : ℕ → ℕ) (r : Frame) where
  pub spot_on : (i x : ℕ) → i < r.lines → x < r.across → spot f r (suc i) (suc x) ≡ f (place_in r i x)
  unfolding spot
  spot_on i x h k =
      let a : suc i - 1 ≡ i = omega arith in
      let b : suc x - 1 ≡ x = omega arith in
      gate_yes 1 (suc i) _ (omega arith) ∙ gate_yes (suc i) r.lines _ h ∙ gate_yes 1 (suc x) _ (omega arith) ∙ gate_yes (suc x) r.across _ k
      ∙ rw (a, b)

  pub spot_before : (Y X : ℕ) → Y ≡ 0 → spot f r Y X ≡ 0
  unfolding spot
  spot_before Y X e = gate_no 1 Y _ (omega arith)

  pub spot_after : (Y X : ℕ) → r.lines < Y → spot f r Y X ≡ 0
  unfolding spot
  spot_after Y X h = simp (lt-leb _ _ h, gate_zero)

  pub spot_left : (Y X : ℕ) → X ≡ 0 → spot f r Y X ≡ 0
  unfolding spot
  spot_left Y X e = simp (e, gate_zero)

  pub spot_right : (Y X : ℕ) → r.across < X → spot f r Y X ≡ 0
  unfolding spot
  spot_right Y X h = simp (lt-leb _ _ h, gate_zero)

-- ---- the spots that one step leads to

module _ (f : ℕ → ℕ) (r : Frame) (back : Bool) (i x : ℕ) where
  pub onward_straight : r.diagonal ≡ false →
      onward f r back i x ≡ max (max (spot f r (past back i) x) (spot f r (past back i) (x + 1))) (spot f r (past back i) (x + 2))
  unfolding onward
  onward_straight d = rw d

  pub onward_diagonal : r.diagonal ≡ true →
      onward f r back i x ≡ max (max (spot f r (i + 1) (past back x)) (spot f r (past back i) (x + 1))) (spot f r (past back i) (past back x))
  unfolding onward
  onward_diagonal d = rw d
