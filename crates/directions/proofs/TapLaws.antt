-- The three steps of a plan are the three of `onward`, in whatever order the table has them: if each finds the number of its spot, then the greatest of
-- them is the greatest number to which one step leads.
use Prim.Native.Nat.{ℕ, ◌+◌, max}
use mathlib.Core.Path.{◌≡◌, refl, sym, ◌∙◌}
use mathlib.Core.Bool.{Bool, true, false, cond}
use native.Mathlib.Omega.{arith}
use Rattle.frames.specs.Frames.{spot, past, onward}
use Rattle.frames.specs.declared.frame.Frame.{Frame}
use Rattle.frames.proofs.FrameSpots.{onward_straight, onward_diagonal}
use Rattle.plans.specs.declared.plan.Reach.{Reach}
use Rattle.directions.specs.Plans.{straight_reach, diagonal_reach}

-- the greatest of three numbers that are told by row and pixel
abbrev pub greatest : Reach → (ℕ → ℕ → ℕ) → ℕ → ℕ
greatest t s x = max (max (s t.y0 (x + t.x0)) (s t.y1 (x + t.x1))) (s t.y2 (x + t.x2))

past_side : (back : Bool) (x : ℕ) → x + cond back 2 0 ≡ past back x
unfolding past
past_side true x = refl
past_side false x = omega arith

straight_order : (back : Bool) (s : ℕ → ℕ → ℕ) (x : ℕ) → greatest (straight_reach back) s x ≡ max (max (s 0 x) (s 0 (x + 1))) (s 0 (x + 2))
straight_order true s x = let z : x + 0 ≡ x = omega arith in rw z (omega arith)
straight_order false s x = let z : x + 0 ≡ x = omega arith in rw z

diagonal_order : (rows ranked back : Bool) (s : ℕ → ℕ → ℕ) (x : ℕ) →
    greatest (diagonal_reach rows ranked back) s x
    ≡ max (max (s (cond ranked 2 0) (x + cond back 2 0)) (s (cond ranked 2 1) (x + 1))) (s 1 (x + cond back 2 0))
diagonal_order true ranked back s x = omega arith
diagonal_order false ranked back s x = omega arith

module _ (f : ℕ → ℕ) (r : Frame) (back : Bool) (i x : ℕ) (s : ℕ → ℕ → ℕ) where
  pub straight_taps : r.diagonal ≡ false → ((X : ℕ) → s 0 X ≡ spot f r (past back i) X) → greatest (straight_reach back) s x ≡ onward f r back i x
  straight_taps straight same = straight_order back s x ∙ rw (same x, same (x + 1), same (x + 2)) (sym (onward_straight f r back i x straight))

  pub diagonal_taps : (rows ranked : Bool) → r.diagonal ≡ true → s (cond ranked 2 0) (past back x) ≡ spot f r (i + 1) (past back x) →
      s (cond ranked 2 1) (x + 1) ≡ spot f r (past back i) (x + 1) → s 1 (past back x) ≡ spot f r (past back i) (past back x) →
      greatest (diagonal_reach rows ranked back) s x ≡ onward f r back i x
  diagonal_taps rows ranked slanted along across both =
      diagonal_order rows ranked back s x
      ∙ rw (past_side back x, along, across, both) (sym (onward_diagonal f r back i x slanted))
