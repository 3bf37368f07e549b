-- The lines of a direction on the plate. In a frame every direction is straight or diagonal, and both ways of walking are told from the order of the
-- lines. These definitions serve contracts inside the engine only: no public contract cites them.
use Rattle.std.specs.Prelude.{ℕ, ◌+◌, ◌-◌, ◌*◌, ◌^◌, ◌≤◌, ◌<◌, max, ◌≡◌, Bool, true, false, cond, leb}
use Rattle.plate.specs.Paths.{span}
use Rattle.frames.specs.Steps.{gate}
use Rattle.frames.specs.declared.frame.Frame.{Frame}
use Rattle.theory.specs.BestWalks.{best}
use Rattle.theory.specs.Walks.{around}
use Rattle.theory.specs.Ranks.{steps_left}

-- a number below n as it stands, or counted from the last one
unfoldable pub counted_from : Bool → ℕ → ℕ → ℕ
counted_from true n i = n - 1 - i
counted_from false n i = i

-- the place on the plate of pixel x of line i
unfoldable pub place_in : Frame → ℕ → ℕ → ℕ
place_in r i x = counted_from r.flipped r.lines i * r.leap + counted_from r.mirrored r.across x * r.hop

-- f at line Y − 1 and pixel X − 1, 0 where that is off the frame
unfoldable pub spot : (ℕ → ℕ) → Frame → ℕ → ℕ → ℕ
spot f r Y X = gate (leb 1 Y) (gate (leb Y r.lines) (gate (leb 1 X) (gate (leb X r.across) (f (place_in r (Y - 1) (X - 1))))))

-- one less, or backwards one more; plus one
unfoldable pub past : Bool → ℕ → ℕ
past true i = i + 2
past false i = i

-- the greatest f to which one step leads from line i and pixel x
unfoldable pub onward : (ℕ → ℕ) → Frame → Bool → ℕ → ℕ → ℕ
onward f r back i x =
    cond r.diagonal
    (max (max (spot f r (i + 1) (past back x)) (spot f r (past back i) (x + 1))) (spot f r (past back i) (past back x)))
    (max (max (spot f r (past back i) x) (spot f r (past back i) (x + 1))) (spot f r (past back i) (x + 2)))

-- sizes that no product leaves
pub record Bounded (r : Frame) : Type 0 where
  pub some_lines : 1 ≤ r.lines
  pub few_lines : r.lines ≤ 1024
  pub some_across : 1 ≤ r.across
  pub few_across : r.across ≤ 1024
  pub near_lines : r.leap ≤ 1024
  pub near_pixels : r.hop ≤ 1024
  pub few_pixels : r.lines * r.across ≤ 65536

-- the frame is one of the direction at this index of the step table, on a plate of this size
pub record Framed (r : Frame) (W H index : ℕ) : Type 0 where
  pub bounded : Bounded r
  pub area : r.lines * r.across ≡ W * H
  pub lies : (i x : ℕ) → i < r.lines → x < r.across → place_in r i x < W * H
  pub whole : (p : ℕ) → p < W * H → (i : ℕ) × (x : ℕ) × (i < r.lines) × (x < r.across) × (place_in r i x ≡ p)
  pub near : (f : ℕ → ℕ) (back : Bool) (i x : ℕ) → i < r.lines → x < r.across →
      best f (around back W H (2 ^ index) (place_in r i x)) ≡ onward f r back i x
  pub room_on : (i x : ℕ) → i < r.lines → x < r.across → steps_left W H (2 ^ index) false (place_in r i x) ≡ i + cond r.diagonal x 0
  pub room_back : (i x : ℕ) → i < r.lines → x < r.across →
      steps_left W H (2 ^ index) true (place_in r i x) ≡ r.lines - 1 - i + cond r.diagonal (r.across - 1 - x) 0
  pub long : span W H (2 ^ index) ≡ r.lines + cond r.diagonal (r.across - 1) 0
