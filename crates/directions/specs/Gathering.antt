-- What is gathered of a direction. A maximum is told by what it is not below, and by what it is not above. These definitions serve contracts inside
-- the engine only: no public contract cites them.
use Rattle.std.specs.Prelude.{ℕ, ◌^◌, ◌≤◌, ◌<◌, max, ◌≡◌, Bool, true, false, List, length, get_or, ℤ}
use Rattle.plate.specs.Opening.{level_at}
use Rattle.frames.specs.Keys.{key_by}
use Rattle.frames.specs.declared.frame.Frame.{Frame}
use Rattle.directions.specs.Numbers.{place_kept}
use Rattle.theory.specs.BestWalks.{key_at, best_through}
use Rattle.theory.specs.Walks.{around}

-- the levels of the places whose numbers stand from lo below hi have risen to them, and no level further than something that they are not above
pub record Risen (r : Frame) (ranked : Bool) (best : List ℕ) (old new : List ℤ) (lo hi : ℕ) : Type 0 where
  pub grown : (p : ℕ) → key_at old p ≤ key_at new p
  pub reached : (q : ℕ) → lo ≤ q → q < hi → get_or best q 0 ≤ key_at new (place_kept r ranked q)
  pub bounded : (b : ℕ → ℕ) → ((q : ℕ) → lo ≤ q → q < hi → get_or best q 0 ≤ b (place_kept r ranked q)) → (p : ℕ) → key_at new p ≤ max (key_at old p) (b p)
  pub len : length new ≡ length old

-- the best walk through a pixel, in a direction and a mode
unfoldable pub best_of : ℕ → ℕ → ℕ → ℕ → ℕ → ℕ → ℕ → List ℤ → ℕ → ℕ
best_of slack W H index mode steps k plate x =
    best_through slack (around false W H (2 ^ index)) (around true W H (2 ^ index)) (λ p. key_by mode (level_at plate p)) steps k x

-- the levels from lo below hi have risen to f where they were lower, and the others are as they were
pub record Raised (f : ℕ → ℕ) (old new : List ℤ) (lo hi : ℕ) : Type 0 where
  pub inside : (x : ℕ) → lo ≤ x → x < hi → key_at new x ≡ max (key_at old x) (f x)
  pub under : (x : ℕ) → x < lo → key_at new x ≡ key_at old x
  pub over : (x : ℕ) → hi ≤ x → key_at new x ≡ key_at old x
  pub len : length new ≡ length old
