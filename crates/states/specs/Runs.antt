-- What the loops do to a list of numbers. These definitions serve contracts inside the engine only: no public contract cites them.
use Rattle.std.specs.Prelude.{ℕ, ◌+◌, ◌≤◌, ◌<◌, max, ◌≡◌, List, length, get_or}

-- new is f k at the places k from lo below hi, and old elsewhere
pub record Between (f : ℕ → ℕ) (old new : List ℕ) (lo hi : ℕ) : Type 0 where
  pub inside : (k : ℕ) → lo ≤ k → k < hi → get_or new k 0 ≡ f k
  pub under : (k : ℕ) → k < lo → get_or new k 0 ≡ get_or old k 0
  pub over : (k : ℕ) → hi ≤ k → get_or new k 0 ≡ get_or old k 0
  pub len : length new ≡ length old

-- new is old but for the places from lo below hi
pub record Apart (old new : List ℕ) (lo hi : ℕ) : Type 0 where
  pub under : (k : ℕ) → k < lo → get_or new k 0 ≡ get_or old k 0
  pub over : (k : ℕ) → hi ≤ k → get_or new k 0 ≡ get_or old k 0
  pub len : length new ≡ length old

-- the greatest of the numbers at three places, x further on
abbrev pub greatest_at : List ℕ → ℕ → ℕ → ℕ → ℕ → ℕ
greatest_at held t0 t1 t2 x = max (max (get_or held (t0 + x) 0) (get_or held (t1 + x) 0)) (get_or held (t2 + x) 0)
