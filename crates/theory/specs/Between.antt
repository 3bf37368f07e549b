-- Document 02, N7: plates known between two levels. A plate lies between a lowest and a highest one where each of its pixels does; and what is promised
-- of a lowest and a highest filtered plate. proofs/Between.antt shows it of the filtered lowest and the filtered highest plate, for both modes and both
-- values of `ends`.
use Rattle.std.specs.Prelude.{ℕ, ◌*◌, ◌<◌, ◌≡◌, List, length, ℤ, ◌≤ℤ◌}
use Rattle.plate.specs.Opening.{level_at, filtered}
use Rattle.plate.specs.declared.setting.Setting.{Setting}

-- "every true plate between the two, pixel by pixel"
pub record LiesBetween (W H : ℕ) (low high f : List ℤ) : Type 0 where
  pub sized : length f ≡ W * H
  pub not_below : (x : ℕ) → x < W * H → level_at low x ≤ℤ level_at f x
  pub not_above : (x : ℕ) → x < W * H → level_at f x ≤ℤ level_at high x

module _ (s : Setting) (W H : ℕ) (low high : List ℤ) where
  -- a level v at x is attained: some plate between the two filters to it
  pub record Attained (x : ℕ) (v : ℤ) : Type 0 where
    pub plate : List ℤ
    pub between : LiesBetween W H low high plate
    pub filters_to : level_at (filtered s W H plate) x ≡ v

  -- the lowest and the highest filtered plate
  pub record Bounds (lowResult highResult : List ℤ) : Type 0 where
    -- "every true plate between the two .. must filter to something between them"
    pub within : (f : List ℤ) → LiesBetween W H low high f → LiesBetween W H lowResult highResult (filtered s W H f)
    -- "at each pixel each end must be reached by some such plate"
    pub low_attained : (x : ℕ) → x < W * H → Attained x (level_at lowResult x)
    pub high_attained : (x : ℕ) → x < W * H → Attained x (level_at highResult x)
