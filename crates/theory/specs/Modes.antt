-- Both modes at once, and plates of 16-bit levels. These definitions serve contracts inside the engine and the laws; no public contract cites them.
use Rattle.std.specs.Prelude.{ℕ, ◌<◌, cond, List, eqb, ℤ}
use Rattle.std.specs.Int.Signed.{mag}
use Rattle.plate.specs.Levels.{mirror}
use Rattle.plate.specs.Opening.{level_at}
use Rattle.plate.specs.declared.setting.Setting.{Setting}

-- every level has 16 bits
pub record Levels (f : List ℤ) : Type 0 where
  pub size : (p : ℕ) → mag (level_at f p) < 32768

-- a level as the mode looks at it
unfoldable pub as_mode : Setting → ℤ → ℤ
as_mode s v = cond (eqb s.mode 0) v (mirror v)
