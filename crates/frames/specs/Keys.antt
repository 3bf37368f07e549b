-- The order of levels by the mode. These definitions serve contracts inside the engine only: no public contract cites them.
use Rattle.std.specs.Prelude.{ℕ, cond, eqb, ℤ}
use Rattle.plate.specs.Levels.{key, level, mirror}

-- the key of a level, or in another mode than 0 of its mirror
unfoldable pub key_by : ℕ → ℤ → ℕ
key_by mode v = cond (eqb mode 0) (key v) (key (mirror v))

-- the level with a key, or in another mode than 0 its mirror
unfoldable pub level_by : ℕ → ℕ → ℤ
level_by mode k = cond (eqb mode 0) (level k) (mirror (level k))
