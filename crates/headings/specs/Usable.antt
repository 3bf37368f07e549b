-- The directions in which a trace can look for a path. These definitions serve contracts inside the engine only: no public contract cites them.
use Rattle.std.specs.Prelude.{ℕ, ◌^◌, ◌<◌, min, Bool, true, ◌&&◌, ◌≡◌, leb, ltb, Option, MatchOption}
use Rattle.plate.specs.Directions.{member}
use Rattle.plate.specs.Sizes.{span_of}
use Rattle.plate.specs.declared.setting.Setting.{Setting}

-- the bit of the direction at an index of the table, past it of the last one
unfoldable pub bit_at : ℕ → ℕ
bit_at index = 2 ^ min index 3

-- the direction at this index is chosen and has paths of the setting's length
unfoldable pub usable : ℕ → ℕ → Setting → ℕ → Bool
usable W H s index = ltb index 4 && member s.directions (2 ^ index) && leb s.length (span_of W H index)

-- the direction at this index is usable, and none before it
pub record First (W H : ℕ) (s : Setting) (index : ℕ) : Type 0 where
  pub passes : usable W H s index ≡ true
  pub none : (i : ℕ) → i < index → usable W H s i ≡ true → ⊥

-- r is the table's index of the first such direction; or there is none, and no direction is usable
abbrev pub FirstUsable : ℕ → ℕ → Setting → Option ℕ → Type 0
FirstUsable W H s r = MatchOption r ((i : ℕ) → usable W H s i ≡ true → ⊥) (First W H s)
