-- One direction of a trace. These definitions serve contracts inside the engine only: no public contract cites them.
use Rattle.std.specs.Prelude.{ℕ, ◌-◌, ◌*◌, ◌^◌, ◌<◌, ◌≡◌, List, get_or, ℤ}
use Rattle.plate.specs.Opening.{level_at}
use Rattle.plate.specs.declared.setting.Setting.{Setting}
use Rattle.frames.specs.Keys.{key_by}
use Rattle.directions.specs.Numbers.{place_kept}
use Rattle.directions.specs.Doors.{frame_of}
use Rattle.theory.specs.BestWalks.{gap_end}
use Rattle.theory.specs.Modes.{Levels}
use Rattle.tracing.specs.declared.scan.Scan.{Scan}

-- the direction's bit
abbrev pub bit_of : Scan → ℕ
bit_of s = 2 ^ s.index

-- the key of the plate at a place, as the mode looks at it
unfoldable pub key_of : Scan → List ℤ → ℕ → ℕ
key_of s plate p = key_by s.setting.mode (level_at plate p)

-- the scan of a direction, by its place in the table
pub record ScanOf (r : Scan) (W H : ℕ) (s : Setting) (index : ℕ) : Type 0 where
  pub is_width : r.width ≡ W
  pub is_height : r.height ≡ H
  pub is_setting : r.setting ≡ s
  pub is_index : r.index ≡ index
  pub is_steps : r.steps ≡ s.length - 1
  pub is_slack : r.slack ≡ gap_end s.ends

-- the keys of a plate stand at the beginning of the work buffer where both sides of the direction read them, by ranks where it is diagonal and else by
-- lines; and every level has 16 bits, as each was read
pub record KeysLaid (s : Scan) (plate : List ℤ) (work : List ℕ) : Type 0 where
  pub keys : (q : ℕ) → q < s.width * s.height →
      let r = frame_of s.width s.height s.index in get_or work q 0 ≡ key_of s plate (place_kept r r.diagonal q)
  pub levels : Levels plate
