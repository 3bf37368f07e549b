-- What holds of a call once checks 1 to 8 have passed. Contracts inside the engine cite it; no public contract does.
use Rattle.std.specs.Prelude.{ℕ, ◌+◌, ◌*◌, ◌≤◌, ◌≡◌}
use Rattle.plate.specs.Sizes.{GoodSize}
use Rattle.plate.specs.declared.setting.Setting.{Setting}

-- a plate, a result and a work buffer of these lengths, where check 7 asks for a result of `wanted` numbers
pub record Passed (W H : ℕ) (s : Setting) (plate wanted result work : ℕ) : Type 0 where
  pub size : GoodSize W H
  pub long : 1 ≤ s.length
  pub short : s.length ≤ 1024
  pub few_gaps : s.gaps ≤ 8
  pub plate_size : plate ≡ W * H
  pub result_size : result ≡ wanted
  pub work_size : 4 * (s.gaps + 1) * (W * H) ≤ work
