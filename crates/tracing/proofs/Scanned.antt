-- What the type of a scan says of it, as one record.
use Prim.Native.Nat.{◌+◌, ◌≤◌, ◌<◌}
use mathlib.Core.Path.{◌≡◌}
use Rattle.plate.specs.Paths.{span}
use Rattle.plate.specs.Sizes.{GoodSize}
use Rattle.tracing.specs.Scans.{bit_of}
use Rattle.tracing.specs.declared.scan.Scan.{Scan}

-- the numbers of a scan are those of a plate and a direction whose paths of this length exist
pub record Sound (s : Scan) : Type 0 where
  pub size : GoodSize s.width s.height
  pub few : s.setting.gaps ≤ 8
  pub known : s.index < 4
  pub long : span s.width s.height (bit_of s) ≡ s.steps + s.spare + 1
  pub short : s.steps + s.spare < 2048
  pub few_steps : s.steps < 1024
  pub is_length : s.setting.length ≡ s.steps + 1
  pub few_slack : s.slack ≤ 65535

pub sound_of : (s : Scan) → Sound s
sound_of s =
    record {
      size = s.size;
      few = s.few;
      known = s.known;
      long = s.long;
      short = s.short;
      few_steps = s.few_steps;
      is_length = s.is_length;
      few_slack = s.few_slack;
    }
