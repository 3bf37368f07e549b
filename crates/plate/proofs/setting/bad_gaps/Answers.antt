-- `bad_gaps` asks the two questions of `bad_gaps`.
use native.Mathlib.Omega.{arith}
use Rattle.plate.specs.Refusals.{bad_gaps}
use Rattle.plate.proofs.setting.bad_gaps.Goals as goal

pub returns-then-gaps-gt-MAX_GAPS : goal.returns-then-gaps-gt-MAX_GAPS
unfolding bad_gaps
returns-then-gaps-gt-MAX_GAPS c = grind arith

pub returns-else-gaps-gt-MAX_GAPS : goal.returns-else-gaps-gt-MAX_GAPS
unfolding bad_gaps
returns-else-gaps-gt-MAX_GAPS c = grind arith
