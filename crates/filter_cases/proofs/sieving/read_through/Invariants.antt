use Prim.Native.Nat.{ℕ, ◌<◌}
use lib.Signed.{mag}
use Rattle.plate.specs.Opening.{level_at}
use Rattle.filter_cases.proofs.sieving.read_through.Given as goal

abbrev pub invariant-loop-level : goal.invariant-loop-level
invariant-loop-level l = (p : ℕ) → p < l.level-index → mag (level_at l.plate p) < 32768
