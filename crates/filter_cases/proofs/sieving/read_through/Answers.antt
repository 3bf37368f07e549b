-- `read_through` reads each level once, and what is read is a number of 16 bits.
use Prim.Native.Nat.{ℕ, ◌<◌}
use native.Mathlib.Omega.{arith}
use lib.Signed.{mag}
use Rattle.basics.proofs.Numbers.{below_more}
use Rattle.plate.specs.Opening.{level_at}
use Rattle.theory.proofs.Opening.{levels_within}
use Rattle.plate.proofs.ReadLevels.{level_small}
use Rattle.filter_cases.proofs.sieving.read_through.Goals as goal

pub loop-level-preserved : goal.loop-level-preserved
loop-level-preserved c =
    let f = c.args.plate.now in
    let here = level_small f c.loop-level.level-index (omega arith) (omega arith) in
    below_more (λ (p : ℕ). mag (level_at f p) < 32768) c.loop-level.level-index here c.loop-level.invariant

pub returns : goal.returns
returns c = levels_within c.args.plate.now (λ p h. c.loop-level.invariant p (omega arith))
