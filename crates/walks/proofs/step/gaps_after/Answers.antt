-- `gaps_after` meets its contract: a pixel below t spends a gap.
use native.Mathlib.Omega.{arith}
use Rattle.theory.proofs.LevelSets.{under_low, under_high}
use Rattle.walks.proofs.step.gaps_after.Goals as goal

pub returns-then-key-t : goal.returns-then-key-t
returns-then-key-t c = omega (arith, under_high c.args.t c.args.key c.if-key-t.true)

pub returns : goal.returns
returns c = omega (arith, c.saturating_sub.ensures, under_low c.args.t c.args.key c.if-key-t.false)
