-- `turn` meets its contract: a bit that is turned twice is as it was.
use Prim.Native.Nat.{◌+◌, ◌-◌}
use mathlib.Core.Path.{sym, ◌∙◌}
use native.Mathlib.Omega.{arith}
use Rattle.eights.proofs.TurnedLaws.{turned_low, turned_high}
use Rattle.eights.proofs.turn.Goals as goal

pub returns-then-a-lt-NOTHING : goal.returns-then-a-lt-NOTHING
returns-then-a-lt-NOTHING c = let a = c.args.a in (sym (turned_low a c.if-a-lt-NOTHING.true), turned_high (a + 32768) (omega arith) ∙ omega arith)

pub returns-else-a-lt-NOTHING : goal.returns-else-a-lt-NOTHING
returns-else-a-lt-NOTHING c = let a = c.args.a in (sym (turned_high a (omega arith)), turned_low (a - 32768) (omega (arith, c.well_formed)) ∙ omega arith)
