-- `counted_from` meets its contract: its test is the one of the definition.
use mathlib.Core.Path.{sym}
use native.Mathlib.Omega.{arith}
use Rattle.frames.proofs.SpotLaws.{turned_last, turned_first}
use Rattle.directions.proofs.frame.counted_from.Goals as goal

pub returns-then-last : goal.returns-then-last
returns-then-last c = let a = c.args in (sym (turned_last a.last a.n a.i c.if-last.true), omega (arith, c.requires))

pub returns-else-last : goal.returns-else-last
returns-else-last c = let a = c.args in (sym (turned_first a.last a.n a.i c.if-last.false), c.requires)
