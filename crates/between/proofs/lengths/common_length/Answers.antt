-- `common_length` asks the one question of `common_length`.
use mathlib.Core.Path.{sym}
use borrow.Author.Tests.{eq-eqb, ne_eqb}
use Rattle.between.proofs.CommonLengths.{common_same, common_none}
use Rattle.between.proofs.lengths.common_length.Goals as goal

pub returns-then-a-b : goal.returns-then-a-b
returns-then-a-b c = sym (common_same _ _ (eq-eqb _ _ c.if-a-b.true))

pub returns-else-a-b : goal.returns-else-a-b
returns-else-a-b c = sym (common_none _ _ (ne_eqb _ _ c.if-a-b.false))
