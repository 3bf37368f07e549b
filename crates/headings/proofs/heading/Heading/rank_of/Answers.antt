-- `rank_of` meets its contract: north the rank is what the row adds, elsewhere the column and that.
use mathlib.Core.Path.{sym, ◌∙◌}
use native.Mathlib.Omega.{arith}
use Rattle.headings.proofs.Rooms.{rank_north, rank_else, rank_below, span_small}
use Rattle.headings.proofs.heading.Heading.rank_of.Goals as goal

pub returns-then-self-eq0 : goal.returns-then-self-eq0
returns-then-self-eq0 c = c.shift_of-shift.ensures ∙ sym (rank_north _ _ _ _ c.if-self-eq0.true)

pub overflow_add-result : goal.overflow_add-result
overflow_add-result c =
    let h = c.args.self in
    omega (
      arith,
      c.shift_of-shift.ensures,
      rank_else h.width h.height c.args.p h.index c.args.self.listed c.if-self-eq0.false,
      rank_below h.width h.height c.args.p h.index c.args.self.listed c.requires,
      span_small h.width h.height h.index c.args.self.listed c.args.self.narrow c.args.self.low,
    )

pub returns : goal.returns
returns c =
    let h = c.args.self in
    omega (
      arith,
      c.shift_of-shift.ensures,
      rank_else h.width h.height c.args.p h.index c.args.self.listed c.if-self-eq0.false,
    )
