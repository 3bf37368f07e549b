-- `is_quarters` passes exactly the counts: out of the range nothing is one (Quarters.antt), and in the range `told` says what the last test does.
use Rattle.std.proofs.Common.{true≢false, sym, ◌∙◌}
use Rattle.meter.proofs.Quarters.{told, room, below_range, above_range}
use Rattle.meter.proofs.numbers.is_quarters.Goals as goal
use Rattle.meter.proofs.numbers.is_quarters.Goals.{then-x, else-x}

pub returns-then-x-2 : goal.returns-then-x-2
returns-then-x-2 c = elim c.if-x.branch [
  | then-x w ↦
      let top = sym w.value-is ∙ c.if-x-2.true in
      let small = room c.args.x c.well_formed.0.1 w.if-x.true top in
      c.is_whole.ensures small.0 small.1 ∙ told c.args.x c.well_formed.0.1 w.if-x.true top
  | else-x w ↦ absurd (true≢false (sym c.if-x-2.true ∙ w.value-is ∙ w.if-x.false))
]

pub returns-else-x-2 : goal.returns-else-x-2
returns-else-x-2 c = elim c.if-x.branch [
  | then-x w ↦ rw (c.if-x-2.false, above_range c.args.x (sym w.value-is ∙ c.if-x-2.false))
  | else-x w ↦ rw (c.if-x-2.false, below_range c.args.x w.if-x.false)
]
