-- `out_lines` writes row by row: the invariant says that the lines of the rows that the iterator has left are still to come.
use native.Mathlib.Omega.{arith}
use mathlib.Core.Path.{◌∙◌}
use Rattle.survey_text.specs.Printing.{out_line}
use Rattle.surveying.proofs.OutLines.{lined_none, lined_room, lined_more, lined_end}
use Rattle.surveying.proofs.printing.out_lines.Goals as goal

pub loop-row-init : goal.loop-row-init
loop-row-init c =
    rw (c.into_iter-row-iterator.ensures.into_iter_gives, c.chunks_exact-row-items.ensures.rest)
    (c.chunks_exact-row-items.ensures.size, lined_none _ _ _ _ c.requires.levels_len)

pub line-requires : goal.line-requires
unfolding out_line
line-requires c =
    let s = c.in-Some.ensures.steps in
    lined_room c.loop-row.invariant.1 c.requires.room c.in-Some.row.now _ c.requires.wide s.1.0 (s.1.1 ∙ c.loop-row.invariant.0)

pub loop-row-preserved : goal.loop-row-preserved
unfolding out_line
loop-row-preserved c =
    let s = c.in-Some.ensures.steps in (
      s.0 ∙ c.loop-row.invariant.0,
      lined_more c.loop-row.invariant.1 c.requires.room c.in-Some.row.now _ c.requires.wide s.1.0 (s.1.1 ∙ c.loop-row.invariant.0) c.line.ensures,
    )

pub returns : goal.returns
returns c = lined_end c.loop-row.invariant.1 c.requires.room (omega (arith, c.in-None.ensures.steps.1.0, c.loop-row.invariant.0))
