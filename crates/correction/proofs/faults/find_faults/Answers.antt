-- `find_faults` takes a pixel a turn: the invariant is that it holds the faults of the first i pixels.
use native.Mathlib.Omega.{arith}
use mathlib.Core.Path.{sym}
use Rattle.basics.proofs.Tests.{or_false_left, or_false_right}
use Rattle.correction.proofs.FirstFaults.{no_other, before_any, one_further}
use Rattle.correction.proofs.faults.find_faults.Goals as goal
use Rattle.correction.proofs.faults.find_faults.Goals.{then-bad_reading-bad_correction, else-bad_reading-bad_correction}

pub loop-i-init : goal.loop-i-init
loop-i-init c = before_any _ _

pub loop-i-preserved : goal.loop-i-preserved
loop-i-preserved c =
    let further = one_further _ _ c.loop-i.i c.loop-i.faults c.if-bad_reading-bad_correction.faults (omega (arith, c.min-i-end.ensures)) (omega (arith, c.min-i-end.ensures)) c.loop-i.invariant in
    elim c.if-bad_reading-bad_correction.branch [
      | then-bad_reading-bad_correction w ↦
          further (rw (w.faults-is, ← c.is_bad_reading-bad_reading.ensures, w.or.ensures, w.then_some.ensures))
          (rw (w.faults-is, ← c.is_bad_correction-bad_correction.ensures, w.or-then-bad_reading-bad_correction.ensures, w.then_some-then-bad_reading-bad_correction.ensures))
      | else-bad_reading-bad_correction w ↦
          let none = w.if-bad_reading-bad_correction.false in
          further (rw (w.faults-is, ← c.is_bad_reading-bad_reading.ensures, or_false_left c.is_bad_reading-bad_reading.result c.is_bad_correction-bad_correction.result none) (sym (no_other _)))
          (rw (w.faults-is, ← c.is_bad_correction-bad_correction.ensures, or_false_right c.is_bad_reading-bad_reading.result c.is_bad_correction-bad_correction.result none) (sym (no_other _)))
    ]
