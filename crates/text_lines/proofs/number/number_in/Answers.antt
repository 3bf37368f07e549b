-- `number_in` walks over the digits: the invariant says that v is the value of those passed, and that it is below 10 ^ i, so nothing wraps.
use native.Mathlib.Omega.{arith}
use mathlib.Core.Path.{◌≡◌, sym, ◌∙◌}
use mathlib.Core.Bool.{true, false}
use Prim.Native.Nat.{◌-◌}
use lib.Dec.{leb}
use lib.ListN.{get_or}
use Rattle.std.proofs.lemmas.Bool.{eqb-true}
use Rattle.text_lines.specs.Format.{is_digit}
use Rattle.text_lines.proofs.Digits.{digit_same, digit_range, valued_more, valued_stop, valued_end, number_empty, filled_in, number_long, number_sized, ten_more, small_read}
use Rattle.text_lines.proofs.number.number_in.Goals as goal
use Rattle.text_lines.proofs.number.number_in.Goals.{then-is_empty-via-then-is_empty, then-is_empty-via-else-is_empty+then-s-gt-MAX_DIGITS}

pub returns-then-is_empty : goal.returns-then-is_empty
returns-then-is_empty c =
    elim c.then-is_empty.branch [
      | then-is_empty-via-then-is_empty w ↦ sym (number_empty c.args.s.now (eqb-true _ 0 (sym c.is_empty.ensures ∙ w.if-is_empty.true)))
      | then-is_empty-via-else-is_empty+then-s-gt-MAX_DIGITS w ↦ sym (number_long c.args.s.now w.if-s-gt-MAX_DIGITS.true)
    ]

pub returns-then-not-is_ascii_digit : goal.returns-then-not-is_ascii_digit
returns-then-not-is_ascii_digit c =
    let s = c.args.s.now in
    let e : is_digit (get_or s c.loop-b.b-index 0) ≡ false = digit_same _ ∙ sym c.is_ascii_digit.ensures.value ∙ c.if-not-is_ascii_digit.true in
    rw (number_sized s (omega arith) (omega arith), valued_stop s c.loop-b.b-index c.loop-b.v c.loop-b.invariant.1 (omega arith) e)

pub loop-b-preserved : goal.loop-b-preserved
loop-b-preserved c =
    let s = c.args.s.now in
    let i = c.loop-b.b-index in
    let d : is_digit (get_or s i 0) ≡ true = digit_same _ ∙ sym c.is_ascii_digit.ensures.value ∙ c.if-not-is_ascii_digit.false in
    rw (c.from.ensures) (
      ten_more c.loop-b.v (get_or s i 0 - 48) i c.loop-b.invariant.0 (omega (arith, (digit_range _ d).1)),
      valued_more s i c.loop-b.v c.loop-b.invariant.1 (omega arith) d,
    )

pub returns : goal.returns
returns c =
    let s = c.args.s.now in
    let n = number_sized s (filled_in s (sym c.is_empty.ensures ∙ c.if-is_empty.false)) (omega arith) in
    let v = valued_end s c.loop-b.b-index c.loop-b.v c.loop-b.invariant.1 (omega arith) in
    rw (c.then_some.ensures, n, v) (small_read (leb c.loop-b.v 65535) c.loop-b.v)
