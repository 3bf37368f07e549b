-- The product is formed only for a size and a gap count that are not refused, where it is small.
use native.Mathlib.Nat.{mul-le-mul}
use native.Mathlib.Omega.{arith}
use Prim.Native.Nat.{◌+◌, ◌*◌}
use mathlib.Core.Path.{◌≡◌, sym, ◌∙◌}
use mathlib.Core.Bool.{false}
use borrow.Author.Tests.{lt-ltb, le-ltb}
use Rattle.plate.specs.Refusals.{bad_size}
use Rattle.plate.specs.Sizes.{GoodSize}
use Rattle.plate.proofs.Sizes.{good_size}
use Rattle.diilvak.specs.Numbers.{work_length}
use Rattle.diilvak.proofs.diilvak_work_length.Goals as goal
use Rattle.diilvak.proofs.diilvak_work_length.Goals.{Else-bad_size}

-- the size is good after the first test
not_bad : (c : Else-bad_size) → bad_size c.args.width c.args.height ≡ false
not_bad c = sym c.bad_size.ensures ∙ c.if-bad_size.false

sized : (c : Else-bad_size) → GoodSize c.args.width c.args.height
sized c = good_size _ _ (not_bad c)

pub returns-then-bad_size : goal.returns-then-bad_size
unfolding work_length
returns-then-bad_size c = rw (sym c.bad_size.ensures ∙ c.if-bad_size.true)

pub returns-then-gaps-gt-MAX_GAPS : goal.returns-then-gaps-gt-MAX_GAPS
unfolding work_length
returns-then-gaps-gt-MAX_GAPS c = simp (not_bad (goal.at.returns-then-gaps-gt-MAX_GAPS c).Else-bad_size, lt-ltb _ _ c.if-gaps-gt-MAX_GAPS.true)

pub overflow_mul-result-2 : goal.overflow_mul-result-2
overflow_mul-result-2 c = omega (arith, (sized (goal.at.overflow_mul-result-2 c).Else-bad_size).few)

pub overflow_mul-result-3 : goal.overflow_mul-result-3
overflow_mul-result-3 c =
    let a = c.args in
    omega (arith, mul-le-mul {n₁ = 4 * (a.gaps + 1)} {m₁ = a.width * a.height} {n₂ = 36} {m₂ = 65536} (omega arith) (sized (goal.at.overflow_mul-result-3 c).Else-bad_size).few)

pub returns : goal.returns
unfolding work_length
returns c = simp (not_bad (goal.at.returns c).Else-bad_size, le-ltb _ _ c.if-gaps-gt-MAX_GAPS.false)
