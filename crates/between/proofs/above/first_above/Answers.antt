-- `first_above` stops at the first place whose lowest level is above its highest, and has read all levels before it.
use Prim.Native.Nat.{ℕ, ◌<◌}
use mathlib.Core.Path.{◌≡◌, subst}
use mathlib.Core.Bool.{true, false}
use native.Mathlib.Omega.{arith}
use lib.ListN.{get_or}
use lib.IntN.{pos}
use lib.Signed.{mag}
use Rattle.between.specs.Refusals.{first_above}
use Rattle.between.specs.Lengths.{ReadTo}
use Rattle.between.proofs.Scanning.{none_passed, one_passed, found, all_passed, none_read, compared, one_read}
use Rattle.between.proofs.above.first_above.Goals as goal

pub loop-x-init : goal.loop-x-init
loop-x-init c = (none_passed _ _, none_read _ _)

pub returns-then-highest-x : goal.returns-then-highest-x
returns-then-highest-x c =
    let low = c.args.lowest.now in
    let high = c.args.highest.now in
    let small-low : mag (get_or low c.loop-x.x (pos 0)) < 32768 = omega arith in
    let small-high : mag (get_or high c.loop-x.x (pos 0)) < 32768 = omega arith in
    let test = compared low high c.loop-x.x small-low small-high (omega arith) (omega arith) true c.if-highest-x.true in
    let first : c.loop-x.x ≡ first_above low high = found low high c.loop-x.x (omega arith) test c.loop-x.invariant.0 in
    record { value = (first, omega arith); read_to = subst (λ (n : ℕ). ReadTo n low high) first c.loop-x.invariant.1 }

pub loop-x-preserved : goal.loop-x-preserved
loop-x-preserved c =
    let low = c.args.lowest.now in
    let high = c.args.highest.now in
    let small-low : mag (get_or low c.loop-x.x (pos 0)) < 32768 = omega arith in
    let small-high : mag (get_or high c.loop-x.x (pos 0)) < 32768 = omega arith in
    let test = compared low high c.loop-x.x small-low small-high (omega arith) (omega arith) false c.if-highest-x.false in
    (one_passed low high c.loop-x.x (omega arith) test c.loop-x.invariant.0, one_read low high c.loop-x.x small-low small-high (omega arith) (omega arith) c.loop-x.invariant.1)

pub returns : goal.returns
returns c =
    let low = c.args.lowest.now in
    let high = c.args.highest.now in
    let end : c.loop-x.x ≡ first_above low high = all_passed low high c.loop-x.x c.loop-x-test.false c.loop-x.invariant.0 in
    record { value = omega arith; read_to = subst (λ (n : ℕ). ReadTo n low high) end c.loop-x.invariant.1 }
