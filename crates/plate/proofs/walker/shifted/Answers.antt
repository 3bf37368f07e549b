-- `shifted` is `within`: a sum that fits no unsigned number lies before the first column or row.
use Prim.Native.Nat.{ℕ, ◌^◌, ◌<◌}
use mathlib.Core.Path.{◌≡◌, sym, ◌∙◌}
use native.Mathlib.Omega.{arith}
use lib.IntN.{ℤ, pos, ◌+ℤ◌}
use lib.Signed.{mag}
use mir.Syntax.{w8, w64}
use mir.Val.{SFits, to_z, of_z}
use mir.ValLaws.{to_z-of_z}
use mir.Facts.{sfits_widen}
use Rattle.basics.proofs.Integers.{mag-add}
use Rattle.plate.proofs.Within.{within_unfit, within_fit}
use Rattle.plate.proofs.walker.shifted.Goals as goal

sum_size : (at : ℕ) (change : ℤ) → at < 65536 → SFits w8 change → mag (pos at +ℤ change) < 2 ^ 63
sum_size at change h f = omega (arith, mag-add (pos at) change, f.sfits)

-- the change, read back from its bits
wide : (change by : ℤ) → by ≡ to_z w8 (of_z w8 change) → SFits w8 change → to_z w64 (of_z w64 by) ≡ change
wide change by e f = rw (e, to_z-of_z w8 change f) (to_z-of_z w64 change (sfits_widen tt f))

pub returns-in_err-moved : goal.returns-in_err-moved
returns-in_err-moved c =
    let a = c.args in
    let e = wide a.change c.from.result c.from.ensures c.ranges.change in
    c.from_residual.ensures ∙ sym (within_unfit a.end _ (sum_size a.at a.change (omega arith) c.ranges.change) (rw e at c.in_err-moved.ensures))

pub returns : goal.returns
returns c =
    let a = c.args in
    let e = wide a.change c.from.result c.from.ensures c.ranges.change in
    let f = c.in_ok-moved.ensures in
    c.then_some.ensures ∙ within_fit a.end _ (pos a.at +ℤ a.change) (rw e at f.0.0) (rw e at f.1)
