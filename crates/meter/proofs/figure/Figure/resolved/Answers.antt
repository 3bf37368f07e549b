-- `resolved` judges each number of the figure's case, and takes the mean of two.
use Rattle.std.proofs.Common.{◌≡◌, true, false, ◌||◌, sym}
use Rattle.basics.proofs.Tests.{T_true, true_T, or_right, not-true, not-false}
use Rattle.meter.specs.Numbers.{bad_number}
use Rattle.meter.proofs.Exact.{steady_exact}
use Rattle.meter.proofs.figure.Figure.resolved.Goals as goal

pub returns-in-Steady : goal.returns-in-Steady
returns-in-Steady c =
    let good : bad_number c.in-Steady.x ≡ false = not-true _ (sym c.if-is_quarters.ensures) in
    rw c.in-Steady.is (good, steady_exact c.in-Steady.x good)

pub returns-in-Drifting : goal.returns-in-Drifting
returns-in-Drifting c =
    let p : bad_number c.in-Drifting.x ≡ false = not-true _ (sym c.if-is_quarters-2.ensures) in
    let q : bad_number c.in-Drifting.y ≡ false = not-true _ (sym c.if-is_quarters-3.ensures) in
    rw c.in-Drifting.is (rw (p, q), c.mean.ensures p q)

pub returns-in_default : goal.returns-in_default
returns-in_default c = rw c.in-Steady.is (not-false _ (sym c.if-is_quarters.ensures))

pub returns-in_default-2 : goal.returns-in_default-2
returns-in_default-2 c =
    let x = c.in-Drifting.x in
    let y = c.in-Drifting.y in
    let q : bad_number y ≡ true = not-false _ (sym c.if-is_quarters-3.ensures) in
    rw c.in-Drifting.is (T_true (bad_number x || bad_number y) (or_right (bad_number x) (bad_number y) (true_T (bad_number y) q)))

pub returns-in_default-3 : goal.returns-in_default-3
returns-in_default-3 c =
    let p : bad_number c.in-Drifting.x ≡ true = not-false _ (sym c.if-is_quarters-2.ensures) in
    rw c.in-Drifting.is (rw p)
