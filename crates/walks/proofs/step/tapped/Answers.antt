-- `tapped` meets its contract: the row is so many states and rows back, where there are so many.
use Prim.Native.Nat.{◌+◌, ◌-◌, min}
use mathlib.Core.Path.{◌≡◌, ap}
use native.Mathlib.Omega.{arith}
use Rattle.std.proofs.lemmas.Grind.{common_steps}
use Rattle.plans.specs.Plans.{rows_in}
use Rattle.plans.proofs.FormLaws.{well_formed_sound}
use Rattle.walks.proofs.Picking.{tap_row, tap_looked, tap_first_state, tap_first_row}
use Rattle.walks.proofs.step.tapped.Goals as goal

pub returns-in_err-state : goal.returns-in_err-state
returns-in_err-state c = rw c.from_residual.ensures (tap_first_state _ _ _ _ _ _ (omega (arith, c.in_err-state.ensures, c.min.ensures)))

pub returns-in_err-row : goal.returns-in_err-row
returns-in_err-row c = rw c.from_residual-in_err-row.ensures (tap_first_row _ _ _ _ _ _ (grind (arith, common_steps, c.in_err-row.ensures)))

pub overflow_add-stand : goal.overflow_add-stand
overflow_add-stand c =
    omega (arith, c.requires.0.pixel, c.requires.1, (well_formed_sound c.args.followed.plan c.args.followed.formed).few_across)

pub looked-requires : goal.looked-requires
looked-requires c =
    let a = c.args in
    let p = a.followed.plan in
    let on = c.requires.0 in
    let back : a.stand.state ≡ c.in_ok-state.state + min 1 a.y = omega (arith, c.in_ok-state.ensures, c.min.ensures) in
    let lower : a.stand.row ≡ c.in_ok-row.row + min 1 (2 - a.y) = grind (arith, common_steps) in
    let same : a.stand.state - min 1 a.y ≡ c.in_ok-state.state = omega (arith, back) in
    let there =
    tap_row p (well_formed_sound p a.followed.formed) a.stand.state a.stand.row (min 1 a.y) (min 1 (2 - a.y)) on.row (omega arith)
    (omega (arith, back)) in
    (omega (arith, back, on.state), omega (arith, lower, there, ap (rows_in p) same), on.gaps, c.requires.2)

pub returns : goal.returns
returns c =
    let a = c.args in
    let e = c.in_ok-state.ensures in
    let m = c.in_ok-row.ensures in
    tap_looked _ a.followed.plan a.stand a.y a.x a.t _ _ _ (omega (arith, e, c.min.ensures)) (grind (arith, common_steps)) c.looked.ensures
