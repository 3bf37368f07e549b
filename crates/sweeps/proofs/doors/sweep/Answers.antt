-- `sweep` meets its contract: what was judged is what the sweep asks for, and the plan counted from the other end is opposite.
use Prim.Native.Nat.{ℕ, ◌≤◌}
use mathlib.Core.Path.{◌≡◌, ap, sym, subst, ◌∙◌}
use mathlib.Core.Bool.{true}
use native.Mathlib.Omega.{arith}
use Rattle.plans.specs.Forms.{well_formed}
use Rattle.states.proofs.DoorTests.{hold_facts}
use Rattle.sweeps.specs.Doors.{states_of, other_end}
use Rattle.sweeps.proofs.DoorTests.{room_one, room_linked}
use Rattle.sweeps.proofs.OppositeLaws.{opposites}
use Rattle.sweeps.proofs.doors.sweep.Goals as goal

pub sweep_held-requires-clause-opposite : goal.sweep_held-requires-clause-opposite
sweep_held-requires-clause-opposite c =
    let a = c.args in
    let h = hold_facts _ _ (sym c.can_hold.ensures ∙ c.if-not-can_hold.false) in
    let other : c.in-Some.theirs.plan ≡ other_end a.plan a.reach = c.in-Some.ensures ∙ c.other_end.ensures in
    let o : well_formed (other_end a.plan a.reach) ≡ true = sym (ap well_formed other) ∙ c.in-Some.theirs.formed in
    let few : states_of a.plan ≤ 1024 = subst (λ (n : ℕ). n ≤ 1024) c.states_of-count.ensures c.if-count-le1024.true in
    rw (other, c.states_of-count.ensures) (opposites a.plan a.reach h.0 o few)

pub sweep_held-requires-clause-plan_in_bounds : goal.sweep_held-requires-clause-plan_in_bounds
sweep_held-requires-clause-plan_in_bounds c =
    let a = c.args in
    let room = c.room_for.ensures in (
      omega (arith, room_one a.plan, room, c.if-room_for-work.true),
      λ x. omega (arith, room_linked a.plan x, room, c.if-room_for-work.true),
      omega (arith, c.keys_size.ensures, c.if-keys_size-best.true),
    )
