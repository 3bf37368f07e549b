-- `advance` meets its contract: what was judged is what `make_states` asks for.
use mathlib.Core.Path.{sym, refl, ◌∙◌}
use Rattle.states.proofs.DoorTests.{make_1, advances_1, advances_facts}
use Rattle.states.proofs.doors.advance.Goals as goal

pub returns-then-not-is_well_formed : goal.returns-then-not-is_well_formed
returns-then-not-is_well_formed c =
    record { value = advances_1 _ _ _ _ _ _ (sym (make_1 _ _ _ (sym c.is_well_formed.ensures ∙ c.if-not-is_well_formed.true))); either = refl; held_len_unchanged = refl }

pub returns-then-not-can_advance : goal.returns-then-not-can_advance
returns-then-not-can_advance c = record { value = sym (sym c.can_advance.ensures ∙ c.if-not-can_advance.true); either = refl; held_len_unchanged = refl }

pub invariant_of-make_states : goal.invariant_of-make_states
invariant_of-make_states c =
    let a = advances_facts _ _ _ _ _ _ (sym c.can_advance.ensures ∙ c.if-not-can_advance.false) in record { some = a.made.some; near = a.made.near }

pub make_states-requires : goal.make_states-requires
make_states-requires c =
    let a = advances_facts _ _ _ _ _ _ (sym c.can_advance.ensures ∙ c.if-not-can_advance.false) in record { plan_bound = (a.source.0, a.target.0, a.source.1, a.target.1); fact = a.apart; states_in_bounds = (a.made.rows.twice, a.made.rows.few) }

pub returns : goal.returns
returns c =
    record { value = sym (sym c.can_advance.ensures ∙ c.if-not-can_advance.false); either = c.make_states.ensures.advanced; held_len_unchanged = c.make_states.ensures.held_len_unchanged }
