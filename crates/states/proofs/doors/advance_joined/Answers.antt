-- `advance_joined` meets its contract: what was judged is what `make_joined` asks for.
use mathlib.Core.Path.{sym, refl, ◌∙◌}
use Rattle.states.proofs.DoorTests.{make_1, joins_1, joins_facts}
use Rattle.states.proofs.doors.advance_joined.Goals as goal

pub returns-then-not-is_well_formed : goal.returns-then-not-is_well_formed
returns-then-not-is_well_formed c =
    record { value = joins_1 _ _ _ _ _ _ _ (sym (make_1 _ _ _ (sym c.is_well_formed.ensures ∙ c.if-not-is_well_formed.true))); either = refl; held_len_unchanged = refl; best_len_unchanged = refl }

pub returns-then-not-can_join : goal.returns-then-not-can_join
returns-then-not-can_join c =
    record { value = sym (sym c.can_join.ensures ∙ c.if-not-can_join.true); either = refl; held_len_unchanged = refl; best_len_unchanged = refl }

pub invariant_of-make_joined : goal.invariant_of-make_joined
invariant_of-make_joined c =
    let a = joins_facts _ _ _ _ _ _ _ (sym c.can_join.ensures ∙ c.if-not-can_join.false) in record { some = a.made.some; near = a.made.near }

pub make_joined-requires : goal.make_joined-requires
make_joined-requires c =
    let a = joins_facts _ _ _ _ _ _ _ (sym c.can_join.ensures ∙ c.if-not-can_join.false) in record { past_value = (a.full, a.result); plan_bound = (a.source.0, a.source.1, a.other.1); states_in_bounds = (a.made.rows.twice, a.made.rows.few) }

pub returns : goal.returns
returns c =
    record { value = sym (sym c.can_join.ensures ∙ c.if-not-can_join.false); either = c.make_joined.ensures.joined; held_len_unchanged = c.make_joined.ensures.held_len_unchanged; best_len_unchanged = c.make_joined.ensures.best_len_unchanged }
