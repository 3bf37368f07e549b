-- `follow_any` meets its contract: what was judged is what the path asks for.
use native.Mathlib.Omega.{arith}
use mathlib.Core.Path.{sym, refl, ◌∙◌}
use Rattle.headings.proofs.DoorTests.{stand_facts, inside_facts, goes_1, goes_2, goes_3, goes_4}
use Rattle.headings.proofs.doors.follow_any.Goals as goal

pub returns-then-not-is_inside : goal.returns-then-not-is_inside
returns-then-not-is_inside c = record { value = goes_1 _ _ _ _ _ _ _ (sym c.is_inside.ensures ∙ c.if-not-is_inside.true); either = refl }

pub offset_bounds-path-start : goal.offset_bounds-path-start
offset_bounds-path-start c = let i = inside_facts _ _ _ _ (sym c.is_inside.ensures ∙ c.if-not-is_inside.false) in omega (arith, i.0, i.1)

pub bounds-path-start : goal.bounds-path-start
bounds-path-start c = (inside_facts _ _ _ _ (sym c.is_inside.ensures ∙ c.if-not-is_inside.false)).1

pub returns-then-not-stands_on : goal.returns-then-not-stands_on
returns-then-not-stands_on c =
    record { value = goes_2 _ _ _ _ _ _ _ (sym c.is_inside.ensures ∙ c.if-not-is_inside.false) (sym c.stands_on.ensures ∙ c.if-not-stands_on.true); either = refl }

pub new-heading-requires : goal.new-heading-requires
new-heading-requires c =
    let s = stand_facts _ _ _ _ (sym c.stands_on.ensures ∙ c.if-not-stands_on.false) in record { good_size = s.size; listed = s.known }

pub room_of-requires : goal.room_of-requires
room_of-requires c =
    let e = c.new-heading.ensures in
    rw (e.0, e.1) (stand_facts _ _ _ _ (sym c.stands_on.ensures ∙ c.if-not-stands_on.false)).on

pub returns-then-steps-room_of : goal.returns-then-steps-room_of
returns-then-steps-room_of c =
    let e = c.new-heading.ensures in
    record { value = goes_3 _ _ _ _ _ _ _ (sym c.is_inside.ensures ∙ c.if-not-is_inside.false) (sym c.stands_on.ensures ∙ c.if-not-stands_on.false) _ (rw (e.0, e.1, e.2, e.3) at c.room_of.ensures) c.if-steps-room_of.true; either = refl }

pub follow_any-requires : goal.follow_any-requires
follow_any-requires c =
    let i = inside_facts _ _ _ _ (sym c.is_inside.ensures ∙ c.if-not-is_inside.false) in
    let s = stand_facts _ _ _ _ (sym c.stands_on.ensures ∙ c.if-not-stands_on.false) in
    let e = c.new-heading.ensures in
    record { path_len_bound = (i.0, i.1); within = rw e.3 i.2; start_bound = (rw (e.0, e.1) s.on, omega (arith, c.room_of.ensures, c.if-steps-room_of.false)) }

pub returns : goal.returns
returns c =
    let e = c.new-heading.ensures in
    record { value = goes_4 _ _ _ _ _ _ _ (sym c.is_inside.ensures ∙ c.if-not-is_inside.false) (sym c.stands_on.ensures ∙ c.if-not-stands_on.false) _ (rw (e.0, e.1, e.2, e.3) at c.room_of.ensures) c.if-steps-room_of.false; either = rw (e.0, e.1, e.2, e.3) at c.follow_any.ensures }
