-- `rank_of` meets its contract: what was judged is what the rank asks for.
use mathlib.Core.Path.{sym, ◌∙◌}
use Rattle.headings.proofs.DoorTests.{stand_facts, rank_none, rank_some}
use Rattle.headings.proofs.doors.rank_of.Goals as goal

pub returns-then-not-stands_on : goal.returns-then-not-stands_on
returns-then-not-stands_on c = rank_none _ _ _ _ (sym c.stands_on.ensures ∙ c.if-not-stands_on.true)

pub new-requires : goal.new-requires
new-requires c =
    let s = stand_facts _ _ _ _ (sym c.stands_on.ensures ∙ c.if-not-stands_on.false) in record { good_size = s.size; listed = s.known }

pub rank_of-requires : goal.rank_of-requires
rank_of-requires c =
    let e = c.new.ensures in
    rw (e.0, e.1) (stand_facts _ _ _ _ (sym c.stands_on.ensures ∙ c.if-not-stands_on.false)).on

pub returns : goal.returns
returns c =
    let e = c.new.ensures in
    rw (e.0, e.1, e.2) at c.rank_of.ensures ∙ sym (rank_some _ _ _ _ (sym c.stands_on.ensures ∙ c.if-not-stands_on.false))
