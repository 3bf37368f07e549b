-- `find_end` meets its contract: what was judged is what the search for the end asks for.
use native.Mathlib.Omega.{arith}
use mathlib.Core.Path.{refl, sym, ◌∙◌}
use Rattle.walks.proofs.DoorTests.{end_facts}
use Rattle.walks.proofs.doors.find_end.Goals as goal

pub returns-then-not-can_end : goal.returns-then-not-can_end
returns-then-not-can_end c = rw (sym c.can_end.ensures ∙ c.if-not-can_end.true) refl

pub invariant_of-find_end : goal.invariant_of-find_end
invariant_of-find_end c = record { formed = (end_facts _ _ _ _ _ (sym c.can_end.ensures ∙ c.if-not-can_end.false)).read.form }

pub find_end-requires : goal.find_end-requires
find_end-requires c =
    let a = end_facts _ _ _ _ _ (sym c.can_end.ensures ∙ c.if-not-can_end.false) in
    let r = a.read in (a.near, a.on_lines, a.few, r.within, omega (arith, r.behind, r.within))

pub returns : goal.returns
returns c = rw (sym c.can_end.ensures ∙ c.if-not-can_end.false) c.find_end.ensures
