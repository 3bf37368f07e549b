-- `note_state` meets its contract: what was judged is what the notes of a state ask for.
use mathlib.Core.Path.{sym, refl, ◌∙◌}
use Rattle.walks.proofs.DoorTests.{note_facts}
use Rattle.walks.proofs.doors.note_state.Goals as goal

pub returns-then-not-can_note : goal.returns-then-not-can_note
returns-then-not-can_note c = record { value = sym (sym c.can_note.ensures ∙ c.if-not-can_note.true); either = refl }

pub invariant_of-note_state : goal.invariant_of-note_state
invariant_of-note_state c = record { formed = (note_facts _ _ _ _ _ (sym c.can_note.ensures ∙ c.if-not-can_note.false)).read.form }

pub note_state-requires : goal.note_state-requires
note_state-requires c =
    let a = note_facts _ _ _ _ _ (sym c.can_note.ensures ∙ c.if-not-can_note.false) in
    let r = a.read in (a.few, a.near, r.within, r.behind, a.room)

pub returns : goal.returns
returns c = record { value = sym (sym c.can_note.ensures ∙ c.if-not-can_note.false); either = c.note_state.ensures }
