-- `can_note` asks the questions of `can_note` in their order.
use native.Mathlib.Omega.{arith}
use mathlib.Core.Path.{sym, ap, ◌∙◌}
use Prim.Native.Nat.{ℕ, ◌*◌}
use lib.Dec.{leb}
use Rattle.walks.proofs.DoorTests.{read_facts, past_few, note_1, note_2, note_3, note_4}
use Rattle.walks.proofs.doors.can_note.Goals as goal

pub returns-then-not-can_read : goal.returns-then-not-can_read
returns-then-not-can_read c = note_1 _ _ _ _ _ (sym c.can_read.ensures ∙ c.if-not-can_read.true)

pub returns-then-e-ge65536 : goal.returns-then-e-ge65536
returns-then-e-ge65536 c = note_2 _ _ _ _ _ (sym c.can_read.ensures ∙ c.if-not-can_read.false) c.if-e-ge65536.true

pub returns-then-base-gt65536 : goal.returns-then-base-gt65536
returns-then-base-gt65536 c = note_3 _ _ _ _ _ (sym c.can_read.ensures ∙ c.if-not-can_read.false) c.if-e-ge65536.false c.if-base-gt65536.true

pub overflow_mul-result : goal.overflow_mul-result
overflow_mul-result c =
    let form = (read_facts _ _ _ (sym c.can_read.ensures ∙ c.if-not-can_read.false)).form in
    omega (arith, past_few c.args.plan c.args.e form c.if-e-ge65536.false, ap (λ (n : ℕ). n * c.args.plan.planes) c.steps_past.ensures)

pub returns : goal.returns
returns c =
    let a = c.args in
    ap (λ (n : ℕ). leb (n * a.plan.planes) a.notes) c.steps_past.ensures
    ∙ note_4 _ _ _ _ _ (sym c.can_read.ensures ∙ c.if-not-can_read.false) c.if-e-ge65536.false c.if-base-gt65536.false
