-- `place_kept_lem` meets its contract: its tests are those of `place_kept_by`, in the same order.
use mathlib.Core.Path.{sym, ◌∙◌}
use native.Mathlib.Omega.{arith}
use borrow.Author.Tests.{le-ltb}
use Rattle.directions.specs.Doors.{place_kept_by}
use Rattle.directions.proofs.DoorLaws.{keeping, place_there}
use Rattle.directions.proofs.keys.place_kept.Goals as goal

pub returns-then-not-keeps_keys : goal.returns-then-not-keeps_keys
unfolding place_kept_by
returns-then-not-keeps_keys c = rw (sym c.keeps_keys.ensures ∙ c.if-not-keeps_keys.true)

pub overflow_mul-width : goal.overflow_mul-width
overflow_mul-width c = omega (arith, (keeping _ _ _ _ (sym c.keeps_keys.ensures ∙ c.if-not-keeps_keys.false)).size.few)

pub returns-then-q-width : goal.returns-then-q-width
unfolding place_kept_by
returns-then-q-width c = rw (sym c.keeps_keys.ensures ∙ c.if-not-keeps_keys.false, le-ltb _ _ c.if-q-width.true)

pub invariant_of-place_at : goal.invariant_of-place_at
invariant_of-place_at c =
    record { kept_on = rw c.frame-frame.ensures (keeping _ _ _ _ (sym c.keeps_keys.ensures ∙ c.if-not-keeps_keys.false)).kept }

pub place_at-requires : goal.place_at-requires
place_at-requires c =
    let k = keeping _ _ _ _ (sym c.keeps_keys.ensures ∙ c.if-not-keeps_keys.false) in
    rw (c.frame-frame.ensures, k.area) c.if-q-width.false

pub returns : goal.returns
returns c =
    c.place_at.ensures ∙ rw c.frame-frame.ensures (place_there _ _ _ _ _ (sym c.keeps_keys.ensures ∙ c.if-not-keeps_keys.false) c.if-q-width.false)
