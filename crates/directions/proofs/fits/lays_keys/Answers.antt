-- `lays_keys` meets its contract: its tests are those of `lays`, in the same order.
use mathlib.Core.Path.{sym, ◌∙◌}
use native.Mathlib.Omega.{arith}
use borrow.Author.Tests.{eq-eqb, ne_eqb}
use Rattle.directions.specs.Doors.{lays}
use Rattle.directions.proofs.DoorLaws.{keeping}
use Rattle.directions.proofs.fits.lays_keys.Goals as goal

pub returns-then-not-keeps_keys : goal.returns-then-not-keeps_keys
unfolding lays
returns-then-not-keeps_keys c = rw (sym c.keeps_keys.ensures ∙ c.if-not-keeps_keys.true)

pub overflow_mul-pixels : goal.overflow_mul-pixels
overflow_mul-pixels c = omega (arith, (keeping _ _ _ _ (sym c.keeps_keys.ensures ∙ c.if-not-keeps_keys.false)).size.few)

pub returns-then-plate-pixels : goal.returns-then-plate-pixels
unfolding lays
returns-then-plate-pixels c = rw (sym c.keeps_keys.ensures ∙ c.if-not-keeps_keys.false, ne_eqb _ _ c.if-plate-pixels.true)

pub returns : goal.returns
unfolding lays
returns c = rw (sym c.keeps_keys.ensures ∙ c.if-not-keeps_keys.false, eq-eqb _ _ c.if-plate-pixels.false)
