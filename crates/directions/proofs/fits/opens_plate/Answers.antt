-- `opens_plate` meets its contract: its tests are those of `opens`, in the same order, and no product leaves.
use mathlib.Core.Path.{sym, ◌∙◌}
use native.Mathlib.Omega.{arith}
use borrow.Author.Tests.{eq-eqb, ne_eqb}
use Rattle.directions.specs.Doors.{opens}
use Rattle.directions.proofs.DoorLaws.{fitting, work_small}
use Rattle.directions.proofs.fits.opens_plate.Goals as goal

pub returns-then-not-fits_plate : goal.returns-then-not-fits_plate
unfolding opens
returns-then-not-fits_plate c = rw (sym c.fits_plate.ensures ∙ c.if-not-fits_plate.true)

pub overflow_mul-pixels : goal.overflow_mul-pixels
overflow_mul-pixels c = omega (arith, (fitting _ _ _ _ (sym c.fits_plate.ensures ∙ c.if-not-fits_plate.false)).size.few)

pub returns-then-plate-pixels : goal.returns-then-plate-pixels
unfolding opens
returns-then-plate-pixels c = rw (sym c.fits_plate.ensures ∙ c.if-not-fits_plate.false, ne_eqb _ _ c.if-plate-pixels.true)

pub returns-then-res-pixels : goal.returns-then-res-pixels
unfolding opens
returns-then-res-pixels c = rw (sym c.fits_plate.ensures ∙ c.if-not-fits_plate.false, eq-eqb _ _ c.if-plate-pixels.false, ne_eqb _ _ c.if-res-pixels.true)

pub overflow_add-result : goal.overflow_add-result
overflow_add-result c = omega (arith, (fitting _ _ _ _ (sym c.fits_plate.ensures ∙ c.if-not-fits_plate.false)).few_gaps)

pub overflow_mul-result : goal.overflow_mul-result
overflow_mul-result c = omega (arith, (fitting _ _ _ _ (sym c.fits_plate.ensures ∙ c.if-not-fits_plate.false)).few_gaps)

pub overflow_mul-result-2 : goal.overflow_mul-result-2
overflow_mul-result-2 c =
    let f = fitting _ _ _ _ (sym c.fits_plate.ensures ∙ c.if-not-fits_plate.false) in omega (arith, work_small _ _ f.few_gaps f.size.few)

pub returns : goal.returns
unfolding opens
returns c = rw (sym c.fits_plate.ensures ∙ c.if-not-fits_plate.false, eq-eqb _ _ c.if-plate-pixels.false, eq-eqb _ _ c.if-res-pixels.false)
