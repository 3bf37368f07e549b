-- `row` meets its contract: a plan that can be followed is sound, and of a sound one `row_of` answers the row itself.
use Rattle.plans.proofs.FormLaws.{well_formed_sound}
use Rattle.plans.proofs.RowForms.{row_told}
use Rattle.plans.proofs.followed.Followed.row.Goals as goal

pub returns : goal.returns
returns c =
    record { of = c.row_of.ensures; inside = λ a h. row_told _ _ _ _ (well_formed_sound _ c.args.self.formed) a h c.row_of.ensures }
