-- A well-formed plan is sound: its rows and keys exist, and what a step reads is held.
use mathlib.Core.Path.{◌≡◌, refl}
use mathlib.Core.Bool.{Bool, true, false}
use Rattle.plans.specs.Plans.{Sound}
use Rattle.plans.specs.Forms.{well_formed}
use Rattle.plans.specs.declared.plan.Plan.{Plan}
use Rattle.plans.proofs.FormFacts.{formed}
use Rattle.plans.proofs.LineForms.{lines_sound}
use Rattle.plans.proofs.RankForms.{ranks_sound}

pub well_formed_sound : (p : Plan) → well_formed p ≡ true → Sound p
well_formed_sound p e = go p.ranked refl
  where
    go : (b : Bool) → p.ranked ≡ b → Sound p
    go true r = ranks_sound p (formed p e) r
    go false r = lines_sound p (formed p e) r
