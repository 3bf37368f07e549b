-- `correction` judges the lamp figure, then the dark one, and hands the difference of their means on to be rounded.
use Rattle.std.proofs.Common.{◌≡◌, ℕ, true, sym, ap, ◌∙◌, subst, w16, Float, Option, Some, None, Result, Ok, Err}
use mir.ValLaws.{to_z-of_z}
use Rattle.std.specs.Option.{ok_or}
use Rattle.std.proofs.lemmas.Result.{err_from_is_err_and}
use Rattle.plate.specs.Answers.{number_by}
use Rattle.plate.specs.Refusals.{Verdict, Verdict.accepted, Verdict.refused}
use Rattle.plate.specs.RefusalNumbers.{refusal_figure}
use Rattle.plate.specs.declared.refusal.Reason.TheVariants.{Figure as Reported}
use Rattle.plate.specs.declared.refusal.Refusal.{Refusal}
use Rattle.plate.proofs.Verdicts.{clash}
use Rattle.meter.specs.Corrections.{bad_figure, eighths_of, difference_of, correction_of}
use Rattle.meter.specs.Eighths.{IsEighths, Resolves}
use Rattle.meter.specs.declared.figure.Figure.{Figure}
use Rattle.meter.proofs.Deciding.{lamp_refused, dark_refused, both_accepted}
use Rattle.meter.proofs.Meter.correction.Goals as goal
use Rattle.meter.proofs.Meter.correction.Goals.{After-difference}

-- a figure that is resolved to none is the refusal
abbrev as_verdict : Result Float Refusal → Verdict ℕ
as_verdict (Ok x) = accepted 0
as_verdict (Err r) = refused (number_by r.reason) r.place

none_refused : (o : Option Float) (r : Refusal) (f : Figure) → ◌≡◌ {A = Result Float Refusal} (Err r) (ok_or o (record { reason = Reported; place = 0 })) → Resolves o f →
    (◌≡◌ {A = Verdict ℕ} (refused (number_by r.reason) r.place) (refused refusal_figure 0)) × (bad_figure f ≡ true)
none_refused None r f e h = (ap as_verdict e, h)
none_refused (Some x) r f e h = clash (sym (ap as_verdict e))

pub returns-in_err-ok_or : goal.returns-in_err-ok_or
returns-in_err-ok_or c =
    let p = err_from_is_err_and c.from_residual.result c.from_residual.ensures.1 in
    let r = none_refused _ _ _ c.in_err-ok_or.ensures.value c.resolved.ensures in
    rw (p.1, p.2) (r.0 ∙ lamp_refused c.args.self r.1)

-- a figure that is resolved to its mean
resolved : (o : Option Float) (x : Float) (f : Figure) → o ≡ Some x → Resolves o f → Resolves (Some x) f
resolved o x f e h = subst (λ (r : Option Float). Resolves r f) e h

pub returns-in_err-ok_or-2 : goal.returns-in_err-ok_or-2
returns-in_err-ok_or-2 c =
    let p = err_from_is_err_and c.from_residual-in_err-ok_or-2.result c.from_residual-in_err-ok_or-2.ensures.1 in
    let lamp = resolved _ _ _ c.in_ok-ok_or.ensures.ok_part c.resolved.ensures in
    let r = none_refused _ _ _ c.in_err-ok_or-2.ensures.value c.resolved-2.ensures in
    rw (p.1, p.2) (r.0 ∙ dark_refused c.args.self lamp.0 r.1)

-- both means
module _ (c : After-difference) where
  lamp_is : Resolves (Some c.in_ok-ok_or.field-0) c.args.self.lamp
  lamp_is = resolved _ _ _ c.in_ok-ok_or.ensures.ok_part c.resolved.ensures

  dark_is : Resolves (Some c.in_ok-ok_or-2.field-0) c.args.self.dark
  dark_is = resolved _ _ _ c.in_ok-ok_or-2.ensures.ok_part c.resolved-2.ensures

  difference_is : IsEighths c.difference.result (difference_of c.args.self)
  difference_is = c.difference.ensures (eighths_of c.args.self.lamp) (eighths_of c.args.self.dark) lamp_is.1 dark_is.1

pub rounded-requires : goal.rounded-requires
rounded-requires c = record { count = difference_of c.args.self; counted = difference_is c }

pub returns : goal.returns
returns c =
    let m = c.args.self in
    let d = (goal.at.returns c).After-difference in
    let level : c.rounded.result ≡ correction_of m = c.rounded.ensures (difference_of m) (difference_is d) in
    rw (c.word_of.ensures, to_z-of_z w16 c.rounded.result (record { sfits = c.rounded.type_inv }), level) (both_accepted m (lamp_is d).0 (dark_is d).0)
