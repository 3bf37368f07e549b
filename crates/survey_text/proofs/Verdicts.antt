-- What an accepted verdict says of the steps that led to it.
use Prim.Native.Nat.{ℕ}
use mathlib.Core.Path.{◌≡◌, refl}
use mathlib.Core.Bool.{false}
use mathlib.Core.List.{List, [], ◌∷◌}
use mathlib.Core.Logic.{⊎_elim}
use native.Mathlib.Omega.{arith}
use Rattle.std.specs.Prelude.{Option, None, Some, Result, Ok, Err}
use Rattle.std.specs.Option.{ok_or}
use Rattle.basics.proofs.Tests.{true_or_false}
use Rattle.plate.specs.Refusals.{Verdict, Verdict.accepted, Verdict.refused, Check, judged}
use Rattle.plate.specs.Answers.{answered, result_after}
use Rattle.plate.specs.declared.refusal.Refusal.{Refusal}
use lib.IntN.{ℤ}
use Rattle.survey_text.specs.Reading.{◌>>=◌}

pub accepted_same : {A : Type 0} (a b : A) → accepted a ≡ accepted b → a ≡ b
accepted_same a b e = cc

-- one step after another: the first was accepted, and then the second
pub steps_accepted : {A B : Type 0} (v : Verdict A) (k : A → Verdict B) (b : B) → accepted b ≡ (v >>= k) → (a : A) × (accepted a ≡ v) × (accepted b ≡ k a)
steps_accepted (accepted a) k b e = (a, refl, e)
steps_accepted (refused n p) k b e = absurd (let z : ◌≡◌ {A = ℕ} 0 1 = cc in omega arith)

-- a row of checks: the first did not refuse, and then the others
pub check_passed : {A : Type 0} (c : Check) (cs : List Check) (a b : A) → accepted b ≡ judged (c ∷ cs) a → (c.refuses ≡ false) × (accepted b ≡ judged cs a)
unfolding judged
check_passed {A} c cs a b e =
    ⊎_elim
    (λ t. let f : ◌≡◌ {A = Verdict A} (accepted b) (refused c.number c.place) = rw t at e in absurd (let z : ◌≡◌ {A = ℕ} 0 1 = cc in omega arith))
    (λ t. (t, rw t at e))
    (true_or_false c.refuses)

-- no check refused: what is accepted is what was judged
pub checks_passed : {A : Type 0} (cs : List Check) (a b : A) → accepted b ≡ judged cs a → b ≡ a
unfolding judged
checks_passed [] a b e = cc
checks_passed (c ∷ cs) a b e = checks_passed cs a b (check_passed c cs a b e).1

-- a call whose verdict is acceptance is done, and its result is the new one
pub done_result : (r : Result Unit Refusal) (new old : List ℤ) → answered r ≡ accepted tt → result_after r new old ≡ new
done_result (Ok _) new old e = refl
done_result (Err r) new old e = absurd (let z : ◌≡◌ {A = ℕ} 0 1 = cc in omega arith)

-- ---- an option in the place of a result

pub got : {A E : Type 0} (o : Option A) (e : E) (a : A) → ok_or o e ≡ Ok a → o ≡ Some a
got None e a h = absurd (let z : ◌≡◌ {A = ℕ} 0 1 = cc in omega arith)
got (Some b) e a h = cc

pub missed : {A E : Type 0} (o : Option A) (e f : E) → ok_or o e ≡ Err f → (o ≡ None) × (f ≡ e)
missed None e f h = (refl, cc)
missed (Some b) e f h = absurd (let z : ◌≡◌ {A = ℕ} 0 1 = cc in omega arith)
