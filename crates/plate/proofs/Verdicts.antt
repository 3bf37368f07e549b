-- A call is accepted exactly when none of its checks refuses, and the first that does decides.
use mathlib.Core.Path.{◌≡◌, refl, sym, subst, ◌∙◌}
use mathlib.Core.Bool.{Bool, true, false, cond}
use mathlib.Core.List.{List, [], ◌∷◌, ◌++◌, append-nil}
use mathlib.Core.Logic.{⊎_elim}
use native.Mathlib.Omega.{arith}
use Prim.Native.Nat.{ℕ}
use Rattle.basics.proofs.Tests.{true_or_false}
use Rattle.plate.specs.Refusals.{Verdict, Verdict.accepted, Verdict.refused, Check, judged, Clear}

pub clear_accepted : {A : Type 0} (cs : List Check) (a : A) → Clear cs → judged cs a ≡ accepted a
unfolding judged
clear_accepted [] a h = refl
clear_accepted (c ∷ cs) a h = rw h.0 (clear_accepted cs a h.1)

first_passes : {A : Type 0} (b : Bool) (n p : ℕ) (rest : Verdict A) (v : A) → cond b (refused n p) rest ≡ accepted v → (b ≡ false) × (rest ≡ accepted v)
first_passes true n p rest v e = absurd (let z : ◌≡◌ {A = ℕ} 0 1 = cc in omega arith)
first_passes false n p rest v e = (refl, e)

pub accepted_clear : {A : Type 0} (cs : List Check) (a v : A) → judged cs a ≡ accepted v → (a ≡ v) × Clear cs
unfolding judged
accepted_clear [] a v e = (cc, tt)
accepted_clear (c ∷ cs) a v e =
    let f = first_passes c.refuses c.number c.place (judged cs a) v e in
    let r = accepted_clear cs a v f.1 in (r.0, (f.0, r.1))

-- ---- checks in a row

-- accepted is not refused
pub clash : {A B : Type 0} {a : A} {n p : ℕ} → accepted a ≡ refused n p → B
clash e = absurd (let z : ◌≡◌ {A = ℕ} 0 1 = cc in omega arith)

-- where those that come first refuse they decide, whatever the call returns
pub refused_first : {A B : Type 0} (a : A) (b : B) (cs ds : List Check) (n p : ℕ) → judged cs a ≡ refused n p → judged (cs ++ ds) b ≡ refused n p
unfolding judged
refused_first a b [] ds n p e = clash e
refused_first {A} a b (c ∷ cs) ds n p e =
    ⊎_elim
    (λ t. let f : ◌≡◌ {A = Verdict A} (refused c.number c.place) (refused n p) = rw t at e in rw t (cc))
    (λ t. let f : judged cs a ≡ refused n p = rw t at e in rw t (refused_first a b cs ds n p f))
    (true_or_false c.refuses)

-- a refusal does not depend on what the call would return
pub refused_same : {A B : Type 0} (a : A) (b : B) (cs : List Check) (n p : ℕ) → judged cs a ≡ refused n p → judged cs b ≡ refused n p
refused_same a b cs n p e = subst (λ (ds : List Check). judged ds b ≡ refused n p) (append-nil cs) (refused_first a b cs [] n p e)

-- where they pass the others decide
pub passed_first : {A : Type 0} (a : A) (cs ds : List Check) → Clear cs → judged (cs ++ ds) a ≡ judged ds a
unfolding judged
passed_first a [] ds h = refl
passed_first a (c ∷ cs) ds h = rw h.0 (passed_first a cs ds h.1)

-- the next one, if it refuses
pub refused_next : {A : Type 0} (a : A) (cs : List Check) (c : Check) (ds : List Check) → Clear cs → c.refuses ≡ true → refused c.number c.place ≡ judged (cs ++ (c ∷ ds)) a
unfolding judged
refused_next a [] c ds h t = rw t
refused_next a (b ∷ cs) c ds h t = rw h.0 (refused_next a cs c ds h.1 t)

-- none of either refuses
pub clear_both : (cs ds : List Check) → Clear cs → Clear ds → Clear (cs ++ ds)
clear_both [] ds h k = k
clear_both (c ∷ cs) ds h k = (h.0, clear_both cs ds h.1 k)

pub clear_first : (cs ds : List Check) → Clear (cs ++ ds) → Clear cs
clear_first [] ds h = tt
clear_first (c ∷ cs) ds h = (h.0, clear_first cs ds h.1)

-- other checks after the same ones: where they come to the same once those have passed, so does the whole row
pub same_after :
    {A : Type 0} (a : A) (cs ds es : List Check) → (Clear cs → judged ds a ≡ judged es a) → judged (cs ++ ds) a ≡ judged (cs ++ es) a
unfolding judged
same_after a [] ds es same = same tt
same_after a (c ∷ cs) ds es same =
    ⊎_elim (λ t. rw t) (λ t. rw t (same_after a cs ds es (λ h. same (t, h)))) (true_or_false c.refuses)

-- none of the later ones either
pub clear_second : (cs ds : List Check) → Clear (cs ++ ds) → Clear ds
clear_second [] ds h = h
clear_second (c ∷ cs) ds h = clear_second cs ds h.1

-- ---- one check at a time, as the code makes them

pub check_passes : (c : Check) → ◌≡◌ {A = Verdict (Unit {0})} (accepted tt) (judged (c ∷ []) tt) → c.refuses ≡ false
check_passes c e = (accepted_clear {A = Unit {0}} (c ∷ []) tt tt (sym e)).1.0

-- the checks before it have passed, and this one refuses
pub check_refuses :
    {A : Type 0} {n p : ℕ} (a : A) (cs : List Check) (c : Check) (ds : List Check) → Clear cs → ◌≡◌ {A = Verdict (Unit {0})} (refused n p) (judged (c ∷ []) tt) → refused n p ≡ judged (cs ++ (c ∷ ds)) a
check_refuses {A} {n} {p} a cs c ds clear e = sym (passed_first a cs (c ∷ ds) clear ∙ refused_first {A = Unit {0}} tt a (c ∷ []) ds n p (sym e))
