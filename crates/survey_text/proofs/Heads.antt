-- Laws of a plate's size: that the size of an accepted text is good and small.
use Prim.Native.Nat.{ℕ, ◌*◌, ◌≤◌}
use mathlib.Core.Path.{◌≡◌, sym, subst}
use mathlib.Core.Bool.{false}
use mathlib.Core.List.{List, []}
use borrow.Author.Tests.{ltb-false}
use lib.Dec.{ltb}
use Rattle.plate.specs.Refusals.{Verdict.accepted, row, bad_size, size_check}
use Rattle.text_lines.specs.Bytes.{bytes}
use Rattle.text_lines.specs.Format.{number}
use Rattle.survey_text.specs.Reading.{max_plate, PlateText, Rest, next, opening, size_judged, edition_line, size_lines, setting_lines, plate_lines, reading}
use Rattle.survey_text.proofs.Verdicts.{accepted_same, steps_accepted, check_passed, checks_passed}

pub record Sized (W H : ℕ) : Type 0 where
  pub good : bad_size W H ≡ false
  pub small : W * H ≤ max_plate

pub size_accepted : (l : Rest) (x : (ℕ × ℕ) × Rest) → accepted x ≡ size_lines l → Sized x.0.0 x.0.1
unfolding size_lines size_judged
size_accepted l x e =
    let a = steps_accepted (next (bytes "width=") number l) _ x e in
    let b = steps_accepted (next (bytes "height=") number a.0.1) _ x a.2 in
    let W = a.0.0 in
    let H = b.0.0 in
    let p = check_passed (size_check W H) _ _ x b.2 in
    let q = check_passed (row 14 (ltb max_plate (W * H)) 0) [] _ x p.1 in
    let r : x ≡ ((W, H), b.0.1) = checks_passed [] _ x q.1 in
    rw r (record { good = p.0; small = ltb-false max_plate (W * H) q.0 })

pub reading_sized : (text : List ℕ) (t : PlateText) → accepted t ≡ reading text → Sized t.width t.height
unfolding reading
reading_sized text t e =
    let a = steps_accepted (opening text) _ t e in
    let b = steps_accepted (edition_line a.0) _ t a.2 in
    let c = steps_accepted (size_lines b.0.1) _ t b.2 in
    let d = steps_accepted (setting_lines b.0.0 c.0.1) _ t c.2 in
    let f = steps_accepted (plate_lines c.0.0.0 c.0.0.1 d.0.1) _ t d.2 in
    subst (λ (u : PlateText). Sized u.width u.height) (sym (accepted_same t _ f.2)) (size_accepted b.0.1 c.0 c.1)
