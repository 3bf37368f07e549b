-- `list_in` takes part by part: the invariant is `Filling`, and each return is a law of it.
use borrow.Author.Rules.{rules}
use borrow.Author.Tests.{tests}
use native.Mathlib.Omega.{arith}
use mathlib.Core.Path.{◌≡◌, refl}
use mathlib.Core.Bool.{Bool, true, false, not}
use mathlib.Core.List.{List}
use Prim.Native.Nat.{ℕ, ◌<◌}
use denote.Ref.{Bor}
use lib.ListN.{length, get_or}
use Rattle.std.specs.Prelude.{Option, None, Some, is_some}
use Rattle.std.proofs.lemmas.List.{set-get_or, length_push}
use Rattle.std.proofs.lemmas.Iterator.Consumers.{YieldsList-turn, YieldsList-end}
use Rattle.std.proofs.lemmas.Iterator.Splits.{YieldsList-from_slice_split}
use Rattle.text_lines.specs.Bytes.{comma}
use Rattle.text_lines.specs.Format.{is, parts, list}
use Rattle.text_lines.specs.Answers.{whether, filled_by}
use Rattle.text_lines.proofs.Digits.{number_small}
use Rattle.text_lines.proofs.Parts.{parts_split, filling_none, filling_full, filling_over, filling_short, filling_bad, filling_more}
use Rattle.text_lines.proofs.number.list_in.Goals as goal
use Rattle.text_lines.proofs.number.list_in.Goals.{In-Some, After-is_none}

pub loop-place-init : goal.loop-place-init
loop-place-init c = (refl, filling_none _ _)

-- the part that was taken is the next
part_at : (c : In-Some) → let k = c.loop-place.place-index in
    let p = c.in-Some.part.now in
    (k < length (parts c.args.s.now)) × (p ≡ get_or (parts c.args.s.now) k p)
unfolding is
part_at c =
    let s = c.split-parts.ensures in
    let t = YieldsList-turn (YieldsList-from_slice_split _ (is comma) c.args.s.now s.rest s.done s.closure (λ x b q k. search (rules, tests))) c.loop-place.yielded _ c.loop-place.yielded_by _ _ _ c.in-Some.is c.next.ensures.steps in
    rw (c.loop-place.invariant.0, parts_split c.args.s.now) at t

pub returns-in_default : goal.returns-in_default
unfolding is
returns-in_default c =
    let s = c.split-parts.ensures in
    let t = YieldsList-end (YieldsList-from_slice_split _ (is comma) c.args.s.now s.rest s.done s.closure (λ x b q k. search (rules, tests))) c.loop-place.yielded _ c.loop-place.yielded_by _ _ c.in_default.is c.next.ensures.steps in
    let n = rw (c.loop-place.invariant.0, parts_split c.args.s.now) at t.1 in
    let r = filling_short _ _ _ _ c.loop-place.invariant.1 (omega arith) (omega arith) in
    record { out_after = r.0; out_after_2 = rw set-get_or r.1 }

pub returns-in_default-number_in : goal.returns-in_default-number_in
returns-in_default-number_in c =
    let e = rw c.in_default-number_in.is at c.number_in.ensures in
    let r = filling_bad _ _ _ _ c.loop-place.invariant.1 (omega arith) _ (part_at (goal.at.returns-in_default-number_in c).In-Some) e in
    record { out_after = r.0; out_after_2 = rw set-get_or r.1 }

pub overflow_cast-place : goal.overflow_cast-place
overflow_cast-place c =
    let e = rw c.in-Some-number_in.is at c.number_in.ensures in
    omega (arith, number_small _ _ e)

pub loop-place-preserved : goal.loop-place-preserved
loop-place-preserved c =
    let e = rw c.in-Some-number_in.is at c.number_in.ensures in (
      rw (length_push, c.loop-place.invariant.0),
      filling_more _ _ _ _ c.loop-place.invariant.1 (omega arith) _ (part_at (goal.at.loop-place-preserved c).In-Some) _ e,
    )

-- whether a part more was there
none_left : (b : Bool) → false ≡ not b → b ≡ true
none_left true e = refl
none_left false e = e

one_left : (b : Bool) → true ≡ not b → b ≡ false
one_left true e = e
one_left false e = refl

ended : (c : After-is_none) (r : Option (Bor (List ℕ))) → c.next-2.result ≡ r → is_some r ≡ not c.is_none.result →
    (whether c.is_none.result c.loop-place.out ≡ list (length c.args.out.now) c.args.s.now) × (c.loop-place.out ≡ filled_by (parts c.args.s.now) c.args.out.now)
unfolding is
ended c None e b =
    let s = c.split-parts.ensures in
    let t = YieldsList-end (YieldsList-from_slice_split _ (is comma) c.args.s.now s.rest s.done s.closure (λ x b q k. search (rules, tests))) c.loop-place.yielded _ c.loop-place.yielded_by _ _ e c.next-2.ensures.steps in
    let n = rw (c.loop-place.invariant.0, parts_split c.args.s.now) at t.1 in
    rw (none_left c.is_none.result b) (filling_full _ _ _ _ c.loop-place.invariant.1 (omega arith) (omega arith))
ended c (Some p) e b =
    let s = c.split-parts.ensures in
    let t = YieldsList-turn (YieldsList-from_slice_split _ (is comma) c.args.s.now s.rest s.done s.closure (λ x b q k. search (rules, tests))) c.loop-place.yielded _ c.loop-place.yielded_by _ _ _ e c.next-2.ensures.steps in
    let n = rw (c.loop-place.invariant.0, parts_split c.args.s.now) at t in
    rw (one_left c.is_none.result b) (filling_over _ _ _ _ c.loop-place.invariant.1 _ n (omega arith))

pub returns : goal.returns
returns c =
    let r = ended (goal.at.returns c).After-is_none _ refl c.is_none.ensures in
    record { out_after = r.0; out_after_2 = r.1 }
