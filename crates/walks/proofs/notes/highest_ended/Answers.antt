-- `highest_ended` meets its contract: the highest so far grows by one number a turn, with the key beside it.
use Prim.Native.Nat.{min, max}
use mathlib.Core.Path.{◌≡◌, refl, ap, ◌∙◌}
use native.Mathlib.Omega.{arith}
use lib.ListN.{length, get_or}
use Rattle.std.proofs.lemmas.List.{length_push}
use Rattle.std.proofs.lemmas.Slice.Zip.{zip_turn, zip_end}
use Rattle.theory.specs.BestWalks.{ended}
use Rattle.walks.proofs.Lifting.{highest_none, highest_more}
use Rattle.walks.proofs.notes.highest_ended.Goals as goal

pub loop-number-init : goal.loop-number-init
loop-number-init c = highest_none _ _

pub loop-number-preserved : goal.loop-number-preserved
loop-number-preserved c =
    let a = c.args in
    let n = length c.loop-number.yielded in
    let t =
    zip_turn a.numbers.now a.keys.now c.loop-number.yielded c.into_iter-number-iterator.result c.loop-number.number-iterator c.next.new.self
    c.next.result (cc) (cc) c.loop-number.yielded_by (c.in-Some.number, c.in-Some.key) c.in-Some.is c.next.ensures.steps in
    let counts : c.ended_at.result ≡ min (get_or a.numbers.now n 0) (ended a.slack (get_or a.keys.now n 0)) =
    c.ended_at.ensures ∙ rw (t.2 0, t.3 0) refl in
    rw (length_push c.loop-number.yielded (c.in-Some.number, c.in-Some.key))
    (highest_more _ _ _ _ _ c.loop-number.invariant (c.max-best.ensures ∙ ap (max c.loop-number.best) counts))

pub returns : goal.returns
returns c =
    let t =
    zip_end c.args.numbers.now c.args.keys.now c.loop-number.yielded c.into_iter-number-iterator.result c.loop-number.number-iterator
    c.next.new.self c.next.result (cc) (cc) c.loop-number.yielded_by c.in-None.is c.next.ensures.steps in
    let all : length c.loop-number.yielded ≡ length c.args.numbers.now = omega (arith, t, c.requires) in
    rw all at c.loop-number.invariant
