-- `blend_three` meets its contract: what is read is read before anything is written, and each plane that is put is one more.
use Prim.Native.Nat.{ℕ, suc, ◌+◌, ◌*◌, ◌<◌}
use mathlib.Core.Path.{◌≡◌, ◌∙◌}
use native.Mathlib.Omega.{arith}
use lib.ListN.{get_or}
use Rattle.eights.specs.Turned.{turned, numbers}
use Rattle.states.specs.Runs.{greatest_at}
use Rattle.states.specs.Rows.{layer_ahead}
use Rattle.states.proofs.PlaneLaws.{apart_none, planes_none}
use Rattle.states.proofs.BlendLaws.{layer_read, plane_put, blended_lowest, blended_next}
use Rattle.states.proofs.blends.blend_three.Goals as goal

pub put_eight-requires-2 : goal.put_eight-requires-2
put_eight-requires-2 c = omega (arith, c.requires, c.requires.taps, c.put_eight.auto.s)

pub overflow_add-taps-4 : goal.overflow_add-taps-4
overflow_add-taps-4 c = omega (arith, c.requires, c.requires.taps)

pub overflow_mul-pitch-2 : goal.overflow_mul-pitch-2
overflow_mul-pitch-2 c = omega (arith, c.requires, c.requires.taps)

pub overflow_add-taps-5 : goal.overflow_add-taps-5
overflow_add-taps-5 c = omega (arith, c.requires, c.requires.taps)

pub put_eight-requires-3 : goal.put_eight-requires-3
put_eight-requires-3 c = omega (arith, c.requires, c.requires.taps, c.put_eight-2.auto.s, c.put_eight.auto.s)

pub returns : goal.returns
returns c keys same =
    let g = c.args in
    let t = g.taps in
    let x = g.x in
    let q = g.pitch in
    let f = c.requires in
    let old = numbers g.held.now in
    let layer : (j o i : ℕ) → o ≡ x + j * q → j < 3 → i < 8 → greatest_at old t.t0 t.t1 t.t2 (o + i) ≡ layer_ahead old q t.t0 t.t1 t.t2 (suc j) (x + i)
    = λ j o i e l m. layer_read 3 q t.t0 t.t1 t.t2 t.to _ f.taps old old (apart_none _ _ _) j x o i e l (omega (arith, f.room)) in
    let la : (i : ℕ) → i < 8 → turned (get_or c.greatest_at-a.result i 0) ≡ layer_ahead old q t.t0 t.t1 t.t2 1 (x + i)
    = λ i l. c.greatest_at-a.ensures.is i l ∙ layer 0 x i (omega arith) (omega arith) l in
    let lb : (i : ℕ) → i < 8 → turned (get_or c.greatest_at-b.result i 0) ≡ layer_ahead old q t.t0 t.t1 t.t2 2 (x + i)
    = λ i l. c.greatest_at-b.ensures.is i l ∙ layer 1 (x + q) i (omega arith) (omega arith) l in
    let ld : (i : ℕ) → i < 8 → turned (get_or c.greatest_at-c.result i 0) ≡ layer_ahead old q t.t0 t.t1 t.t2 3 (x + i)
    = λ i l. c.greatest_at-c.ensures.is i l ∙ layer 2 (x + 2 * q) i (omega arith) (omega arith) l in
    let first = plane_put 3 q t.t0 t.t1 t.t2 t.to _ f.taps x f.room keys old old _ _ 0 _ (omega arith) (planes_none _ _ old _ q) c.put_eight.ensures (omega arith)
    (λ i l. blended_lowest old q t.t0 t.t1 t.t2 keys (x + i) _ _ _ (c.lower.ensures.is i l) (same i l) (la i l)) in
    let second = plane_put 3 q t.t0 t.t1 t.t2 t.to _ f.taps x f.room keys old _ _ _ 1 _ (omega arith) first c.put_eight-2.ensures (omega arith)
    (λ i l. blended_next old q t.t0 t.t1 t.t2 keys 1 (x + i) _ _ _ _ _ (c.greater.ensures.is i l) (c.lower-2.ensures.is i l) (same i l) (lb i l) (la i l)) in
    plane_put 3 q t.t0 t.t1 t.t2 t.to _ f.taps x f.room keys old _ _ _ 2 _ (omega arith) second c.put_eight-3.ensures (omega arith)
    (λ i l. blended_next old q t.t0 t.t1 t.t2 keys 2 (x + i) _ _ _ _ _ (c.greater-2.ensures.is i l) (c.lower-3.ensures.is i l) (same i l) (ld i l) (lb i l))
