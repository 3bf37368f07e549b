-- `blend_eight` meets its contract: plane by plane, eight pixels are made, and what is kept of a plane is the layer that the next one needs.
use Prim.Native.Nat.{ℕ, suc, ◌+◌, ◌-◌, ◌*◌, ◌<◌}
use mathlib.Core.Path.{◌≡◌, refl, ap, ◌∙◌}
use native.Mathlib.Omega.{arith}
use lib.ListN.{get_or, get_or-replicate}
use Rattle.basics.proofs.Numbers.{rows_fit}
use Rattle.eights.specs.Turned.{turned, numbers}
use Rattle.eights.proofs.TurnedLaws.{turned_high}
use Rattle.states.specs.Rows.{layer_ahead}
use Rattle.states.proofs.PlaneLaws.{apart_wider, planes_none, planes_ends}
use Rattle.states.proofs.BlendLaws.{layer_read, layer_none, plane_put, blended_next}
use Rattle.states.proofs.blends.blend_eight.Goals as goal

pub loop-j-init : goal.loop-j-init
loop-j-init c =
    let g = c.args in (
      λ i l. ap turned (get_or-replicate 8 i 32768 0 l) ∙ turned_high 32768 (omega arith) ∙ layer_none (numbers g.held.now) g.pitch g.taps.t0 g.taps.t1 g.taps.t2 (g.x + i),
      λ keys same. planes_none _ _ _ _ _,
    )

pub greatest_at-ahead-requires : goal.greatest_at-ahead-requires
greatest_at-ahead-requires c =
    omega (arith, c.requires, c.requires.taps, c.loop-j.auto.held, rows_fit c.loop-j.j 1 c.args.planes c.args.pitch (omega arith))

pub put_eight-requires : goal.put_eight-requires
put_eight-requires c =
    omega (arith, c.requires, c.requires.taps, c.loop-j.auto.held, rows_fit c.loop-j.j 1 c.args.planes c.args.pitch (omega arith))

pub loop-j-preserved : goal.loop-j-preserved
loop-j-preserved c =
    let g = c.args in
    let t = g.taps in
    let x = g.x in
    let q = g.pitch in
    let f = c.requires in
    let left = c.loop-j-test.true in
    let j = c.loop-j.j in
    let o = x + j * q in
    let old = numbers g.held.now in
    let key = g.key in
    let own = c.loop-j.invariant.1 (λ (y : ℕ). turned (get_or key (y - x) 0)) (λ i m. ap (λ (k : ℕ). turned (get_or key k 0)) (let e : i ≡ x + i - x = omega arith in e)) in
    let apart = apart_wider _ _ _ _ (t.to - 1) (t.to - 1 + g.planes * q) own.apart (omega arith) (omega (arith, rows_fit j 0 g.planes q (omega arith))) in
    let layer : (i : ℕ) → i < 8 → turned (get_or c.greatest_at-ahead.result i 0) ≡ layer_ahead old q t.t0 t.t1 t.t2 (suc j) (x + i)
    = λ i m. c.greatest_at-ahead.ensures.is i m ∙ layer_read g.planes q t.t0 t.t1 t.t2 t.to _ f.taps old (numbers c.loop-j.held) apart j x o i refl left (omega (arith, f.room)) in (
      λ i m. layer i m ∙ ap (λ (n : ℕ). layer_ahead old q t.t0 t.t1 t.t2 n (x + i)) (let e : suc j ≡ j + 1 = omega arith in e),
      λ keys same.
          plane_put g.planes q t.t0 t.t1 t.t2 t.to _ f.taps x f.room keys old (numbers c.loop-j.held) _ _ j _ left (c.loop-j.invariant.1 keys same) c.put_eight.ensures (omega arith)
          (λ i m. blended_next old q t.t0 t.t1 t.t2 keys j (x + i) _ _ _ _ _ (c.greater.ensures.is i m) (c.lower.ensures.is i m) (same i m) (layer i m) (c.loop-j.invariant.0 i m)),
    )

pub returns : goal.returns
returns c keys same = planes_ends _ _ _ _ _ _ _ _ (c.loop-j.invariant.1 keys same) (let e : c.loop-j.j ≡ c.args.planes = omega arith in e)
