-- `fixed_run` meets its contract: eight pixels more a turn, by the lines for three planes or by the loop over them.
use Prim.Native.Nat.{ℕ, ◌+◌, ◌<◌}
use mathlib.Core.Path.{◌≡◌, refl, sym, ap, ◌∙◌, subst}
use mathlib.Core.List.{List}
use native.Mathlib.Omega.{arith}
use lib.ListN.{length, get_or}
use Rattle.eights.specs.Turned.{turned, numbers}
use Rattle.states.specs.Rows.{BlendFits, Blent}
use Rattle.states.proofs.PlaneLaws.{planes_ends}
use Rattle.states.proofs.BlendLaws.{fits_before, columns_none, columns_more}
use Rattle.states.proofs.blends.fixed_run.Goals as goal
use Rattle.states.proofs.blends.fixed_run.Goals.{then-this-eq3, else-this-eq3}

pub loop-x-init : goal.loop-x-init
loop-x-init g c =
    let a = c.args in
    (omega arith, refl, columns_none g.row.PLANES a.pitch a.taps.t0 a.taps.t1 a.taps.t2 a.taps.to _ c.requires.blend_fits.taps (λ (y : ℕ). get_or a.keys.now (a.row.at + y) 0) _ a.row.lo)

pub eight_at-requires : goal.eight_at-requires
eight_at-requires g c = omega (arith, c.requires.lo_le_hi, c.loop-x.invariant.0, c.loop-x-test.true)

pub blend_three-requires : goal.blend_three-requires
blend_three-requires g c =
    subst (λ (n : ℕ). BlendFits n c.args.pitch c.loop-x.x c.args.taps.t0 c.args.taps.t1 c.args.taps.t2 c.args.taps.to (length c.loop-x.held)) c.if-this-eq3.true
    (fits_before g.row.PLANES _ _ _ _ _ _ _ _ _ c.requires.blend_fits (omega (arith, c.loop-x-test.true)) c.loop-x.invariant.1)

pub blend_eight-requires : goal.blend_eight-requires
blend_eight-requires g c = fits_before g.row.PLANES _ _ _ _ _ _ _ _ _ c.requires.blend_fits (omega (arith, c.loop-x-test.true)) c.loop-x.invariant.1

pub loop-x-smaller : goal.loop-x-smaller
loop-x-smaller g c = omega (arith, c.loop-x-test.true)

pub loop-x-preserved : goal.loop-x-preserved
loop-x-preserved g c =
    let a = c.args in
    let t = a.taps in
    let x = c.loop-x.x in
    let inside = c.loop-x-test.true in
    let key : ℕ → ℕ = λ y. get_or a.keys.now (a.row.at + y) 0 in
    let own : (i : ℕ) → i < 8 → turned (get_or c.turn_all-key.result i 0) ≡ key (x + i)
    = λ i m. c.turn_all-key.ensures.is i m ∙ c.eight_at.ensures i m ∙ ap (λ (k : ℕ). get_or a.keys.now k 0) (let e : a.row.at + x + i ≡ a.row.at + (x + i) = omega arith in e) in
    let Made : List ℕ → Type 0
    = λ held. (length held ≡ length c.loop-x.held) × Blent (numbers c.loop-x.held) (numbers held) key g.row.PLANES a.pitch t.t0 t.t1 t.t2 t.to x (x + 8) in
    let made : Made c.if-this-eq3.held
    = elim c.if-this-eq3.branch [
      | then-this-eq3 w ↦ subst Made (sym w.held-is) (w.blend_three.auto.held, planes_ends _ _ _ _ _ _ _ _ (w.blend_three.ensures key own) (sym w.if-this-eq3.true))
      | else-this-eq3 w ↦ subst Made (sym w.held-is) (w.blend_eight.auto.held, w.blend_eight.ensures key own)
    ] in (
      omega (arith, c.loop-x.invariant.0),
      made.0 ∙ c.loop-x.invariant.1,
      columns_more g.row.PLANES a.pitch t.t0 t.t1 t.t2 t.to _ c.requires.blend_fits.taps x (omega (arith, c.requires.blend_fits.room, inside)) key _ _ _ a.row.lo c.loop-x.invariant.0 c.loop-x.invariant.2 made.1,
    )

pub returns : goal.returns
returns g c = (omega (arith, c.loop-x-test.false), c.loop-x.invariant.2)
