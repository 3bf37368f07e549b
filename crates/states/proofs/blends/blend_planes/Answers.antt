-- `blend_planes` meets its contract: each way makes the row.
use Prim.Native.Nat.{ℕ}
use mathlib.Core.Path.{◌≡◌, refl, sym, subst}
use lib.ListN.{length}
use Rattle.states.specs.Rows.{BlendFits}
use Rattle.states.proofs.BlendLaws.{row_made}
use Rattle.states.proofs.blends.blend_planes.Goals as goal
use Rattle.states.proofs.blends.blend_planes.Goals.{Start}

-- what fits, where the number of planes is told
fits : (s : Start) (n : ℕ) → let a = s.args in a.planes ≡ n →
    BlendFits n a.pitch a.row.hi a.taps.t0 a.taps.t1 a.taps.t2 a.taps.to (length a.held.now)
fits s n e = let a = s.args in subst (λ (m : ℕ). BlendFits m a.pitch a.row.hi a.taps.t0 a.taps.t1 a.taps.t2 a.taps.to (length a.held.now)) e s.requires.blend_fits

pub fixed_run-requires : goal.fixed_run-requires
fixed_run-requires c =
    record { lo_le_hi = (c.requires.lo_le_hi.0, c.if-row-keys.true); blend_fits = fits (goal.at.fixed_run-requires c).Start 1 c.if-planes-eq1.true }

pub returns-then-planes-eq1 : goal.returns-then-planes-eq1
returns-then-planes-eq1 c =
    let r = c.fixed_run.ensures in let told = row_made _ _ _ _ _ _ _ _ _ _ _ _ _ r.1 (sym c.if-planes-eq1.true) r.0 in record { row_put = told.0; apart = told.1 }

pub fixed_run-requires-then-planes-eq3 : goal.fixed_run-requires-then-planes-eq3
fixed_run-requires-then-planes-eq3 c =
    record { lo_le_hi = (c.requires.lo_le_hi.0, c.if-row-keys.true); blend_fits = fits (goal.at.fixed_run-requires-then-planes-eq3 c).Start 3 c.if-planes-eq3.true }

pub returns-then-planes-eq3 : goal.returns-then-planes-eq3
returns-then-planes-eq3 c =
    let r = c.fixed_run-then-planes-eq3.ensures in let told = row_made _ _ _ _ _ _ _ _ _ _ _ _ _ r.1 (sym c.if-planes-eq3.true) r.0 in record { row_put = told.0; apart = told.1 }

pub several_run-requires : goal.several_run-requires
several_run-requires c = record { lo_le_hi = c.requires.lo_le_hi; blend_fits = c.requires.blend_fits }

pub returns : goal.returns
returns c =
    let r = c.several_run.ensures in let told = row_made _ _ _ _ _ _ _ _ _ _ _ _ _ r.1 refl r.0 in record { row_put = told.0; apart = told.1 }
