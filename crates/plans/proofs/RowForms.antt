-- The row that `row_of` answers: of a sound plan, wherever it has one, the row itself.
use Prim.Native.Nat.{ℕ, ◌+◌, ◌≤◌, ◌<◌}
use mathlib.Core.Path.{◌≡◌, refl, sym, ap, ◌∙◌}
use mathlib.Core.Bool.{Bool, true, false, cond, ◌&&◌}
use native.Mathlib.Omega.{arith}
use lib.Dec.{leb, ltb}
use borrow.Author.Tests.{lt-ltb, le-leb, ltb-true, leb-true}
use Rattle.plans.specs.Plans.{order_of, row_lo, row_hi, row_at, rows_in, is_small, row_of, Sound}
use Rattle.plans.specs.declared.plan.Plan.{Plan}
use Rattle.plans.specs.declared.plan.Row.{Row}
use Rattle.plans.proofs.PlanSizes.{rows_few}
use Rattle.plans.proofs.FormFacts.{both}

module _ (p : Plan) (e m : ℕ) where
  pub small_4 : e < 65536 → m < 65536 → p.origin < 65536 → leb p.across 1024 ≡ is_small p e m
  unfolding is_small
  small_4 a b d = rw (lt-ltb e 65536 a, lt-ltb m 65536 b, lt-ltb p.origin 65536 d) refl

  pub row_none : is_small p e m ≡ false → record { lo = 0; hi = 0; at = 0 } ≡ row_of p e m
  unfolding row_of
  row_none a = rw a refl

  pub row_some : (r : Row) → is_small p e m ≡ true → r.lo ≡ row_lo p e m → r.hi ≡ row_hi p e m → r.at ≡ row_at p e m → r ≡ row_of p e m
  unfolding row_of
  row_some r a l h k = rw a (λ j. record { lo = l j; hi = h j; at = k j })

  -- ---- the row of a sound plan

  pub row_told : (r : Row) → Sound p → e < 65536 → m < rows_in p e → r ≡ row_of p e m → (r.lo ≡ row_lo p e m) × (r.hi ≡ row_hi p e m) × (r.at ≡ row_at p e m)
  unfolding row_of
  row_told r s a h t =
      let small : is_small p e m ≡ true =
      sym (small_4 a (omega (arith, rows_few p e, s.few_rows)) s.near_origin) ∙ le-leb p.across 1024 s.few_across in
      let t' : r ≡ record { lo = row_lo p e m; hi = row_hi p e m; at = row_at p e m } = rw small at t in
      (ap (λ (q : Row). q.lo) t', ap (λ (q : Row). q.hi) t', ap (λ (q : Row). q.at) t')

  -- what small numbers are
  pub record Small : Type 0 where
    pub state : e < 65536
    pub row : m < 65536
    pub origin : p.origin < 65536
    pub across : p.across ≤ 1024

  pub small_facts : is_small p e m ≡ true → Small
  unfolding is_small
  small_facts t =
      let states = ltb e 65536 in
      let rows = ltb m 65536 in
      let origins = ltb p.origin 65536 in
      let d = both (states && rows && origins) (leb p.across 1024) t in
      let b = both (states && rows) origins d.0 in
      let a = both states rows b.0 in
      record {
        state = ltb-true e 65536 a.0;
        row = ltb-true m 65536 a.1;
        origin = ltb-true p.origin 65536 b.1;
        across = leb-true p.across 1024 d.1;
      }

  pub order_small : order_of p e m ≤ e + m
  unfolding order_of
  order_small = go p.still
    where
      go : (b : Bool) → cond b e (e + m) ≤ e + m
      go true = omega arith
      go false = omega arith
