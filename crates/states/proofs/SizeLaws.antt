-- The room that rows take, and where in it a number is: what `omega` is given where products occur.
use Prim.Native.Nat.{ℕ, zero, suc, ◌+◌, ◌-◌, ◌*◌, ◌≤◌, ◌<◌}
use mathlib.Core.Path.{◌≡◌, refl, subst}
use mathlib.Core.Bool.{Bool, true, false}
use native.Mathlib.Nat.{mul-le-mul}
use native.Mathlib.Omega.{arith}
use Rattle.basics.proofs.Numbers.{rows_fit}
use Rattle.plans.specs.Plans.{Sound, rows_in, row_lo, row_hi, row_at, keys_size, half_of, half_with, block_of, row_size, state_size}
use Rattle.states.specs.Rows.{RowOf}
use Rattle.plans.specs.declared.plan.Plan.{Plan}
use Rattle.plans.specs.declared.plan.Row.{Row}
use Rattle.plans.proofs.PlanSizes.{rows_few}

pub row_small : (n a : ℕ) → n ≤ 9 → a ≤ 1024 → n * a ≤ 9216
row_small n a hn ha = mul-le-mul {n₁ = n} {m₁ = a} {n₂ = 9} {m₂ = 1024} hn ha

-- place X of run j lies in the room of n runs
pub in_block : (j n w X : ℕ) → j < n → X < w → j * w + X < n * w
in_block j n w X h l = omega (arith, rows_fit j 1 n w (omega arith))

-- a half is one held row, or two where states are linked
pub half_linked : (p : Plan) → p.linked ≡ true → half_of p ≡ block_of p + block_of p
unfolding half_of
half_linked p e = rw e

pub half_alone : (p : Plan) → p.linked ≡ false → half_of p ≡ block_of p
unfolding half_of
half_alone p e = rw e

pub half_room : (p : Plan) → block_of p ≤ half_of p
half_room p = go p.linked refl where
  go : (b : Bool) → p.linked ≡ b → block_of p ≤ half_of p
  go true e = omega (arith, half_linked p e)
  go false e = omega (arith, half_alone p e)

pub half_most : (p : Plan) → half_of p ≤ block_of p + block_of p
half_most p = go p.linked refl where
  go : (b : Bool) → p.linked ≡ b → half_of p ≤ block_of p + block_of p
  go true e = omega (arith, half_linked p e)
  go false e = omega (arith, half_alone p e)

-- the rows of b further states come before those of the first and of the last one
pub half_further : (p : Plan) (b more : ℕ) → b ≤ more → b * block_of p + half_of p ≤ half_with p more
half_further p b more h = omega (arith, rows_fit b 0 more (block_of p) (omega arith))

-- ---- the rows of a state

-- row m of a state lies within the room of a state
pub row_within : (p : Plan) (e m : ℕ) → m < rows_in p e → m * row_size p + row_size p ≤ state_size p
row_within p e m h = omega (arith, rows_fit m 1 p.rows (row_size p) (omega (arith, rows_few p e)))

-- what row m has, the state before has too
pub row_before_lem : (p : Plan) (e d m : ℕ) → Sound p → e ≡ suc d → m < rows_in p e → m < rows_in p d
row_before_lem p e d m sound ed h = omega (arith, sound.more d, subst (λ (q : ℕ). m < rows_in p q) ed h)

-- and so have all states before
pub row_earlier : (p : Plan) (e d m : ℕ) → Sound p → d ≤ e → m < rows_in p e → m < rows_in p d
row_earlier p e d m sound l h = go (e - d) d (omega arith) where
  go : (n d : ℕ) → d + n ≡ e → m < rows_in p d
  go zero d s = subst (λ (q : ℕ). m < rows_in p q) (let w : e ≡ d = omega arith in w) h
  go (suc n) d s = row_before_lem p (suc d) d m sound refl (go n (suc d) (omega arith))

pub row_fits : (p : Plan) (e m : ℕ) (r : Row) → Sound p → e < 65536 → m < rows_in p e → r.lo ≡ row_lo p e m → r.hi ≡ row_hi p e m → RowOf p r
row_fits p e m r sound he hm el eh =
    let fits = sound.fits e m hm he in
    record {
      ordered = omega (arith, fits.ordered);
      wide = omega (arith, fits.wide);
      few_across = sound.few_across;
      some_planes = sound.some_planes;
      few_planes = sound.few_planes;
    }

-- its keys are there
pub row_keyed : (p : Plan) (e m at : ℕ) → Sound p → e < 65536 → m < rows_in p e → at ≡ row_at p e m → at + p.across ≤ keys_size p
row_keyed p e m at sound he hm ea = omega (arith, (sound.fits e m hm he).keyed)
