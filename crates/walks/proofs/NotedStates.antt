-- The states of a side, made one after the other in one place and noted: whatever numbers they hold, the notes have risen to all of them.
use Prim.Native.Nat.{ℕ, ◌+◌, ◌-◌, ◌≤◌, ◌<◌}
use mathlib.Core.Path.{◌≡◌, sym, subst}
use mathlib.Core.List.{List}
use mathlib.Core.Logic.{◌⊎◌, inl, inr, ⊎_elim}
use native.Mathlib.Omega.{arith}
use Rattle.basics.proofs.Numbers.{le_or_lt}
use Rattle.plans.specs.Plans.{Sound, rows_in, row_lo, row_hi, state_size, keys_size}
use Rattle.plans.specs.declared.plan.Plan.{Plan}
use Rattle.states.specs.Runs.{Apart}
use Rattle.states.specs.States.{LastHolds, Advanced}
use Rattle.stacks.specs.Stacks.{KeysAre, Sequence}
use Rattle.states.proofs.PlaneLaws.{apart_none, apart_then}
use Rattle.stacks.proofs.StackLaws.{keys_apart, made, last_made}
use Rattle.walks.specs.Noting.{Lifted, FromState}
use Rattle.walks.specs.Endings.{ended_in}
use Rattle.walks.proofs.Endings.{ended_by, ended_held}
use Rattle.walks.proofs.Lifting.{lifted_then, lifted_none, lifted_same}
use Rattle.walks.proofs.Noting.{row_same}

-- v is a number of one of the first states
pub record FromSide (p : Plan) (f : ℕ → ℕ → ℕ → ℕ → ℕ) (states q v : ℕ) : Type 0 where
  pub state : ℕ
  pub state_below : state < states
  pub number : FromState p (f state) state (rows_in p state) q v

-- the same numbers of a state
state_same :
    (p : Plan) (f g : ℕ → ℕ → ℕ → ℕ) (e q v : ℕ) →
    ((m j x : ℕ) → m < rows_in p e → j < p.planes → row_lo p e m ≤ x → x < row_hi p e m → f m j x ≡ g m j x) →
    FromState p f e (rows_in p e) q v → FromState p g e (rows_in p e) q v
state_same p f g e q v same s =
    record {
      row = s.row;
      row_below = s.row_below;
      number = row_same _ _ _ _ _ _ q v (λ j x hj lo hi. same s.row j x s.row_below hj lo hi) s.number;
    }

module _ (p : Plan) (f : ℕ → ℕ → ℕ → ℕ → ℕ) (e : ℕ) where
  side_split : (q v : ℕ) → FromSide p f (e + 1) q v → FromSide p f e q v ⊎ FromState p (f e) e (rows_in p e) q v
  side_split q v s =
      ⊎_elim
      (λ l.
      let same : s.state ≡ e = omega (arith, s.state_below) in
      inr (subst (λ (n : ℕ). FromState p (f n) n (rows_in p n) q v) same s.number))
      (λ l. inl (record { state = s.state; state_below = l; number = s.number }))
      (le_or_lt e s.state)

  side_lifted_more :
      (slack base : ℕ) (work old mid new : List ℕ) →
      ((m j x : ℕ) → m < rows_in p e → j < p.planes → row_lo p e m ≤ x → x < row_hi p e m → ended_in work slack base p e m j x ≡ f e m j x) →
      Lifted (FromSide p f e) old mid → Lifted (FromState p (ended_in work slack base p e) e (rows_in p e)) mid new →
      Lifted (FromSide p f (e + 1)) old new
  side_lifted_more slack base work old mid new same d n =
      lifted_then _ _ _ old mid new side_split
      (λ q v s. record { state = s.state; state_below = omega (arith, s.state_below); number = s.number })
      (λ q v s. record { state = e; state_below = omega arith; number = s })
      d
      (lifted_same _ _ mid new
      (λ q v s. state_same p _ _ e q v same s)
      (λ q v s. state_same p _ _ e q v (λ m j x hm hj lo hi. sym (same m j x hm hj lo hi)) s)
      n)

-- the first e states are made one after the other and noted, whatever they are
pub record SideNoted (p : Plan) (slack states base e : ℕ) (work₀ work notes₀ notes : List ℕ) : Type 0 where
  pub is : (keys : ℕ → ℕ) (f : ℕ → ℕ → ℕ → ℕ → ℕ) → KeysAre work₀ p keys → Sequence p keys states f →
      LastHolds work base p e (f (e - 1)) × Lifted (FromSide p (ended_by slack p keys f) e) notes₀ notes
  pub apart : Apart work₀ work base (base + state_size p)

pub side_none : (p : Plan) (slack states base : ℕ) (work notes : List ℕ) → SideNoted p slack states base 0 work work notes notes
side_none p slack states base work notes =
    record {
      is = λ keys f k s. (record { is = λ d l e. absurd (omega arith) }, lifted_none _ notes (λ q v s. omega (arith, s.state_below)));
      apart = apart_none work base (base + state_size p);
    }

pub side_more :
    (p : Plan) → Sound p → (slack states base e : ℕ) (work₀ work work' notes₀ notes notes' : List ℕ) → e < 65536 → e < states → keys_size p ≤ base →
    SideNoted p slack states base e work₀ work notes₀ notes → Advanced p e (e + 1) work work' base base →
    Lifted (FromState p (ended_in work' slack base p e) e (rows_in p e)) notes notes' → SideNoted p slack states base (e + 1) work₀ work' notes₀ notes'
side_more p sound slack states base e work₀ work work' notes₀ notes notes' few below clear d a n =
    let both = apart_then work₀ work work' base (base + state_size p) d.apart a.apart in
    record {
      is = λ keys f k s.
          let before = d.is keys f k s in
          let held =
          made p sound work work' keys states e base base f few below a (keys_apart p sound work₀ work keys base (base + state_size p) d.apart
          clear k) s before.0 in
          let kept = keys_apart p sound work₀ work' keys base (base + state_size p) both clear k in (
            last_made p sound work' base e f held,
            side_lifted_more p (ended_by slack p keys f) e slack base work' notes₀ notes notes'
                (ended_held p sound slack base e work' keys f few held kept) before.1 n,
          );
      apart = both;
    }
