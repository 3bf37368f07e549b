-- `run_on` meets its contract: the first states are made of the one at `from`, and each further ones of the one before, in its place.
use Prim.Native.Nat.{ℕ, ◌+◌, ◌-◌, ◌≤◌}
use mathlib.Core.Path.{◌≡◌, refl, subst, ◌∙◌}
use mathlib.Core.Logic.{inl, inr}
use native.Mathlib.Omega.{arith}
use lib.ListN.{length}
use Rattle.plans.specs.Plans.{state_size, keys_size}
use Rattle.stacks.specs.Stacks.{RunOn}
use Rattle.plans.proofs.FormLaws.{well_formed_sound}
use Rattle.stacks.proofs.StackLaws.{run_more, from_fits, from_clear, half_fewer}
use Rattle.stacks.proofs.stack.run_on.Goals as goal
use Rattle.stacks.proofs.stack.run_on.Goals.{After-advance, Start}

-- ---- what is known of the call
fits : (s : Start) → let a = s.args in
    (keys_size a.followed.plan ≤ a.to) × (a.from + state_size a.followed.plan ≤ length a.work.now)
fits s =
    let a = s.args in
    from_fits a.from a.to (state_size a.followed.plan) (keys_size a.followed.plan) (length a.work.now) s.requires.first_lt_past.2 s.requires.first_lt_past.3 s.requires.fact

pub loop-e-init : goal.loop-e-init
loop-e-init c =
    let f = fits (goal.at.loop-e-init c).Start in
    (refl, c.requires.first_lt_past.0, (c.requires.first_lt_past.2, f.1), c.requires.fact, inl (refl, refl, refl))

pub advance-requires-clause-first_lt_past : goal.advance-requires-clause-first_lt_past
advance-requires-clause-first_lt_past c =
    let i = c.loop-e.invariant in
    let f = fits (goal.at.advance-requires-clause-first_lt_past c).Start in (
      omega (arith, i.1, c.min.ensures, c.at_once-count.ensures.lower_bound),
      omega (arith, c.min.ensures, c.requires.first_lt_past.1),
      i.2.0,
      f.0,
      omega (arith, i.2.1, c.loop-e.auto.work),
      omega (arith, c.requires.first_lt_past.3, c.loop-e.auto.work),
    )

pub advance-requires-clause-fact : goal.advance-requires-clause-fact
advance-requires-clause-fact c = from_clear c.loop-e.before c.args.to (state_size c.args.followed.plan) c.loop-e.invariant.3

-- so many states find room among the held rows as are made at once
pub advance-requires-clause-states_in_bounds : goal.advance-requires-clause-states_in_bounds
advance-requires-clause-states_in_bounds c =
    let i = c.loop-e.invariant in (
      half_fewer c.args.followed.plan _ (c.at_once-count.result - 1) _ (omega (arith, c.min.ensures)) (omega (arith, i.0, c.at_once-count.ensures.lower_bound.2)),
      omega (arith, i.0, c.requires.plan_in_bounds.1),
    )

-- the states below any number up to which they were just made
done : (s : After-advance) (n : ℕ) → let a = s.args in s.min.result ≡ n → RunOn a.followed.plan a.first n a.work.now s.advance.new.work a.from a.to
done s n e =
    let a = s.args in
    let i = s.loop-e.invariant in
    subst (λ (m : ℕ). RunOn a.followed.plan a.first m a.work.now s.advance.new.work a.from a.to) e
    (run_more a.followed.plan (well_formed_sound _ s.args.followed.formed) a.first s.loop-e.e s.min.result a.from a.to s.loop-e.before a.work.now s.loop-e.work s.advance.new.work
    (omega (arith, i.1, s.min.ensures)) (omega (arith, s.min.ensures, s.requires.first_lt_past.1)) (fits (goal.at.After-advance s).Start).0 i.4 s.advance.ensures.advanced)

pub loop-e-preserved : goal.loop-e-preserved
loop-e-preserved c =
    let f = fits (goal.at.loop-e-preserved c).Start in (
      c.advance.ensures.held_len_unchanged ∙ c.loop-e.invariant.0,
      omega arith,
      (f.0, c.requires.first_lt_past.3),
      inl refl,
      inr (refl, done (goal.at.loop-e-preserved c).After-advance _ (omega (arith, c.min.ensures))),
    )

pub returns-clause-run_on : goal.returns-clause-run_on
returns-clause-run_on c = absurd (omega (arith, c.loop-e.invariant.1, c.loop-e-test.false))

pub returns-2-clause-run_on : goal.returns-2-clause-run_on
returns-2-clause-run_on c = done (goal.at.returns-2-clause-run_on c).After-advance _ (omega (arith, c.min.ensures))
