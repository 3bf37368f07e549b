-- `start_row` meets its contract, case by case: the slot is zeros, and the walks start in it where they may.
use mathlib.Core.Logic.{inl, inr}
use native.Mathlib.Omega.{arith}
use Prim.Native.Nat.{ℕ, ◌+◌}
use Rattle.plans.specs.Plans.{block_of}
use Rattle.eights.specs.Turned.{numbers}
use Rattle.states.specs.Runs.{Between}
use Rattle.eights.proofs.TurnedLaws.{turned_high}
use Rattle.states.proofs.TurnedLaws.{numbers_filled}
use Rattle.states.proofs.PlaneLaws.{apart_run, apart_then}
use Rattle.states.proofs.RowLaws.{zeros_held, started_held, starts_not_in, starts_not_at, starts_at_lem, starts_anywhere}
use Rattle.states.proofs.rows.start_row.Goals as goal
use Rattle.states.proofs.rows.start_row.Goals.{After-fill_run, Start}

abbrev start : (f : After-fill_run) → Start
start f = (goal.at.After-fill_run f).Start

-- the slot is zeros
zeros : (f : After-fill_run) → let a = f.args in
    Between (λ (k : ℕ). 0) (numbers a.held.now) (numbers f.fill_run.new.to) a.slot (a.slot + block_of a.plan)
zeros f = numbers_filled _ _ _ _ _ _ f.fill_run.ensures f.requires.1 (turned_high 32768 (omega arith))

pub returns-then-m-gt0 : goal.returns-then-m-gt0
returns-then-m-gt0 c =
    let r = c.requires.0 in
    let z = zeros (goal.at.returns-then-m-gt0 c).After-fill_run in record {
      row_held = zeros_held _ _ _ c.args.plan _ _ _ r.ordered r.wide z
          (λ j x a b. starts_not_in c.args.plan _ x _ c.if-plan.true c.if-m-gt0.true);
      apart = apart_run _ _ _ _ _ _ _ z (omega arith) (omega arith);
    }

pub returns-then-plan-row : goal.returns-then-plan-row
returns-then-plan-row c =
    let r = c.requires.0 in
    let z = zeros (goal.at.returns-then-plan-row c).After-fill_run in record {
      row_held = zeros_held _ _ _ c.args.plan _ _ _ r.ordered r.wide z
          (λ j x a b. starts_not_at c.args.plan _ x _ c.if-plan.true (λ e. omega (arith, e, a, c.if-plan-row.true)));
      apart = apart_run _ _ _ _ _ _ _ z (omega arith) (omega arith);
    }

pub returns-then-plan-row-2 : goal.returns-then-plan-row-2
returns-then-plan-row-2 c =
    let r = c.requires.0 in
    let z = zeros (goal.at.returns-then-plan-row-2 c).After-fill_run in record {
      row_held = zeros_held _ _ _ c.args.plan _ _ _ r.ordered r.wide z
          (λ j x a b. starts_not_at c.args.plan _ x _ c.if-plan.true (λ e. omega (arith, e, b, c.if-plan-row-2.true)));
      apart = apart_run _ _ _ _ _ _ _ z (omega arith) (omega arith);
    }

pub start_run-requires : goal.start_run-requires
start_run-requires c =
    record { le_planes = omega (arith, c.requires, c.fill_run.auto.to, c.if-plan-row.false, c.if-plan-row-2.false); slot_of = omega (arith, c.requires, c.fill_run.auto.to, c.if-plan-row.false, c.if-plan-row-2.false) }

pub returns-then-plan : goal.returns-then-plan
returns-then-plan c =
    let t = c.start_run.ensures in
    let r = c.requires.0 in
    let z = zeros (goal.at.returns-then-plan c).After-fill_run in
    let lone = c.if-plan.true in record {
      row_held = started_held _ _ _ c.args.plan _ _ _ r.ordered r.wide z _ _ _ _ t c.if-plan-row.false (omega (arith, c.if-plan-row-2.false))
          (λ j x a b. starts_at_lem c.args.plan _ x _ lone (omega (arith, c.if-m-gt0.false)) (omega (arith, a, b)))
          (λ j x a b o. starts_not_at c.args.plan _ x _ lone (λ e. elim o [ inl u ↦ omega (arith, u, e) | inr u ↦ omega (arith, u, e) ]));
      apart = apart_then _ _ _ _ _ (apart_run _ _ _ _ _ _ _ z (omega arith) (omega arith)) t.apart;
    }

pub returns : goal.returns
returns c =
    let t = c.start_run-2.ensures in
    let r = c.requires.0 in
    let z = zeros (goal.at.returns c).After-fill_run in record {
      row_held = started_held _ _ _ c.args.plan _ _ _ r.ordered r.wide z _ _ _ _ t (omega arith) (omega arith)
          (λ j x a b. starts_anywhere c.args.plan _ x _ c.if-plan.false)
          (λ j x a b o. elim o [ inl u ↦ absurd (omega arith) | inr u ↦ absurd (omega arith) ]);
      apart = apart_then _ _ _ _ _ (apart_run _ _ _ _ _ _ _ z (omega arith) (omega arith)) t.apart;
    }
