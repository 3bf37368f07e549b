-- The far end of a walk from the picked pixel. A walk that counts is found at its last pixel, whose row tells so; so what is picked among the pixels of
-- so many steps belongs to such a walk, and a path may end there.
use Prim.Native.Nat.{ℕ, ◌+◌, ◌-◌, ◌≤◌, ◌<◌}
use mathlib.Core.Path.{◌≡◌, refl, sym, ap, subst, ◌∙◌}
use mathlib.Core.Bool.{Bool, true, false, cond, true≢false}
use mathlib.Core.List.{List}
use native.Mathlib.Omega.{arith}
use lib.IntN.{ℤ}
use Rattle.std.specs.Prelude.{Option, Some, IsSome}
use Rattle.theory.proofs.Towards.{towards_find}
use Rattle.plans.specs.Plans.{line_at, rows_in, steps_at}
use Rattle.states.specs.States.{Holds}
use Rattle.stacks.specs.Stacks.{KeysAre}
use Rattle.directions.specs.Numbers.{pixel_in}
use Rattle.directions.proofs.TraceRows.{HasRow}
use Rattle.frames.specs.Frames.{place_in}
use Rattle.tracing.specs.Scans.{bit_of, key_of}
use Rattle.tracing.proofs.Scanned.{Sound}
use Rattle.tracing.specs.Sights.{Seen, seen_at}
use Rattle.tracing.specs.Following.{Leads, Stands, EndsAt}
use Rattle.walks.specs.Picking.{Tells, PickedAt, Picked, OfSteps}
use Rattle.walks.specs.declared.stand.Stand.{Stand}
use Rattle.tracing.specs.declared.scan.Scan.{Scan}
use Rattle.directions.specs.declared.sight.Sight.{Sight}
use Rattle.walks.specs.Endings.{ended_in}
use Rattle.theory.specs.Modes.{Levels}
use Rattle.walks.proofs.Picking.{picked_same, picked_there}
use Rattle.tracing.proofs.Modes.{keys_bounded}
use Rattle.tracing.proofs.Sighting.{sight_planes, sight_sound, sight_states_few}
use Rattle.tracing.proofs.SeenLaws.{side_keys, to_pixel, seen_ended, seen_first, seen_row}
use Rattle.walks.proofs.Endings.{ended_by, ended_held}
use Rattle.tracing.proofs.Nearing.{place_of}

module _ (s : Scan) (b : Bool) (plate : List ℤ) (x : ℕ) (r : Sight) (sound : Sound s) (view : Seen s b x r) where
  wanted_at : (ranked : Bool) (n e m : ℕ) → (ranked ≡ false → e ≡ 0) → cond ranked e m ≡ n → e ≡ cond ranked (n + 1) 1 - 1
  wanted_at true n e m first h = omega arith
  wanted_at false n e m first h = first refl

  wanted_few : (ranked : Bool) (n e m : ℕ) → e < r.states → cond ranked e m ≡ n → cond ranked (n + 1) 1 ≤ r.states
  wanted_few true n e m h k = omega arith
  wanted_few false n e m h k = omega arith

  line_steps : (ranked : Bool) (e m : ℕ) → {n : ℕ} → ranked ≡ false → cond ranked e m ≡ n → m ≡ n
  line_steps true e m k h = absurd (true≢false k)
  line_steps false e m k h = h

  pub wanted_some : (ranked : Bool) (n : ℕ) → 1 ≤ cond ranked (n + 1) 1
  wanted_some true n = omega arith
  wanted_some false n = omega arith

  module _ (levels : Levels plate) (t n j : ℕ) (positive : 1 ≤ t) (short : n ≤ s.steps) (few : j ≤ s.setting.gaps)
      (leads : Leads s.slack s.width s.height (bit_of s) b (key_of s plate) t s.spare n j x) where
    -- the keys of the side
    abbrev keys : ℕ → ℕ
    keys = side_keys s sound b x r view plate levels

    -- there is one
    pub record End : Type 0 where
      pub state : ℕ
      pub row : ℕ
      pub pixel : ℕ
      pub below : state < r.states
      pub steps : OfSteps r.plan n state row pixel
      pub tells : Tells (ended_by s.slack r.plan keys (seen_at s b plate x r)) r.plan j t state row pixel

    -- a pixel where a walk that counts may end has a row that tells so
    row_tells :
        (q i z : ℕ) → place_in r.frame i z ≡ q → (c : HasRow r.frame r.plan r.states n i z) → t ≤ to_pixel s sound b x r view plate levels n j q →
        Tells (ended_by s.slack r.plan keys (seen_at s b plate x r)) r.plan j t c.state c.row z
    row_tells q i z is c h =
        let told = seen_ended s sound b x r view plate levels c.state c.row j z c.row_below c.low c.high in
        let here : t ≤ to_pixel s sound b x r view plate levels (steps_at r.plan c.state c.row) j
        (pixel_in r.frame r.plan.ranked (line_at r.plan c.state c.row) z) = rw (c.steps, c.place, is) h in
        record { row = c.row_below; low = c.low; high = c.high; counts = omega (arith, told, here) }

    pub some_end : End
    some_end =
        let q =
        towards_find s.slack b s.width s.height (bit_of s) (key_of s plate) (keys_bounded s plate levels) x n j sound.few_slack leads.on t
        positive leads.counts in
        let h = seen_row s sound b x r view (key_of s plate) n j q.0 short q.1 (omega (arith, q.2)) in
        let c = h.3 in
        record {
          state = c.state;
          row = c.row;
          pixel = h.1;
          below = c.state_below;
          steps = (c.steps, λ k. seen_first s sound b x r view c.state c.state_below k);
          tells = row_tells q.0 h.0 h.1 h.2 c q.2;
        }

    pub end_few : cond r.plan.ranked (n + 1) 1 ≤ r.states
    end_few = wanted_few r.plan.ranked n some_end.state some_end.row some_end.below some_end.steps.0

    pub end_row : r.plan.ranked ≡ false → n < rows_in r.plan 0
    end_row k =
        let c = some_end in
        let m= : c.row ≡ n = line_steps r.plan.ranked c.state c.row k c.steps.0 in
        let e= : c.state ≡ 0 = c.steps.1 k in
        omega (arith, m=, subst (λ (e : ℕ). c.row < rows_in r.plan e) e= c.tells.row)

    -- what is picked
    module _ (work : List ℕ) (top want : ℕ) (found : Option Stand) (is-want : want ≡ cond r.plan.ranked (n + 1) 1)
        (held : Holds work top r.plan (want - 1) (seen_at s b plate x r (want - 1))) (kept : KeysAre work r.plan keys)
        (picked : Picked (OfSteps r.plan n) (ended_in work s.slack top r.plan) r.plan j t found) where
      -- by the numbers of the side instead of those of the buffer
      end_picked : Picked (OfSteps r.plan n) (ended_by s.slack r.plan keys (seen_at s b plate x r)) r.plan j t found
      end_picked =
          picked_same (OfSteps r.plan n) (ended_in work s.slack top r.plan) (ended_by s.slack r.plan keys (seen_at s b plate x r)) r.plan j t found
          (λ e m z row low high a.
          let e= : e ≡ want - 1 = wanted_at r.plan.ranked n e m a.1 a.0 ∙ ap (λ (k : ℕ). k - 1) (sym is-want) in
          ended_held r.plan (sight_sound s sound b x r view) s.slack top e work keys (seen_at s b plate x r)
          (omega (arith, e=, is-want, end_few, sight_states_few s sound b x r view)) (rw e= held) kept m j z row
          (omega (arith, sight_planes s sound b x r view)) low high)
          picked

      -- there is one
      pub end_there : IsSome found
      end_there = let c = some_end in picked_there _ _ _ _ _ found end_picked c.state c.row c.pixel c.steps c.tells

      module _ (end : Stand) (is : found ≡ Some end) where
        end_told : PickedAt (OfSteps r.plan n) (ended_by s.slack r.plan keys (seen_at s b plate x r)) r.plan j t end
        end_told = rw is at end_picked

        pub end_stands : Stands s b plate x r t n end
        end_stands =
            let f = end_told in
            let e= : end.state ≡ cond r.plan.ranked (n + 1) 1 - 1 = wanted_at r.plan.ranked n end.state end.row f.among.1 f.among.0 in
            record {
              state = omega (arith, e=, end_few, wanted_some r.plan.ranked n);
              steps = f.among.0;
              gaps = omega (arith, f.is_gaps);
              tells =
                  rw f.is_gaps
                  (record { row = f.tells.row; low = f.tells.low; high = f.tells.high; counts = omega (arith, f.tells.counts) });
            }

        -- and a path may end there
        pub end_ends : EndsAt s plate t (place_of r end)
        end_ends = omega (arith, end_told.tells.counts)

        pub end_gaps : end.gaps ≡ j
        end_gaps = end_told.is_gaps
