-- One step nearer to the picked pixel. Whatever pixel is found at the sources of a number that is at least t belongs to a walk that counts at t and has a
-- step fewer; and the pixel that was left is a neighbour of it. With no steps left the pixel is the picked one.
use Prim.Native.Nat.{ℕ, suc, ◌+◌, ◌-◌, ◌*◌, ◌≤◌, ◌<◌}
use mathlib.Core.Path.{◌≡◌, refl, sym, subst, ◌∙◌}
use mathlib.Core.Bool.{Bool, true, false, cond}
use mathlib.Core.List.{List, Memᴰ}
use mathlib.Core.Logic.{⊎_elim}
use native.Mathlib.Omega.{arith}
use lib.Dec.{eqb}
use lib.IntN.{ℤ}
use Rattle.std.specs.Prelude.{Option, IsSome}
use borrow.Author.Tests.{eqb-true}
use Rattle.theory.proofs.WalksTo.{from_last}
use Rattle.theory.proofs.Towards.{turn_opposite}
use Rattle.plans.specs.Plans.{line_at, row_lo, row_hi, row_at, rows_in, steps_at}
use Rattle.directions.specs.Numbers.{pixel_in, number_at, place_kept}
use Rattle.directions.proofs.TraceTaps.{Leads}
use Rattle.tracing.specs.Scans.{bit_of, key_of}
use Rattle.tracing.proofs.Scanned.{Sound}
use Rattle.tracing.specs.Sights.{Seen, seen_at}
use Rattle.tracing.specs.Following.{Stands}
use Rattle.walks.specs.Picking.{Tells, PickedAt, Picked, StepTo, OnRow}
use Rattle.walks.specs.declared.stand.Stand.{Stand}
use Rattle.tracing.specs.declared.scan.Scan.{Scan}
use Rattle.directions.specs.declared.sight.Sight.{Sight}
use Rattle.theory.specs.BestWalks.{under, best_walk_to}
use Rattle.theory.specs.Modes.{Levels}
use Rattle.theory.specs.Walks.{around, opposite}
use Rattle.walks.proofs.Picking.{picked_there}
use Rattle.tracing.proofs.Sources.{Source, to_tap, source, later_row}
use Rattle.tracing.proofs.Sighting.{sight_planes, sight_across, sight_sound, sight_states_few, sight_sequence}
use Rattle.tracing.proofs.SeenLaws.{seen_pixels, seen_first, seen_more_gaps, seen_tap_0, seen_tap_1, seen_tap_2}

-- the place of a stand
abbrev pub place_of : Sight → Stand → ℕ
place_of r stand = place_kept r.frame r.plan.ranked (row_at r.plan stand.state stand.row + stand.pixel)

-- a stand with other gaps
abbrev pub with_gaps : Stand → ℕ → Stand
with_gaps stand j = record { state = stand.state; row = stand.row; pixel = stand.pixel; gaps = j }

module _ (s : Scan) (b : Bool) (plate : List ℤ) (x : ℕ) (r : Sight) (sound : Sound s) (levels : Levels plate) (view : Seen s b x r)
    (t : ℕ) (positive : 1 ≤ t) (n : ℕ) (stand : Stand) (d : Stands s b plate x r t n stand) where
  abbrev W : ℕ
  W = s.width

  abbrev H : ℕ
  H = s.height

  pub stand_small : stand.state < 65536
  stand_small = omega (arith, d.state, sight_states_few s sound b x r view)

  stand_few : stand.gaps < r.plan.planes
  stand_few = omega (arith, d.gaps, sight_planes s sound b x r view)

  stand_pixel : stand.pixel < r.plan.across
  stand_pixel =
      omega (
        arith,
        (seen_pixels s sound b x r view stand.state stand.row stand.pixel d.tells.row d.tells.low d.tells.high).column,
        sight_across s sound b x r view,
      )

  pub stand_row : (j : ℕ) → j ≤ stand.gaps → OnRow r.plan (with_gaps stand j)
  stand_row j h = record { state = stand_small; row = d.tells.row; pixel = stand_pixel; gaps = omega (arith, stand_few) }

  -- its place
  place_is : place_of r stand ≡ pixel_in r.frame r.plan.ranked (line_at r.plan stand.state stand.row) stand.pixel
  place_is = (seen_pixels s sound b x r view stand.state stand.row stand.pixel d.tells.row d.tells.low d.tells.high).key_place

  pub stand_on : place_of r stand < W * H
  stand_on =
      omega (
        arith,
        place_is,
        (seen_pixels s sound b x r view stand.state stand.row stand.pixel d.tells.row d.tells.low d.tells.high).on_plate,
      )

  -- with no steps left it is the picked one
  pub stand_picked : n ≡ 0 → (place_of r stand ≡ x) × (under t (key_of s plate (place_of r stand)) ≤ stand.gaps)
  unfolding number_at
  stand_picked e =
      let q : ℕ = pixel_in r.frame r.plan.ranked (line_at r.plan stand.state stand.row) stand.pixel in
      let none : steps_at r.plan stand.state stand.row ≡ 0 = d.steps ∙ e in
      let h : t ≤ best_walk_to r.plan.slack (around (opposite b) W H (bit_of s)) (key_of s plate) (λ p. eqb p x) 0 stand.gaps q =
      subst (λ (k : ℕ). t ≤ best_walk_to r.plan.slack (around (opposite b) W H (bit_of s)) (key_of s plate) (λ p. eqb p x) k stand.gaps q) none d.tells.counts in
      let l = from_last r.plan.slack (around (opposite b) W H (bit_of s)) (key_of s plate) (λ p. eqb p x) t stand.gaps q positive h in
      (place_is ∙ eqb-true q x l.0, rw place_is l.1)

  -- where a step leads from it
  led : (j e m z : ℕ) → m < rows_in r.plan e → row_lo r.plan e m ≤ z → z < row_hi r.plan e m → StepTo r.plan (with_gaps stand j) e m z →
      Leads r.frame r.plan (opposite b) W H s.index stand.state stand.row stand.pixel e m z
  led j e m z row low high step =
      let c = r.plan.reach in
      ⊎_elim
      (λ k. seen_tap_0 s sound b x r view stand.state stand.row stand.pixel e m z
      (to_tap r.plan (with_gaps stand j) c.y0 c.x0 e m z d.tells.row d.tells.low d.tells.high row low high k))
      (λ k. ⊎_elim
      (λ k. seen_tap_1 s sound b x r view stand.state stand.row stand.pixel e m z
      (to_tap r.plan (with_gaps stand j) c.y1 c.x1 e m z d.tells.row d.tells.low d.tells.high row low high k))
      (λ k. seen_tap_2 s sound b x r view stand.state stand.row stand.pixel e m z
      (to_tap r.plan (with_gaps stand j) c.y2 c.x2 e m z d.tells.row d.tells.low d.tells.high row low high k))
      k)
      step

  -- the state that has the numbers there is the last of those that are wanted
  wanted_by : (ranked : Bool) → r.plan.ranked ≡ ranked → (j e m z : ℕ) → StepTo r.plan (with_gaps stand j) e m z →
      cond ranked stand.state stand.row ≡ suc (cond ranked e m) → e ≡ cond ranked stand.state 1 - 1
  wanted_by true k j e m z step fewer = omega arith
  wanted_by false k j e m z step fewer =
      let first = seen_first s sound b x r view stand.state d.state k in
      ⊎_elim (λ o. omega (arith, o.state)) (λ o. ⊎_elim (λ o. omega (arith, o.state)) (λ o. omega (arith, o.state)) o) step

  pub step_wanted : (j e m z : ℕ) → m < rows_in r.plan e → row_lo r.plan e m ≤ z → z < row_hi r.plan e m → StepTo r.plan (with_gaps stand j) e m z →
      e ≡ cond r.plan.ranked stand.state 1 - 1
  step_wanted j e m z row low high step = wanted_by r.plan.ranked refl j e m z step (led j e m z row low high step).fewer

  module _ (k : ℕ) (is-n : n ≡ suc k) where
    sources : (under t (key_of s plate (place_of r stand)) ≤ stand.gaps)
        × ((j : ℕ) → Source r.plan (seen_at s b plate x r) (with_gaps stand j) t (stand.gaps - under t (key_of s plate (place_of r stand))))
    sources =
        let at : (j : ℕ) → (under t (key_of s plate (place_of r stand)) ≤ stand.gaps)
        × Source r.plan (seen_at s b plate x r) (with_gaps stand j) t (stand.gaps - under t (key_of s plate (place_of r stand))) =
        λ j. source r.plan (sight_sound s sound b x r view) (seen_at s b plate x r) t positive (with_gaps stand j) stand_small d.tells.row
        d.tells.low d.tells.high (seen_more_gaps s sound b x r view plate levels)
        (λ q. key_of s plate (place_kept r.frame r.plan.ranked q)) stand.gaps
        ((sight_sequence s sound b x r view plate).grown stand.state d.state) stand_few
        (later_row r.plan stand.state stand.row k (d.steps ∙ is-n)) d.tells.counts in
        ((at 0).0, λ j. (at j).1)

    pub gap_left : under t (key_of s plate (place_of r stand)) ≤ stand.gaps
    gap_left = sources.0

    -- what is picked among the pixels to which a step leads
    module _ (left : ℕ) (is-left : left ≡ stand.gaps - under t (key_of s plate (place_of r stand))) where
      -- there is one
      pub nearer_there :
          (found : Option Stand) → Picked (StepTo r.plan (with_gaps stand left)) (seen_at s b plate x r) r.plan left t found → IsSome found
      nearer_there found picked =
          let c = sources.1 left in
          picked_there _ _ _ _ _ found picked c.state c.row c.pixel c.led
          (subst (λ (i : ℕ). Tells (seen_at s b plate x r) r.plan i t c.state c.row c.pixel) (sym is-left) c.tells)

      module _ (to : Stand) (picked : PickedAt (StepTo r.plan (with_gaps stand left)) (seen_at s b plate x r) r.plan left t to) where
        there : Leads r.frame r.plan (opposite b) W H s.index stand.state stand.row stand.pixel to.state to.row to.pixel
        there = led left to.state to.row to.pixel picked.tells.row picked.tells.low picked.tells.high picked.among

        earlier : to.state ≤ stand.state
        earlier =
            ⊎_elim (λ o. omega (arith, o.state)) (λ o. ⊎_elim (λ o. omega (arith, o.state)) (λ o. omega (arith, o.state)) o) picked.among

        pub nearer_stands : Stands s b plate x r t k to
        nearer_stands =
            record {
              state = omega (arith, earlier, d.state);
              steps = omega (arith, there.fewer, d.steps);
              gaps = omega (arith, picked.is_gaps, d.gaps);
              tells = rw picked.is_gaps picked.tells;
            }

        -- and the pixel that is left is a neighbour of the one that is come to
        pub nearer_place : Memᴰ (place_of r stand) (around b W H (bit_of s) (place_of r to))
        nearer_place =
            let on = (seen_pixels s sound b x r view to.state to.row to.pixel picked.tells.row picked.tells.low picked.tells.high).key_place in
            rw (place_is, on) (turn_opposite b W H (bit_of s) _ _ there.next)
