-- More of a side as it is seen from the picked pixel (Sighting has its sizes and states): where its pixels lie, which row a number has that is not 0,
-- and where its steps lead.
use Prim.Native.Nat.{ℕ, suc, ◌+◌, ◌*◌, ◌≤◌, ◌<◌, min}
use mathlib.Core.Path.{◌≡◌, ap, subst, ◌∙◌}
use mathlib.Core.Bool.{Bool, false}
use mathlib.Core.List.{List}
use mathlib.Core.Logic.{⊎_elim}
use native.Mathlib.Omega.{arith}
use lib.Dec.{eqb}
use lib.IntN.{ℤ}
use Rattle.theory.proofs.WalksTo.{from_more_gaps}
use Rattle.theory.proofs.Towards.{towards, ended_towards}
use Rattle.frames.specs.Frames.{place_in}
use Rattle.plans.specs.Plans.{line_at, row_lo, row_hi, row_at, rows_in, steps_at}
use Rattle.directions.specs.Numbers.{number_at, pixel_in, place_kept}
use Rattle.directions.specs.Plans.{by_rows}
use Rattle.directions.proofs.TraceRows.{HasRow, trace_first}
use Rattle.directions.proofs.TracePlans.{PixelOn, trace_pixels}
use Rattle.directions.proofs.TraceTaps.{Tap, Leads, first_tap, second_tap, third_tap}
use Rattle.tracing.specs.Scans.{bit_of, key_of}
use Rattle.tracing.proofs.Scanned.{Sound}
use Rattle.tracing.specs.Sights.{Seen, seen_at}
use Rattle.tracing.specs.declared.scan.Scan.{Scan}
use Rattle.directions.specs.declared.sight.Sight.{Sight}
use Rattle.theory.specs.Modes.{Levels}
use Rattle.theory.specs.Walks.{around, opposite}
use Rattle.tracing.proofs.Modes.{keys_bounded}
use Rattle.tracing.proofs.Sighting.{sight_slack, sight_rows}
use Rattle.walks.proofs.Endings.{ended_by}
use Rattle.theory.specs.BestWalks.{ended, best_walk_to}

module _ (s : Scan) (sound : Sound s) (b : Bool) (x : ℕ) (r : Sight) (view : Seen s b x r) where
  abbrev rows : Bool
  rows = by_rows s.width s.height s.index

  pub seen_pixels :
      (e m z : ℕ) → m < rows_in r.plan e → row_lo r.plan e m ≤ z → z < row_hi r.plan e m → PixelOn r.frame r.plan s.width s.height e m z
  seen_pixels =
      rw view.is_plan
      (trace_pixels r.frame s.width s.height s.index view.framed view.of rows (opposite b) (s.steps + 1) (s.setting.gaps + 1) view.spot x
      view.is_spot)

  -- what is told of a pixel of a row, no more than a path may end there, is what the walks from the picked pixel count for that end there
  module _ (plate : List ℤ) (levels : Levels plate) where
    abbrev pub side_keys : ℕ → ℕ
    side_keys q = key_of s plate (place_kept r.frame r.plan.ranked q)

    abbrev pub to_pixel : ℕ → ℕ → ℕ → ℕ
    to_pixel n j q = ended_towards s.slack b s.width s.height (bit_of s) (key_of s plate) (keys_bounded s plate levels) x n j q

    pub seen_ended : (e m j z : ℕ) → m < rows_in r.plan e → row_lo r.plan e m ≤ z → z < row_hi r.plan e m →
        ended_by s.slack r.plan (λ q. key_of s plate (place_kept r.frame r.plan.ranked q)) (seen_at s b plate x r) e m j z
        ≡ ended_towards s.slack b s.width s.height (bit_of s) (key_of s plate) (keys_bounded s plate levels) x (steps_at r.plan e m) j
        (pixel_in r.frame r.plan.ranked (line_at r.plan e m) z)
    unfolding number_at
    seen_ended e m j z row low high =
        let n : ℕ = steps_at r.plan e m in
        let q : ℕ = pixel_in r.frame r.plan.ranked (line_at r.plan e m) z in
        let walks : ℕ → ℕ = λ c. best_walk_to c (around (opposite b) s.width s.height (bit_of s)) (key_of s plate) (λ p. eqb p x) n j q in
        ap (λ (c : ℕ). min (walks c) (ended s.slack (side_keys (row_at r.plan e m + z)))) (sight_slack s sound b x r view)
        ∙ ap (λ (p : ℕ). min (walks 65535) (ended s.slack (key_of s plate p))) (seen_pixels e m z row low high).key_place

  -- where there are no ranks there is one state
  pub seen_first : (e : ℕ) → e < r.states → r.plan.ranked ≡ false → e ≡ 0
  seen_first e h k =
      trace_first r.frame rows (opposite b) (s.steps + 1) (s.setting.gaps + 1) view.spot e (rw view.is_states at h) (rw view.is_plan at k)

  -- a number that is not 0 has its row
  pub seen_row :
      (g : ℕ → ℕ) (n j q : ℕ) → n ≤ s.steps → q < s.width * s.height → 1 ≤ towards b s.width s.height (bit_of s) g x n j q →
      (i : ℕ) × (z : ℕ) × (place_in r.frame i z ≡ q) × HasRow r.frame r.plan r.states n i z
  seen_row g n j q few on some =
      let w = view.framed.whole q on in (
        w.0,
        w.1,
        w.4,
        ⊎_elim
            (λ none. absurd (omega (arith, some, subst (λ (p : ℕ). towards b s.width s.height (bit_of s) g x n j p ≡ 0) w.4 (none j))))
            (λ h. h)
            (sight_rows s sound b x r view g n w.0 w.1 few w.2 w.3),
      )

  pub seen_more_gaps :
      (plate : List ℤ) → Levels plate → (e m j z : ℕ) → seen_at s b plate x r e m j z ≤ seen_at s b plate x r e m (suc j) z
  unfolding number_at
  seen_more_gaps plate levels e m j z =
      from_more_gaps r.plan.slack (around (opposite b) s.width s.height (bit_of s)) (key_of s plate) (λ p. eqb p x) _ j _

  -- ---- the three steps

  module _ (e m z e' m' z' : ℕ) where
    pub seen_tap_0 :
        Tap r.plan r.plan.reach.y0 r.plan.reach.x0 e m z e' m' z' →
        Leads r.frame r.plan (opposite b) s.width s.height s.index e m z e' m' z'
    seen_tap_0 =
        rw view.is_plan
        (first_tap r.frame s.width s.height s.index view.framed rows (opposite b) (s.steps + 1) (s.setting.gaps + 1) view.spot x
        view.is_spot e m z e' m' z')

    pub seen_tap_1 :
        Tap r.plan r.plan.reach.y1 r.plan.reach.x1 e m z e' m' z' →
        Leads r.frame r.plan (opposite b) s.width s.height s.index e m z e' m' z'
    seen_tap_1 =
        rw view.is_plan
        (second_tap r.frame s.width s.height s.index view.framed rows (opposite b) (s.steps + 1) (s.setting.gaps + 1) view.spot x
        view.is_spot e m z e' m' z')

    pub seen_tap_2 :
        Tap r.plan r.plan.reach.y2 r.plan.reach.x2 e m z e' m' z' →
        Leads r.frame r.plan (opposite b) s.width s.height s.index e m z e' m' z'
    seen_tap_2 =
        rw view.is_plan
        (third_tap r.frame s.width s.height s.index view.framed rows (opposite b) (s.steps + 1) (s.setting.gaps + 1) view.spot x
        view.is_spot e m z e' m' z')
