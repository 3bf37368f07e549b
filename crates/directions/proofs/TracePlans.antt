-- The plans of a trace are well-formed, their states follow each other as `best_walk_to` does for the walks to the picked pixel alone, and they find room: a
-- trace has one of two kinds of plans, and what is known of each kind is told of the one that it has. Off the area of a trace, and too far on it, there
-- are no walks to the picked pixel.
use Prim.Native.Nat.{ℕ, ◌+◌, ◌-◌, ◌*◌, ◌^◌, ◌≤◌, ◌<◌, min}
use mathlib.Core.Path.{◌≡◌, refl, sym, ap, ◌∙◌}
use mathlib.Core.Bool.{Bool, true, false, cond, true≢false}
use mathlib.Core.Logic.{inl, inr, ⊎_elim}
use native.Mathlib.Omega.{arith}
use lib.Dec.{eqb}
use Rattle.frames.specs.Frames.{place_in, Bounded, Framed}
use Rattle.frames.specs.declared.frame.Frame.{Frame}
use Rattle.plans.specs.Plans.{line_at, row_lo, row_hi, row_at, rows_in, steps_at}
use Rattle.plans.specs.Forms.{well_formed}
use Rattle.stacks.specs.Stacks.{Sequence}
use Rattle.plans.specs.declared.plan.Plan.{Plan}
use Rattle.directions.specs.Numbers.{pixel_in, number_at, place_kept}
use Rattle.directions.specs.Plans.{straight_plan, ranked_plan, AreaOf, FrameOf}
use Rattle.directions.specs.Traces.{trace_area, trace_plan, trace_states, SpotOf}
use Rattle.directions.specs.declared.frame.Spot.{Spot}
use Rattle.theory.specs.BestWalks.{best_walk_to}
use Rattle.theory.specs.Walks.{around}
use Rattle.directions.proofs.GrownLaws.{Keyed, StartsBy}
use Rattle.directions.proofs.KeptLaws.{RowOn, PlanOn, kept_on, kept_inside, sized_straight, sized_ranked, on_straight, on_ranked}
use Rattle.directions.proofs.PlanForms.{straight_formed, ranked_formed}
use Rattle.directions.proofs.RankedLaws.{room_in, ranked_grown}
use Rattle.directions.proofs.RoomLaws.{Roomy, roomy}
use Rattle.directions.proofs.SpotRows.{InArea, Beside}
use Rattle.directions.proofs.StraightLaws.{straight_grown}
use Rattle.directions.proofs.TraceAreas.{trace_outside_lines, trace_outside_pixels, trace_too_far}
use Rattle.directions.proofs.TraceLaws.{trace_area_lem}
use Rattle.directions.proofs.TraceRows.{line_rows, rank_rows, trace_started, trace_first}

-- ---- which plan it is

-- as many states as a diagonal trace has
abbrev pub rank_states : Frame → Bool → ℕ → Spot → ℕ
rank_states r back L s =
    min L ((trace_area r back s).bottom - (trace_area r back s).top + ((trace_area r back s).right - (trace_area r back s).left) - 1)

-- what is told of both kinds is told of the one that a test chooses
choice : (P : Plan → ℕ → Type 0) (d : Bool) (a b : Plan) (x y : ℕ) → (d ≡ true → P a x) → (d ≡ false → P b y) → P (cond d a b) (cond d x y)
choice P true a b x y ranked straight = ranked refl
choice P false a b x y ranked straight = straight refl

below_first : (a b e : ℕ) → e < min a b → e < a
below_first a b e h = omega arith

area_slack : (r : Frame) (back : Bool) (s : Spot) → (trace_area r back s).slack ≡ 65535
area_slack r true s = refl
area_slack r false s = refl

module _ (r : Frame) (along_rows back : Bool) (L planes : ℕ) (s : Spot) where
  pub trace_choice : (P : Plan → ℕ → Type 0) →
      (r.diagonal ≡ true → P (ranked_plan r along_rows back (trace_area r back s) (rank_rows r back L s) planes) (rank_states r back L s)) →
      (r.diagonal ≡ false → P (straight_plan r back (trace_area r back s) (line_rows r back L s) planes) 1) →
      P (trace_plan r along_rows back L planes s) (trace_states r back L s)
  unfolding trace_plan trace_states
  trace_choice P ranked straight = choice P r.diagonal _ _ _ _ ranked straight

  -- ---- what the plan says of itself

  pub trace_planes : (trace_plan r along_rows back L planes s).planes ≡ planes
  trace_planes = trace_choice (λ (p : Plan) (n : ℕ). p.planes ≡ planes) (λ d. refl) (λ d. refl)

  pub trace_lines : (trace_plan r along_rows back L planes s).lines ≡ r.lines
  trace_lines = trace_choice (λ (p : Plan) (n : ℕ). p.lines ≡ r.lines) (λ d. refl) (λ d. refl)

  pub trace_across : (trace_plan r along_rows back L planes s).across ≡ r.across
  trace_across = trace_choice (λ (p : Plan) (n : ℕ). p.across ≡ r.across) (λ d. refl) (λ d. refl)

  pub trace_ranked : (trace_plan r along_rows back L planes s).ranked ≡ r.diagonal
  trace_ranked = trace_choice (λ (p : Plan) (n : ℕ). p.ranked ≡ r.diagonal) (λ d. sym d) (λ d. sym d)

  -- the picked pixel may be a gap
  pub trace_slack : (trace_plan r along_rows back L planes s).slack ≡ 65535
  trace_slack = trace_choice (λ (p : Plan) (n : ℕ). p.slack ≡ 65535) (λ d. area_slack r back s) (λ d. area_slack r back s)

  -- ---- few states, and few steps

  pub trace_states_few : 1 ≤ L → L ≤ 1024 → (trace_states r back L s ≤ L) × (trace_states r back L s ≤ 1024)
  trace_states_few some few = trace_choice (λ (p : Plan) (n : ℕ). (n ≤ L) × (n ≤ 1024)) (λ d. (omega arith, omega arith)) (λ d. (some, omega arith))

  pub trace_steps_few : (e m : ℕ) → e < trace_states r back L s → m < rows_in (trace_plan r along_rows back L planes s) e →
      steps_at (trace_plan r along_rows back L planes s) e m < L
  unfolding rows_in
  trace_steps_few =
      trace_choice (λ (p : Plan) (n : ℕ). (e m : ℕ) → e < n → m < rows_in p e → steps_at p e m < L)
      (λ d e m h k. below_first L _ e h) (λ d e m h k. below_first L _ m (below_first (line_rows r back L s) _ m k))

-- ---- the rows of both kinds

module _ (r : Frame) (back : Bool) (L : ℕ) (s : Spot) (area : AreaOf r (trace_area r back s)) where
  pub line_rows_lem : 1 ≤ L → (1 ≤ line_rows r back L s) × (line_rows r back L s ≤ r.lines)
  line_rows_lem some = omega (arith, area.high, area.low)

  pub rank_rows_lem : 1 ≤ L → (1 ≤ rank_rows r back L s) × (rank_rows r back L s ≤ r.across)
  rank_rows_lem some = omega (arith, area.wide, area.narrow)

-- a pixel of a row is on the frame, and its key stands in its place
pub record PixelOn (r : Frame) (p : Plan) (W H e m z : ℕ) : Type 0 where
  pub column : z < r.across
  pub key_inside : row_at p e m + z < r.lines * r.across
  pub key_place : place_kept r p.ranked (row_at p e m + z) ≡ pixel_in r p.ranked (line_at p e m) z
  pub on_plate : pixel_in r p.ranked (line_at p e m) z < W * H

module _ (r : Frame) (W H index : ℕ) (F : Framed r W H index) where
  pixel_on : (p : Plan) → PlanOn r p → (e m z : ℕ) → RowOn r p e m z → PixelOn r p W H e m z
  pixel_on p sized e m z on =
      record {
        column = on.column;
        key_inside = kept_inside r p sized e m z on;
        key_place = kept_on r p sized e m z on;
        on_plate = F.lies _ z on.within on.column;
      }

  module _ (O : FrameOf r W H index) (along_rows back : Bool) (L planes : ℕ) (s : Spot) (x : ℕ) (S : SpotOf r s x) where
    abbrev plan : Plan
    plan = trace_plan r along_rows back L planes s

    abbrev area : AreaOf r (trace_area r back s)
    area = trace_area_lem r back s S.on_line S.on_pixel

    pub trace_formed : 1 ≤ L → L ≤ 1024 → 1 ≤ planes → planes ≤ 9 → well_formed (trace_plan r along_rows back L planes s) ≡ true
    trace_formed some few some_planes few_planes =
        let b : Bounded r = F.bounded in
        trace_choice r along_rows back L planes s (λ (p : Plan) (n : ℕ). well_formed p ≡ true)
        (λ d. ranked_formed r along_rows back (trace_area r back s) (rank_rows r back L s) planes b area (O.slim d) (rank_rows_lem r back L s area some).0
        (omega arith) some_planes few_planes)
        (λ d. straight_formed r back (trace_area r back s) (line_rows r back L s) planes b area (line_rows_lem r back L s area some).0 (omega arith)
        some_planes few_planes)

    trace_fits : 1 ≤ L → (plan.rows ≤ r.lines) × (plan.linked ≡ true → r.across ≤ r.lines)
    trace_fits some =
        trace_choice r along_rows back L planes s (λ (p : Plan) (n : ℕ). (p.rows ≤ r.lines) × (p.linked ≡ true → r.across ≤ r.lines))
        (λ d. (omega (arith, (rank_rows_lem r back L s area some).1, O.slim d), λ _. O.slim d))
        (λ d. ((line_rows_lem r back L s area some).1, λ f. absurd (true≢false (sym f))))

    pub trace_room : 1 ≤ planes → planes ≤ 9 → 1 ≤ L → L ≤ 1024 → (room : ℕ) → 4 * planes * (r.lines * r.across) ≤ room →
        Roomy (trace_plan r along_rows back L planes s) room
    trace_room some_planes few_planes some few room h =
        let lines = trace_lines r along_rows back L planes s in
        let across = trace_across r along_rows back L planes s in
        roomy plan room (trace_formed some few some_planes few_planes) (rw lines (trace_fits some).0) (rw (lines, across) (trace_fits some).1)
        (rw (lines, across, trace_planes r along_rows back L planes s) h)

    pub trace_pixels : (e m z : ℕ) → m < rows_in (trace_plan r along_rows back L planes s) e → row_lo (trace_plan r along_rows back L planes s) e m ≤ z →
        z < row_hi (trace_plan r along_rows back L planes s) e m → PixelOn r (trace_plan r along_rows back L planes s) W H e m z
    trace_pixels =
        trace_choice r along_rows back L planes s
        (λ (p : Plan) (n : ℕ). (e m z : ℕ) → m < rows_in p e → row_lo p e m ≤ z → z < row_hi p e m → PixelOn r p W H e m z)
        (λ d e m z h lo hi.
        pixel_on (ranked_plan r along_rows back (trace_area r back s) (rank_rows r back L s) planes)
        (sized_ranked r (trace_area r back s) area (rank_rows r back L s) planes along_rows back (O.slim d)) e m z
        (on_ranked r (trace_area r back s) area (rank_rows r back L s) planes along_rows back e m z lo hi))
        (λ d e m z h lo hi.
        pixel_on (straight_plan r back (trace_area r back s) (line_rows r back L s) planes)
        (sized_straight r (trace_area r back s) area (line_rows r back L s) planes back) e m z
        (on_straight r (trace_area r back s) area (line_rows r back L s) planes back e m z h lo hi))

    -- ---- the states

    module _ (g keys : ℕ → ℕ) where
      outside : r.diagonal ≡ true → (n j i z : ℕ) → i < r.lines → z < r.across → Beside (trace_area r back s) i z →
          best_walk_to (trace_area r back s).slack (around back W H (2 ^ index)) g (λ q. eqb q x) n j (place_in r i z) ≡ 0
      outside d n j i z hi hz out =
          ⊎_elim
          (λ o. trace_outside_lines (trace_area r back s).slack r W H index F O back s x S g n j i z hi hz (inl o))
          (⊎_elim
          (λ o. trace_outside_lines (trace_area r back s).slack r W H index F O back s x S g n j i z hi hz (inr o))
          (λ o. trace_outside_pixels (trace_area r back s).slack r W H index F O back s x S g d n j i z hi hz o))
          out

      too_far : r.diagonal ≡ true → (n j i z : ℕ) → InArea (trace_area r back s) i z → room_in (trace_area r back s) back i z < n →
          best_walk_to (trace_area r back s).slack (around back W H (2 ^ index)) g (λ q. eqb q x) n j (place_in r i z) ≡ 0
      too_far d n j i z inside h =
          trace_too_far (trace_area r back s).slack r W H index F O back s x S g d n j i z (omega (arith, inside.over_bottom, area.low))
          (omega (arith, inside.before_right, area.narrow)) h

      -- the states of a plan are a sequence, if its walks of no steps start at the picked pixel and its keys are those of its pixels
      abbrev Follows : Plan → ℕ → Type 0
      Follows p states =
          ((e : ℕ) → e < states → Keyed r p e keys g) → ((e : ℕ) → e < states → StartsBy r p e (λ q. eqb q x)) →
          Sequence p keys states (number_at r p (around back W H (2 ^ index)) g (λ q. eqb q x))

      follows : Follows plan (trace_states r back L s)
      follows =
          trace_choice r along_rows back L planes s Follows
          (λ d keyed started.
          record {
            grown = λ e h.
                ranked_grown r W H index F d along_rows back g (λ q. eqb q x) (trace_area r back s) area (rank_rows r back L s) planes (outside d) (too_far d)
                e keys (keyed e h) (started e h);
          })
          (λ d keyed started.
          record {
            grown = λ e h.
                straight_grown r W H index F d back g (λ q. eqb q x) (trace_area r back s) area (line_rows r back L s) planes e keys (keyed e h) (started e h)
                (number_at r (straight_plan r back (trace_area r back s) (line_rows r back L s) planes) (around back W H (2 ^ index)) g (λ q. eqb q x) (e - 1));
          })

      pub trace_sequence : ((q : ℕ) → keys q ≡ g (place_kept r (trace_plan r along_rows back L planes s).ranked q)) →
          Sequence (trace_plan r along_rows back L planes s) keys (trace_states r back L s)
          (number_at r (trace_plan r along_rows back L planes s) (around back W H (2 ^ index)) g (λ q. eqb q x))
      trace_sequence are =
          follows
          (λ e h m z k lo hi. are (row_at plan e m + z) ∙ ap g (trace_pixels e m z k lo hi).key_place)
          (λ e h m z k lo hi st.
          (trace_started r W H index O s x S along_rows back L planes).is e m z k lo hi st (trace_first r along_rows back L planes s e h))
