-- The two sides of a direction joined are the best walks through the pixels. Every pair of numbers that meet is a term of the decomposition, so none
-- is above the best; and every term that is not 0 has its row, so the joined numbers reach it. What is gathered of them raises the plate to the best
-- walks.
use Prim.Native.Nat.{ℕ, ◌+◌, ◌-◌, ◌*◌, ◌^◌, ◌≤◌, ◌<◌, min, max}
use mathlib.Core.Path.{◌≡◌, sym, ap, subst, ◌∙◌}
use mathlib.Core.Bool.{Bool, true, false, cond}
use mathlib.Core.List.{List}
use mathlib.Core.Logic.{⊎_elim}
use native.Mathlib.Omega.{arith}
use lib.ListN.{length, get_or, get_or-eq_default}
use lib.IntN.{ℤ}
use Rattle.basics.proofs.Numbers.{le_or_lt}
use Rattle.plate.specs.Levels.{lowest, key}
use Rattle.theory.proofs.Maxima.{upto_keep, upto_least}
use Rattle.theory.proofs.LevelSets.{reach_none}
use Rattle.theory.proofs.WalksTo.{reach_anywhere, anywhere}
use Rattle.theory.proofs.Ranks.{bit_listed}
use Rattle.theory.proofs.Sides.{side}
use Rattle.frames.specs.Frames.{Framed, place_in}
use Rattle.directions.specs.Gathering.{Raised, best_of}
use Rattle.frames.specs.declared.frame.Frame.{Frame}
use Rattle.plans.specs.Plans.{line_at, row_lo, row_hi, row_at, steps_at}
use Rattle.sweeps.specs.Sweeps.{met, AllJoined}
use Rattle.plans.specs.declared.plan.Plan.{Plan}
use Rattle.directions.specs.Plans.{FrameOf, filter_plan, filter_states}
use Rattle.directions.specs.Numbers.{pixel_in, number_at, place_kept, keys_by}
use Rattle.directions.specs.Gathering.{Risen}
use Rattle.theory.specs.BestWalks.{upto, best_walk, joined_at, best_through, key_at}
use Rattle.theory.specs.Walks.{around}
use Rattle.theory.specs.Ranks.{steps_left}
use Rattle.directions.proofs.KeptLaws.{PlanOn, RowOn, sized_filter, on_filter, kept_on, kept_inside}
use Rattle.directions.proofs.PairLaws.{RowFor, Paired, paired}

-- ---- the terms of the decomposition

module _ (slack : ℕ) (next back : ℕ → List ℕ) (g : ℕ → ℕ) (m k x : ℕ) where
  -- walks of n steps on and of l steps to here, with the gaps shared
  pub term_below : (n l i j : ℕ) → n + l ≡ m → i + j ≡ k → min (best_walk slack next g n j x) (best_walk slack back g l i x) ≤ best_through slack next back g m k x
  unfolding best_through
  term_below n l i j steps gaps =
      let hn : m - l ≡ n = omega arith in
      let hj : k - i ≡ j = omega arith in
      let t = joined_at slack next back g m k x l i in
      let inner = upto_keep (joined_at slack next back g m k x l) t k i (omega arith) (omega arith) in
      let outer = upto_keep (λ (l : ℕ). upto (joined_at slack next back g m k x l) k) t m l (omega arith) inner in
      omega (arith, rw (hn, hj) at outer)

  pub terms_least : (b : ℕ) → ((l i : ℕ) → l ≤ m → i ≤ k → min (best_walk slack next g (m - l) (k - i) x) (best_walk slack back g l i x) ≤ b) →
      best_through slack next back g m k x ≤ b
  unfolding best_through
  terms_least b h =
      upto_least (λ (l : ℕ). upto (joined_at slack next back g m k x l) k) b m
      (λ l hl. upto_least (joined_at slack next back g m k x l) b k (λ i hi. omega (arith, h l i hl hi)))

-- ---- the numbers that meet

module _ (r : Frame) (p o : Plan) (states steps k slack : ℕ) (pair : Paired r p o states steps (k + 1) slack) (W H bit : ℕ) (g : ℕ → ℕ) where
  abbrev forth : ℕ → ℕ → ℕ → ℕ → ℕ
  forth = number_at r p (around false W H bit) g anywhere

  abbrev back : ℕ → ℕ → ℕ → ℕ → ℕ
  back = number_at r o (around true W H bit) g anywhere

  -- they are walks on from a pixel and walks that end there
  pub met_is : (e m j x : ℕ) → e < states → m < p.rows → j ≤ k →
      met p states forth back e m j x
      ≡ min (best_walk slack (around false W H bit) g (steps_at p e m) j (pixel_in r p.ranked (line_at p e m) x))
      (best_walk slack (around true W H bit) g (steps_at o (states - 1 - e) (p.rows - 1 - m)) (k - j) (pixel_in r p.ranked (line_at p e m) x))
  unfolding number_at
  met_is e m j x h l few =
      let gaps : p.planes - 1 - j ≡ k - j = omega (arith, pair.same_planes) in
      let q : ℕ = pixel_in r p.ranked (line_at p e m) x in
      let n : ℕ = steps_at p e m in
      let l' : ℕ = steps_at o (states - 1 - e) (p.rows - 1 - m) in
      rw (
        gaps,
        pair.meets e m x h l,
        reach_anywhere p.slack (around false W H bit) g n j q,
        reach_anywhere o.slack (around true W H bit) g l' (k - j) q,
      )
      (ap (λ (c : ℕ). min (best_walk c (around false W H bit) g n j q) (best_walk o.slack (around true W H bit) g l' (k - j) q)) pair.same_slack.0
      ∙ ap (λ (c : ℕ). min (best_walk slack (around false W H bit) g n j q) (best_walk c (around true W H bit) g l' (k - j) q)) pair.same_slack.1)

  pub met_below : (e m j x : ℕ) → e < states → m < p.rows → j ≤ k →
      met p states forth back e m j x ≤ best_through slack (around false W H bit) (around true W H bit) g steps k (pixel_in r p.ranked (line_at p e m) x)
  met_below e m j x h l few =
      omega (
        arith,
        met_is e m j x h l few,
        term_below slack (around false W H bit) (around true W H bit) g steps k (pixel_in r p.ranked (line_at p e m) x)
            (steps_at p e m) (steps_at o (states - 1 - e) (p.rows - 1 - m)) (k - j) j (pair.together e m h l) (omega arith),
      )

-- ---- a term that is not 0 has its row

-- a walk has no more steps than there is room
pub no_walk : (slack W H index : ℕ) → index < 4 → (g : ℕ → ℕ) (back : Bool) (m j q : ℕ) → q < W * H → steps_left W H (2 ^ index) back q < m →
    best_walk slack (around back W H (2 ^ index)) g m j q ≡ 0
no_walk slack W H index known g back m j q on h =
    reach_none slack (around back W H (2 ^ index)) g m j q (λ ps w. omega (arith, (side W H (2 ^ index) (bit_listed index known) back).fits on w))

module _ (r : Frame) (W H index : ℕ) (framed : Framed r W H index) (known : index < 4) (p o : Plan) (states steps k slack : ℕ)
    (pair : Paired r p o states steps (k + 1) slack) (sized : PlanOn r p)
    (rows_on_lem : (e m x : ℕ) → e < states → m < p.rows → row_lo p e m ≤ x → x < row_hi p e m → RowOn r p e m x) (g : ℕ → ℕ) where
  abbrev on : ℕ → List ℕ
  on = around false W H (2 ^ index)

  abbrev to : ℕ → List ℕ
  to = around true W H (2 ^ index)

  module _ (old best : List ℕ) (joined : AllJoined p states 0 (number_at r p on g anywhere) (number_at r o to g anywhere) old best) where
    row_reached : (i x l c : ℕ) → l ≤ steps → c ≤ k → (f : RowFor r p states i x (steps - l)) →
        min (best_walk slack on g (steps - l) (k - c) (place_in r i x)) (best_walk slack to g l c (place_in r i x)) ≤ get_or best (row_at p f.state f.row + x) 0
    row_reached i x l c hl hc f =
        let other : steps_at o (states - 1 - f.state) (p.rows - 1 - f.row) ≡ l =
        omega (arith, pair.together f.state f.row f.some_state f.some_row, f.is_steps) in
        let gaps : k - (k - c) ≡ c = omega arith in
        let is = met_is r p o states steps k slack pair W H (2 ^ index) g f.state f.row (k - c) x f.some_state f.some_row (omega arith) in
        let is' = rw (other, gaps, f.is_steps, f.is_place) at is in
        omega (
          arith,
          is',
          joined.reached f.state f.row (k - c) x (omega arith) f.some_state f.some_row (omega (arith, pair.same_planes)) f.from
              f.below,
        )

    module _ (start new : List ℤ) (risen : Risen r p.ranked best start new 0 (r.lines * r.across)) where
      row_raised : (i x l c : ℕ) → l ≤ steps → c ≤ k → (f : RowFor r p states i x (steps - l)) →
          min (best_walk slack on g (steps - l) (k - c) (place_in r i x)) (best_walk slack to g l c (place_in r i x)) ≤ key_at new (place_in r i x)
      row_raised i x l c hl hc f =
          let is-on = rows_on_lem f.state f.row x f.some_state f.some_row f.from f.below in
          let up = risen.reached (row_at p f.state f.row + x) (omega arith) (kept_inside r p sized f.state f.row x is-on) in
          let up' = rw (kept_on r p sized f.state f.row x is-on, f.is_place) at up in
          omega (arith, row_reached i x l c hl hc f, up')

      term_raised : (i x : ℕ) → i < r.lines → x < r.across → (l c : ℕ) → l ≤ steps → c ≤ k →
          min (best_walk slack on g (steps - l) (k - c) (place_in r i x)) (best_walk slack to g l c (place_in r i x)) ≤ key_at new (place_in r i x)
      term_raised i x h column l c hl hc =
          ⊎_elim
          (λ a. ⊎_elim
          (λ b. row_raised i x l c hl hc
          (pair.row_for i x (steps - l) l h column (omega arith) (omega (arith, a, framed.room_on i x h column))
          (omega (arith, b, framed.room_back i x h column))))
          (λ b. omega (arith, no_walk slack W H index known g true l c (place_in r i x) (framed.lies i x h column) b))
          (le_or_lt l (steps_left W H (2 ^ index) true (place_in r i x))))
          (λ a. omega (arith, no_walk slack W H index known g false (steps - l) (k - c) (place_in r i x) (framed.lies i x h column) a))
          (le_or_lt (steps - l) (steps_left W H (2 ^ index) false (place_in r i x)))

      -- the levels have risen to the best walks, and no further
      pub walks_raised : (q : ℕ) → q < W * H → best_through slack on to g steps k q ≤ key_at new q
      walks_raised q h =
          let at = framed.whole q h in
          subst (λ (z : ℕ). best_through slack on to g steps k z ≤ key_at new z) at.4
          (terms_least slack on to g steps k (place_in r at.0 at.1) (key_at new (place_in r at.0 at.1))
          (term_raised at.0 at.1 at.2 at.3))

      pub walks_bound : ((q : ℕ) → get_or old q 0 ≡ 0) → (q : ℕ) → key_at new q ≤ max (key_at start q) (best_through slack on to g steps k q)
      walks_bound none =
          let low : (q : ℕ) → get_or best q 0 ≤ max (get_or old q 0) (best_through slack on to g steps k (place_kept r p.ranked q)) =
          joined.bounded (λ q. best_through slack on to g steps k (place_kept r p.ranked q))
          (λ e m j x z h l few lo hi.
          let same = ap (best_through slack on to g steps k) (kept_on r p sized e m x (rows_on_lem e m x h l lo hi)) in
          omega (arith, met_below r p o states steps k slack pair W H (2 ^ index) g e m j x h l (omega (arith, pair.same_planes)), same)) in
          risen.bounded (best_through slack on to g steps k) (λ q z h. omega (arith, low q, none q))

      pub all_raised : ((q : ℕ) → get_or old q 0 ≡ 0) → length start ≡ W * H → Raised (λ q. best_through slack on to g steps k q) start new 0 (W * H)
      all_raised none size =
          record {
            inside = λ q l h. omega (arith, walks_raised q h, risen.grown q, walks_bound none q);
            under = λ q l. absurd (omega arith);
            over = λ q l.
                ap key
                (get_or-eq_default new lowest {n = q} (omega (arith, risen.len)) ∙ sym (get_or-eq_default start lowest {n = q} (omega arith)));
            len = risen.len;
          }

-- ---- the filter's direction

module _ (r : Frame) (W H index : ℕ) (along_rows : Bool) (L planes slack k : ℕ) (framed : Framed r W H index) (of : FrameOf r W H index) (known : index < 4)
    (some : 1 ≤ L) (fits : L ≤ r.lines + cond r.diagonal (r.across - 1) 0) (is-planes : planes ≡ k + 1) where
  abbrev plan : Bool → Plan
  plan back = filter_plan r along_rows back L planes slack

  pair : Paired r (plan false) (plan true) (filter_states r L) (L - 1) (k + 1) slack
  pair =
      subst (λ (n : ℕ). Paired r (plan false) (plan true) (filter_states r L) (L - 1) n slack) is-planes
      (paired r along_rows L planes slack some framed.bounded.some_across fits)

  sized : PlanOn r (plan false)
  sized = sized_filter r along_rows L planes slack framed.bounded.some_lines framed.bounded.some_across of.slim false

  rows_on_lem : (e m x : ℕ) → e < filter_states r L → m < (plan false).rows → row_lo (plan false) e m ≤ x → x < row_hi (plan false) e m →
      RowOn r (plan false) e m x
  rows_on_lem e m x h l =
      on_filter r along_rows L planes slack framed.bounded.some_lines framed.bounded.some_across of.slim false e m x h
      (omega (arith, pair.full e h))

  module _ (old best : List ℕ) (start new : List ℤ) (none : (q : ℕ) → get_or old q 0 ≡ 0) where
    pub direction_raised : (g : ℕ → ℕ) →
        AllJoined (filter_plan r along_rows false L planes slack) (filter_states r L) 0
        (number_at r (filter_plan r along_rows false L planes slack) (around false W H (2 ^ index)) g anywhere)
        (number_at r (filter_plan r along_rows true L planes slack) (around true W H (2 ^ index)) g anywhere) old best →
        Risen r (filter_plan r along_rows false L planes slack).ranked best start new 0 (r.lines * r.across) → length start ≡ W * H →
        Raised (λ q. best_through slack (around false W H (2 ^ index)) (around true W H (2 ^ index)) g (L - 1) k q) start new 0 (W * H)
    direction_raised g joined risen size =
        all_raised r W H index framed known (plan false) (plan true) (filter_states r L) (L - 1) k slack pair sized rows_on_lem g old best joined start new risen
        none size

    pub plate_raised : (mode : ℕ) (plate : List ℤ) →
        AllJoined (filter_plan r along_rows false L planes slack) (filter_states r L) 0
        (number_at r (filter_plan r along_rows false L planes slack) (around false W H (2 ^ index)) (keys_by mode plate) anywhere)
        (number_at r (filter_plan r along_rows true L planes slack) (around true W H (2 ^ index)) (keys_by mode plate) anywhere) old best →
        Risen r (filter_plan r along_rows false L planes slack).ranked best start new 0 (r.lines * r.across) → length start ≡ W * H →
        Raised (best_of slack W H index mode (L - 1) k plate) start new 0 (W * H)
    unfolding best_of keys_by
    plate_raised mode plate joined risen size = direction_raised (keys_by mode plate) joined risen size
