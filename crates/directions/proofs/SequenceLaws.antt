-- The states of the filter's sweeps, each made of the one before: the walks that may end anywhere on the whole frame, swept by lines, by single lines or
-- by ranks. Beside the whole frame lies nothing, and no walk has more steps than there is room for on the plate.
use Prim.Native.Nat.{ℕ, ◌+◌, ◌-◌, ◌^◌, ◌≤◌, ◌<◌}
use mathlib.Core.Path.{◌≡◌, refl, ◌∙◌}
use mathlib.Core.Bool.{Bool, true, false, cond}
use mathlib.Core.Logic.{⊎_elim}
use native.Mathlib.Omega.{arith}
use Rattle.theory.proofs.LevelSets.{reach_none}
use Rattle.theory.proofs.Ranks.{bit_listed}
use Rattle.theory.proofs.Sides.{side}
use Rattle.theory.proofs.WalksTo.{anywhere, from_below}
use Rattle.frames.specs.Frames.{Framed, place_in}
use Rattle.frames.specs.declared.frame.Frame.{Frame}
use Rattle.plans.specs.Plans.{starts_at}
use Rattle.stacks.specs.Stacks.{Sequence}
use Rattle.plans.specs.declared.plan.Plan.{Plan}
use Rattle.directions.specs.Plans.{straight_plan, still_plan, ranked_plan, whole_area, AreaOf, spare_of, by_ranks, filter_plan, filter_states}
use Rattle.directions.specs.Numbers.{number_at}
use Rattle.theory.specs.Walks.{around}
use Rattle.theory.specs.Ranks.{steps_left}
use Rattle.theory.specs.BestWalks.{best_walk_to}
use Rattle.directions.proofs.ChoiceLaws.{whole_area_lem}
use Rattle.directions.proofs.SpotRows.{Beside}
use Rattle.directions.proofs.GrownLaws.{Keyed}
use Rattle.directions.proofs.StraightLaws.{straight_grown}
use Rattle.directions.proofs.StillLaws.{still_grown}
use Rattle.directions.proofs.RankedLaws.{room_in, ranked_grown}

-- ---- walks on the whole frame

module _ (r : Frame) (W H index : ℕ) (framed : Framed r W H index) (slack : ℕ) where
  area : AreaOf r (whole_area r slack)
  area = whole_area_lem r slack framed.bounded.some_lines framed.bounded.some_across

  pub none_beside : (i x : ℕ) → i < r.lines → x < r.across → Beside (whole_area r slack) i x → ⊥
  none_beside i x k l b =
      ⊎_elim
      (λ (c : i < 0). omega arith)
      (λ b. ⊎_elim
      (λ (c : r.lines ≤ i). omega arith)
      (λ b. ⊎_elim (λ (c : x < 0). omega arith) (λ (c : r.across ≤ x). omega arith) b)
      b)
      b

  module _ (i x : ℕ) (on : i < r.lines) (column : x < r.across) where
    -- a walk has no more steps than there is room
    pub no_walk : index < 4 → (g : ℕ → ℕ) (passes : ℕ → Bool) (back : Bool) (n j : ℕ) → steps_left W H (2 ^ index) back (place_in r i x) < n →
        best_walk_to slack (around back W H (2 ^ index)) g passes n j (place_in r i x) ≡ 0
    no_walk known g passes back n j h =
        let none = reach_none slack (around back W H (2 ^ index)) g n j (place_in r i x)
        (λ ps w. omega (arith, (side W H (2 ^ index) (bit_listed index known) back).fits (framed.lies i x on column) w)) in
        omega (arith, none, from_below slack (around back W H (2 ^ index)) g passes n j (place_in r i x))

    -- on a diagonal, as many ranks as are left of the frame
    pub slanted_room : (back : Bool) → r.diagonal ≡ true → steps_left W H (2 ^ index) back (place_in r i x) ≡ room_in (whole_area r slack) back i x
    slanted_room true slanted = framed.room_back i x on column ∙ rw slanted
    slanted_room false slanted = framed.room_on i x on column ∙ rw slanted (omega arith)

  -- ---- a sequence of each of the three kinds

  module _ (known : index < 4) (along_rows back : Bool) (g keys : ℕ → ℕ) (planes : ℕ) where
    -- the states of a plan are a sequence, if its keys are those of its pixels
    abbrev Follows : Plan → ℕ → Type 0
    Follows p states = ((e : ℕ) → e < states → Keyed r p e keys g) → Sequence p keys states (number_at r p (around back W H (2 ^ index)) g anywhere)

    straight_follows : r.diagonal ≡ false → (rows states : ℕ) → Follows (straight_plan r back (whole_area r slack) rows planes) states
    unfolding starts_at
    straight_follows straight rows states keyed =
        record {
          grown = λ e h.
              straight_grown r W H index framed straight back g anywhere (whole_area r slack) area rows planes e keys (keyed e h) (λ m x k a b s. refl)
              (number_at r (straight_plan r back (whole_area r slack) rows planes) (around back W H (2 ^ index)) g anywhere (e - 1));
        }

    still_follows : r.diagonal ≡ true → (rows : ℕ) → Follows (still_plan r along_rows back rows planes slack) r.lines
    unfolding starts_at
    still_follows slanted rows keyed =
        record {
          grown = λ e h. still_grown r W H index framed slanted along_rows back g anywhere rows planes slack e keys h (keyed e h) (λ m x k a b s. refl);
        }

    ranked_follows : r.diagonal ≡ true → (rows states : ℕ) → Follows (ranked_plan r along_rows back (whole_area r slack) rows planes) states
    unfolding starts_at
    ranked_follows slanted rows states keyed =
        record {
          grown = λ e h.
              ranked_grown r W H index framed slanted along_rows back g anywhere (whole_area r slack) area rows planes
              (λ n j i x k l b. absurd (none_beside i x k l b))
              (λ n j i x w k. no_walk i x w.over_bottom w.before_right known g anywhere back n j
              (omega (arith, slanted_room i x w.over_bottom w.before_right back slanted)))
              e keys (keyed e h) (λ m x k a b s. refl);
        }

    -- ---- whichever the filter takes

    module _ (L : ℕ) where
      chosen : (slanted ranked : Bool) → r.diagonal ≡ slanted →
          Follows
          (cond slanted
          (cond ranked (ranked_plan r along_rows back (whole_area r slack) (spare_of r L + 1) planes) (still_plan r along_rows back L planes slack))
          (straight_plan r back (whole_area r slack) L planes))
          (cond slanted (cond ranked L r.lines) (spare_of r L + 1))
      chosen true true is = ranked_follows is (spare_of r L + 1) L
      chosen true false is = still_follows is L
      chosen false ranked is = straight_follows is L (spare_of r L + 1)

      pub filter_sequence :
          ((e : ℕ) → e < filter_states r L → Keyed r (filter_plan r along_rows back L planes slack) e keys g) →
          Sequence (filter_plan r along_rows back L planes slack) keys (filter_states r L)
          (number_at r (filter_plan r along_rows back L planes slack) (around back W H (2 ^ index)) g anywhere)
      unfolding filter_plan filter_states
      filter_sequence keyed = chosen r.diagonal (by_ranks r L) refl keyed
