-- A whole direction: the frame is oriented and keeps its keys, the plans of both sides may be swept, and the levels have risen to the best walks. The
-- plans, and the number of states, are any that are equal to the filter's.
use Prim.Native.Nat.{ℕ, ◌+◌, ◌-◌, ◌*◌, ◌^◌, ◌≤◌, ◌<◌}
use mathlib.Core.Path.{◌≡◌, refl, sym, ap, ◌∙◌}
use mathlib.Core.Bool.{Bool, true, false, cond, ◌&&◌}
use mathlib.Core.List.{List}
use native.Mathlib.Omega.{arith}
use lib.ListN.{length, get_or}
use lib.IntN.{ℤ}
use Rattle.plate.specs.Paths.{span}
use Rattle.theory.proofs.WalksTo.{anywhere}
use Rattle.frames.specs.Frames.{Framed}
use Rattle.directions.specs.Gathering.{Raised, best_of}
use Rattle.frames.specs.declared.frame.Frame.{Frame}
use Rattle.states.specs.Runs.{Between}
use Rattle.plans.specs.Plans.{keys_size}
use Rattle.stacks.specs.Stacks.{KeysAre, Sequence}
use Rattle.sweeps.specs.Sweeps.{AllJoined, Swept}
use Rattle.sweeps.specs.Doors.{states_of, other_end, sweepable}
use Rattle.sweeps.proofs.DoorTests.{sweeps_if}
use Rattle.plans.specs.declared.plan.Plan.{Plan}
use Rattle.plans.specs.declared.plan.Reach.{Reach}
use Rattle.directions.specs.Plans.{by_rows, by_ranks, filter_plan, filter_states, reach_in, FrameOf, Oriented}
use Rattle.directions.specs.Numbers.{KeptOn, place_kept, keys_by, number_at}
use Rattle.directions.specs.Gathering.{Risen}
use Rattle.theory.specs.Walks.{around}
use Rattle.directions.proofs.KeptLaws.{keyed, same_ranked}
use Rattle.directions.proofs.FilterLaws.{filter_formed, filter_other, filter_count, filter_states_few}
use Rattle.directions.proofs.RoomLaws.{Roomy, room_asked, filter_room, filter_lines, filter_across, filter_ranked}
use Rattle.directions.proofs.SequenceLaws.{filter_sequence}
use Rattle.directions.proofs.JoinedLaws.{plate_raised}

both : (a b : Bool) → (a && b) ≡ true → a ≡ true
both true b h = refl
both false b h = h

-- what is asked of a side of a direction and of the steps back to sweep and join both sides, and what is known afterwards
pub record Opening (r : Frame) (W H index L k slack : ℕ) (p : Plan) (back : Reach) : Type 0 where
  pub kept : KeptOn r p.ranked
  pub taken : (room : ℕ) → 4 * (k + 1) * (W * H) ≤ room → sweepable p back room 65536 ≡ true
  pub keys_fit : (room : ℕ) → 4 * (k + 1) * (W * H) ≤ room → r.lines * r.across ≤ room
  pub raised : (mode : ℕ) (plate : List ℤ) (old work zeros best : List ℕ) (start new : List ℤ) →
      Between (λ q. keys_by mode plate (place_kept r p.ranked q)) old work 0 (r.lines * r.across) →
      Swept p (other_end p back) (states_of p) work zeros best → ((q : ℕ) → get_or zeros q 0 ≡ 0) →
      Risen r p.ranked best start new 0 (r.lines * r.across) → length start ≡ W * H →
      Raised (best_of slack W H index mode (L - 1) k plate) start new 0 (W * H)

-- ---- the frame

module _ (r : Frame) (W H index : ℕ) (framed : Framed r W H index) (of : FrameOf r W H index) (known : index < 4) where
  pub oriented : (along_rows back : Bool) → along_rows ≡ by_rows W H index → Oriented r (record { index = index; rows = along_rows; back = back })
  oriented along_rows back is =
      record {
        known = known;
        is_diagonal = of.is_diagonal;
        is_mirrored = rw is of.is_mirrored;
        north = λ z. is ∙ of.north z;
        east = λ z. is ∙ of.east z;
      }

  pub long_enough : (L : ℕ) → L ≤ span W H (2 ^ index) → L ≤ r.lines + cond r.diagonal (r.across - 1) 0
  long_enough L h = omega (arith, framed.long)

  module _ (L : ℕ) (some : 1 ≤ L) (few : L ≤ 1024) (long : L ≤ span W H (2 ^ index)) (along_rows : Bool) (planes slack k : ℕ) (is-planes : planes ≡ k + 1)
      (few_gaps : k ≤ 8) where
    abbrev side : Bool → Plan
    side back = filter_plan r along_rows back L planes slack

    fit : L ≤ r.lines + cond r.diagonal (r.across - 1) 0
    fit = long_enough L long

    kept_side : KeptOn r (side false).ranked
    kept_side =
        record {
          bounded = framed.bounded;
          lies = λ i x h l. omega (arith, framed.lies i x h l, framed.area);
          slim = λ e. of.slim (both r.diagonal (by_ranks r L) (sym (filter_ranked r along_rows false L planes slack) ∙ e));
        }

    room_side : (room : ℕ) → 4 * (k + 1) * (W * H) ≤ room → Roomy (side false) room
    room_side room h =
        filter_room r L framed of some few fit along_rows false planes slack room (omega arith) (omega arith) (rw (is-planes, framed.area) h)

    keys_side : keys_size (side false) ≡ r.lines * r.across
    keys_side = rw (filter_lines r along_rows false L planes slack, filter_across r along_rows false L planes slack)

    -- ---- the keys, and the states of both sides

    module _ (mode : ℕ) (plate : List ℤ) where
      abbrev keys : ℕ → ℕ
      keys q = keys_by mode plate (place_kept r (side false).ranked q)

      abbrev numbers : Bool → ℕ → ℕ → ℕ → ℕ → ℕ
      numbers back = number_at r (side back) (around back W H (2 ^ index)) (keys_by mode plate) anywhere

      keys_kept : (old work : List ℕ) → Between keys old work 0 (r.lines * r.across) → KeysAre work (side false) keys
      keys_kept old work b = record { is = λ q h. b.inside q (omega arith) (omega (arith, keys_side)) }

      -- both sides keep the keys in the same way
      keys-of : (back : Bool) (q : ℕ) → keys q ≡ keys_by mode plate (place_kept r (side back).ranked q)
      keys-of true q =
          ap (λ (b : Bool). keys_by mode plate (place_kept r b q))
          (sym (same_ranked r along_rows L planes slack framed.bounded.some_lines framed.bounded.some_across of.slim))
      keys-of false q = refl

      sequence : (back : Bool) → Sequence (side back) keys (filter_states r L) (numbers back)
      sequence back =
          filter_sequence r W H index framed slack known along_rows back (keys_by mode plate) keys planes L
          (λ e h m x l lo hi.
          keyed r along_rows L planes slack framed.bounded.some_lines framed.bounded.some_across of.slim (keys_by mode plate) keys back (keys-of back) e m x
          h l lo hi)

      joined : (old work zeros best : List ℕ) → Between keys old work 0 (r.lines * r.across) →
          Swept (side false) (side true) (filter_states r L) work zeros best →
          AllJoined (side false) (filter_states r L) 0 (numbers false) (numbers true) zeros best
      joined old work zeros best filled swept =
          swept.is keys (numbers false) (numbers true) (keys_kept old work filled) (sequence false) (sequence true)

      side_opened : (old work zeros best : List ℕ) (start new : List ℤ) → Between keys old work 0 (r.lines * r.across) →
          Swept (side false) (side true) (filter_states r L) work zeros best → ((q : ℕ) → get_or zeros q 0 ≡ 0) →
          Risen r (side false).ranked best start new 0 (r.lines * r.across) → length start ≡ W * H →
          Raised (best_of slack W H index mode (L - 1) k plate) start new 0 (W * H)
      side_opened old work zeros best start new filled swept none risen size =
          plate_raised r W H index along_rows L planes slack k framed of known some fit is-planes zeros best start new none mode plate
          (joined old work zeros best filled swept) risen size

    -- ---- the same of the plan and the steps that the code has made

    abbrev steps_back : Reach
    steps_back = reach_in r along_rows (side false).ranked true

    side_taken : (room : ℕ) → 4 * (k + 1) * (W * H) ≤ room → sweepable (side false) steps_back room 65536 ≡ true
    side_taken room h =
        let roomy = room_side room h in
        let other = filter_formed r L framed of some few fit along_rows planes slack true (omega arith) (omega arith) in
        sweeps_if (side false) steps_back room 65536 (filter_formed r L framed of some few fit along_rows planes slack false (omega arith) (omega arith))
        (omega (arith, roomy.halves)) (rw (filter_other r L framed of some few fit along_rows planes slack) other)
        (omega (arith, filter_count r L framed of some few fit along_rows planes slack, filter_states_few r L framed of some few fit))
        (room_asked (side false) room roomy) roomy.keys

    pub opening : (p : Plan) (back : Reach) → p ≡ filter_plan r along_rows false L planes slack → back ≡ reach_in r along_rows p.ranked true →
        Opening r W H index L k slack p back
    opening p back is-p is-back =
        let is_steps : back ≡ steps_back = rw is-p at is-back in
        rw (is-p, is_steps) (record {
          kept = kept_side;
          taken = side_taken;
          keys_fit = λ room h. omega (arith, (room_side room h).alone, keys_side);
          raised = λ mode plate old work zeros best start new filled swept.
              side_opened mode plate old work zeros best start new filled
              (rw (filter_other r L framed of some few fit along_rows planes slack, filter_count r L framed of some few fit along_rows planes slack) at swept);
        })
