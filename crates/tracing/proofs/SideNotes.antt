-- What the notes of a side tell. Every walk from x that counts is found at its last pixel, which has a row of the plan or counts for nothing; so the
-- highest number of l steps, each no higher than a path may end at its pixel, is what the recursion says of x.
use Prim.Native.Nat.{ℕ, ◌+◌, ◌*◌, ◌≤◌, ◌<◌}
use mathlib.Core.Path.{◌≡◌, sym, ap, subst, ◌∙◌}
use mathlib.Core.Bool.{Bool}
use mathlib.Core.List.{List}
use mathlib.Core.Logic.{◌⊎◌, inl, inr, ⊎_elim}
use native.Mathlib.Nat.{mul-le-mul}
use native.Mathlib.Omega.{arith}
use lib.ListN.{get_or}
use lib.IntN.{ℤ}
use Rattle.basics.proofs.Numbers.{le_or_lt, rows_fit}
use Rattle.theory.proofs.Towards.{towards_best}
use Rattle.frames.specs.Frames.{place_in}
use Rattle.plans.specs.Plans.{line_at, steps_at, keys_size}
use Rattle.stacks.proofs.StackLaws.{keys_apart}
use Rattle.directions.specs.Numbers.{pixel_in}
use Rattle.directions.proofs.TraceRows.{HasRow}
use Rattle.tracing.specs.Scans.{bit_of, key_of, KeysLaid}
use Rattle.tracing.proofs.Scanned.{Sound}
use Rattle.tracing.specs.Sights.{Seen, seen_at}
use Rattle.walks.specs.Noting.{Lifted, steps_past}
use Rattle.walks.proofs.Noting.{past_most}
use Rattle.tracing.specs.Finding.{Noted, NotedSide, cells}
use Rattle.tracing.specs.declared.scan.Scan.{Scan}
use Rattle.directions.specs.declared.sight.Sight.{Sight}
use Rattle.theory.specs.Modes.{Levels}
use Rattle.tracing.proofs.Modes.{keys_bounded}
use Rattle.walks.proofs.NotedStates.{FromSide, SideNoted}
use Rattle.walks.proofs.Endings.{ended_by}
use Rattle.tracing.proofs.Sighting.{sight_planes, sight_states_short, sight_steps_few, sight_rows, sight_sound, sight_keys, keys_laid, sight_sequence}
use Rattle.tracing.proofs.SeenLaws.{side_keys, to_pixel, seen_ended}

-- a number and a smaller one beside its multiple are known by their sum
pub digits_same : (w a b i j : ℕ) → i < w → j < w → a * w + i ≡ b * w + j → (a ≡ b) × (i ≡ j)
digits_same w a b i j hi hj e =
    ⊎_elim
    (λ l. ⊎_elim
    (λ k. let same : a ≡ b = omega arith in (same, omega (arith, ap (λ (n : ℕ). n * w) same)))
    (λ k. absurd (omega (arith, rows_fit b 1 a w (omega arith))))
    (le_or_lt a b))
    (λ l. absurd (omega (arith, rows_fit a 1 b w (omega arith))))
    (le_or_lt b a)

module _ (s : Scan) (sound : Sound s) (backwards : Bool) (x : ℕ) (r : Sight) (seen : Seen s backwards x r) where
  abbrev planes : ℕ
  planes = s.setting.gaps + 1

  -- the notes of every row find room
  pub notes_fit :
      (e size : ℕ) → e < r.states → (s.steps + 1) * (s.setting.gaps + 1) ≤ size → steps_past r.plan e * r.plan.planes ≤ size
  notes_fit e size h room =
      let few =
      past_most r.plan e (s.steps + 1) (omega (arith, sight_states_short s sound backwards x r seen))
      (λ m k. sight_steps_few s sound backwards x r seen e m h k) in
      omega (
        arith,
        mul-le-mul {n₁ = steps_past r.plan e} {m₁ = r.plan.planes} {n₂ = s.steps + 1} {m₂ = s.setting.gaps + 1} few
            (omega (arith, sight_planes s sound backwards x r seen)),
      )

  module _ (plate : List ℤ) (levels : Levels plate) (on : x < s.width * s.height) (mid new : List ℕ)
      (zeros : (q : ℕ) → q < (s.steps + 1) * (s.setting.gaps + 1) → get_or mid q 0 ≡ 0)
      (d : Lifted (FromSide r.plan (ended_by s.slack r.plan (side_keys s sound backwards x r seen plate levels) (seen_at s backwards plate x r)) r.states) mid new) where
    abbrev best : ℕ → ℕ → ℕ → ℕ
    best l j q = to_pixel s sound backwards x r seen plate levels l j q

    abbrev numbers : ℕ → ℕ → ℕ → ℕ → ℕ
    numbers = ended_by s.slack r.plan (side_keys s sound backwards x r seen plate levels) (seen_at s backwards plate x r)

    abbrev From : ℕ → ℕ → Type 0
    From q v = FromSide r.plan numbers r.states q v

    abbrev note_of : ℕ → ℕ → ℕ
    note_of l j = l * planes + j

    -- what is noted of a pixel is the number of its row
    seen_is : (l j i z : ℕ) (h : HasRow r.frame r.plan r.states l i z) → best l j (place_in r.frame i z) ≡ numbers h.state h.row j z
    seen_is l j i z h = sym (rw (h.steps, h.place) at (seen_ended s sound backwards x r seen plate levels h.state h.row j z h.row_below h.low h.high))

    from_row : (l j i z : ℕ) → j ≤ s.setting.gaps → HasRow r.frame r.plan r.states l i z → From (note_of l j) (best l j (place_in r.frame i z))
    from_row l j i z hj h =
        record {
          state = h.state;
          state_below = h.state_below;
          number = record {
            row = h.row;
            row_below = h.row_below;
            number = record {
              plane = j;
              pixel = z;
              plane_below = omega (arith, sight_planes s sound backwards x r seen);
              low = h.low;
              high = h.high;
              at = rw (h.steps, sight_planes s sound backwards x r seen) (omega arith);
              is = seen_is l j i z h;
            };
          };
        }

    upper : (l j q : ℕ) → l ≤ s.steps → j ≤ s.setting.gaps → q < s.width * s.height → best l j q ≤ get_or new (note_of l j) 0
    upper l j q hl hj hq =
        let w = seen.framed.whole q hq in
        let i = w.0 in
        let z = w.1 in
        subst (λ (n : ℕ). best l j n ≤ get_or new (note_of l j) 0) w.4
        (⊎_elim (λ none. omega (arith, none j)) (λ h. d.reached (note_of l j) (best l j (place_in r.frame i z)) (from_row l j i z hj h))
        (sight_rows s sound backwards x r seen (key_of s plate) l i z hl w.2 w.3))

    -- and a note comes from a row of its steps and gaps
    from_note : (l j v : ℕ) → j ≤ s.setting.gaps → From (note_of l j) v → (q : ℕ) × (v ≡ best l j q)
    from_note l j v hj f =
        let n = f.number.number in
        let st = steps_at r.plan f.state f.number.row in
        let here = rw (sight_planes s sound backwards x r seen) at n.at in
        let few = rw (sight_planes s sound backwards x r seen) at n.plane_below in
        let same = digits_same planes st l n.plane j few (omega arith) (omega (arith, here)) in (
          pixel_in r.frame r.plan.ranked (line_at r.plan f.state f.number.row) n.pixel,
          rw (same.0, same.1) at (n.is ∙ seen_ended s sound backwards x r seen plate levels f.state f.number.row n.plane n.pixel f.number.row_below n.low n.high),
        )

    least : (l j : ℕ) → l ≤ s.steps → j ≤ s.setting.gaps → (get_or new (note_of l j) 0 ≡ 0) ⊎ ((q : ℕ) × (get_or new (note_of l j) 0 ≡ best l j q))
    least l j hl hj =
        ⊎_elim
        (λ e. inl (e ∙ zeros (note_of l j) (omega (arith, rows_fit l 1 (s.steps + 1) planes (omega arith)))))
        (λ f. inr (from_note l j (get_or new (note_of l j) 0) hj f))
        (d.source (note_of l j))

    side_noted : Noted s.slack (cells new) s.width s.height (bit_of s) backwards (key_of s plate) s.setting.gaps s.steps x
    side_noted =
        record {
          is = λ l j hl hj.
              towards_best s.slack backwards s.width s.height (bit_of s) (key_of s plate) (keys_bounded s plate levels) x l j sound.few_slack on
              (get_or new (note_of l j) 0)
              (λ q hq. upper l j q hl hj hq) (least l j hl hj);
        }

  -- all states of the side are noted, and stand behind the keys
  pub side_notes :
      (plate : List ℤ) → x < s.width * s.height → (work work' mid new : List ℕ) → KeysLaid s plate work →
      ((q : ℕ) → q < (s.steps + 1) * (s.setting.gaps + 1) → get_or mid q 0 ≡ 0) →
      SideNoted r.plan s.slack r.states (keys_size r.plan) r.states work work' mid new → NotedSide s backwards plate x work' new
  side_notes plate on work work' mid new laid zeros d =
      let keys = sight_keys s sound backwards x r seen plate work laid in
      let notes = (d.is _ _ keys (sight_sequence s sound backwards x r seen plate)).1 in
      record {
        noted = side_noted plate laid.levels on mid new zeros notes;
        left =
            keys_laid s sound backwards x r seen plate work' laid.levels
            (keys_apart r.plan (sight_sound s sound backwards x r seen) work work' _ _ _ d.apart (omega arith) keys);
      }

-- ---- the notes of both sides

-- the notes of one side find room
pub notes_small : (steps gaps : ℕ) → steps < 1024 → gaps ≤ 8 → (steps + 1) * (gaps + 1) ≤ 9216
notes_small steps gaps h k = mul-le-mul {n₁ = steps + 1} {m₁ = gaps + 1} {n₂ = 1024} {m₂ = 9} (omega arith) (omega arith)
