-- A side of a direction, seen from the picked pixel: its plan is that of a trace, so its laws are those of `TracePlans`, by the scan.
use Prim.Native.Nat.{ℕ, ◌+◌, ◌-◌, ◌*◌, ◌≤◌, ◌<◌}
use mathlib.Core.Path.{◌≡◌, refl, sym, ap, subst, ◌∙◌}
use mathlib.Core.Bool.{Bool, true, false}
use mathlib.Core.List.{List}
use mathlib.Core.Logic.{◌⊎◌}
use native.Mathlib.Omega.{arith}
use lib.ListN.{length}
use lib.IntN.{ℤ}
use lib.Signed.{mag}
use Rattle.std.specs.Prelude.{Some, IsSome}
use Rattle.plate.specs.Opening.{level_at}
use Rattle.theory.proofs.Opening.{levels_within}
use Rattle.theory.proofs.Towards.{towards}
use Rattle.frames.specs.Frames.{place_in}
use Rattle.frames.specs.declared.frame.Frame.{Frame}
use Rattle.plans.specs.Forms.{well_formed}
use Rattle.plans.proofs.FormLaws.{well_formed_sound}
use Rattle.plans.specs.Plans.{rows_in, keys_of, keys_size, steps_at}
use Rattle.plans.specs.Plans.{Sound as SoundPlan}
use Rattle.stacks.specs.Stacks.{KeysAre, Sequence}
use Rattle.plans.specs.declared.plan.Plan.{Plan}
use Rattle.directions.specs.Plans.{by_rows}
use Rattle.directions.specs.Numbers.{KeptOn, place_kept, keys_by}
use Rattle.directions.specs.Doors.{frame_of, spot_of, fits, lays, Laid, sight_of}
use Rattle.directions.proofs.DoorLaws.{fits_if, lays_if}
use Rattle.directions.proofs.SightLaws.{sight_there, sight_told}
use Rattle.directions.proofs.TableLaws.{frame_told}
use Rattle.directions.proofs.TraceLaws.{spot_known}
use Rattle.directions.proofs.KeptLaws.{kept_line, kept_rank, inside_line, inside_rank}
use Rattle.directions.proofs.TraceRows.{HasRow, trace_rows}
use Rattle.directions.proofs.RoomLaws.{Roomy}
use Rattle.directions.proofs.TracePlans.{trace_planes, trace_slack, trace_lines, trace_across, trace_ranked, trace_states_few, trace_steps_few, trace_formed, trace_room, trace_sequence}
use Rattle.tracing.specs.Scans.{bit_of, key_of, KeysLaid}
use Rattle.tracing.proofs.Scanned.{Sound}
use Rattle.tracing.specs.Sights.{Seen, seen_at}
use Rattle.tracing.specs.declared.scan.Scan.{Scan}
use Rattle.directions.specs.declared.sight.Sight.{Sight}
use Rattle.theory.specs.Modes.{Levels}
use Rattle.theory.specs.Walks.{opposite}

-- the numbers of a scan fit
pub scan_fits : (s : Scan) → Sound s → fits s.width s.height s.setting s.index ≡ true
scan_fits s sound =
    fits_if s.width s.height s.setting s.index
    (record {
      size = sound.size;
      known = sound.known;
      some = omega (arith, sound.is_length);
      few = omega (arith, sound.is_length, sound.few_steps);
      few_gaps = sound.few;
      long = omega (arith, sound.is_length, sound.long);
    })

-- from a pixel of the plate there is something to see
pub seen_there : (s : Scan) → Sound s → (backwards : Bool) (x : ℕ) → x < s.width * s.height → IsSome (sight_of s.width s.height s.setting s.index backwards x)
seen_there s sound backwards x on = sight_there s.width s.height s.setting s.index backwards x (scan_fits s sound) on

-- what is seen
pub seen_by : (s : Scan) → Sound s → (backwards : Bool) (x : ℕ) → x < s.width * s.height → (r : Sight) →
    Some r ≡ sight_of s.width s.height s.setting s.index backwards x → Seen s backwards x r
seen_by s sound backwards x on r e =
    let told = sight_told s.width s.height s.setting s.index backwards x (scan_fits s sound) on r e in
    let known = frame_told s.width s.height sound.size r.frame s.index sound.known told.0 in
    record {
      is_frame = told.0;
      framed = known.0;
      of = known.1;
      spot = spot_of s.width s.height s.index x;
      is_spot = rw told.0 (spot_known s.width s.height s.index x sound.size sound.known on);
      is_plan = told.1 ∙ rw (told.0, sound.is_length) refl;
      is_states = told.2 ∙ rw (told.0, sound.is_length) refl;
    }

module _ (s : Scan) (sound : Sound s) (backwards : Bool) (x : ℕ) (r : Sight) (seen : Seen s backwards x r) where
  abbrev rows : Bool
  rows = by_rows s.width s.height s.index

  abbrev back : Bool
  back = opposite backwards

  pub sight_planes : r.plan.planes ≡ s.setting.gaps + 1
  sight_planes = rw seen.is_plan (trace_planes r.frame rows back (s.steps + 1) (s.setting.gaps + 1) seen.spot)

  pub sight_lines : r.plan.lines ≡ r.frame.lines
  sight_lines = rw seen.is_plan (trace_lines r.frame rows back (s.steps + 1) (s.setting.gaps + 1) seen.spot)

  pub sight_across : r.plan.across ≡ r.frame.across
  sight_across = rw seen.is_plan (trace_across r.frame rows back (s.steps + 1) (s.setting.gaps + 1) seen.spot)

  sight_ranked : r.plan.ranked ≡ r.frame.diagonal
  sight_ranked =
      ap (λ (p : Plan). p.ranked) seen.is_plan ∙ trace_ranked r.frame rows back (s.steps + 1) (s.setting.gaps + 1) seen.spot

  -- the walks start at the picked pixel, which may be a gap
  pub sight_slack : r.plan.slack ≡ 65535
  sight_slack =
      ap (λ (p : Plan). p.slack) seen.is_plan ∙ trace_slack r.frame rows back (s.steps + 1) (s.setting.gaps + 1) seen.spot

  pub sight_keys_size : keys_size r.plan ≡ r.frame.lines * r.frame.across
  sight_keys_size = rw (sight_lines, sight_across)

  pub sight_area : r.frame.lines * r.frame.across ≡ s.width * s.height
  sight_area = seen.framed.area

  pub sight_formed : well_formed r.plan ≡ true
  sight_formed =
      rw seen.is_plan
      (trace_formed r.frame s.width s.height s.index seen.framed seen.of rows back (s.steps + 1) (s.setting.gaps + 1) seen.spot x
      seen.is_spot
      (omega arith) (omega (arith, sound.few_steps)) (omega arith) (omega (arith, sound.few)))

  pub sight_sound : SoundPlan r.plan
  sight_sound = well_formed_sound r.plan sight_formed

  pub sight_room : (room : ℕ) → 4 * (s.setting.gaps + 1) * (s.width * s.height) ≤ room → Roomy r.plan room
  sight_room room h =
      rw seen.is_plan
      (trace_room r.frame s.width s.height s.index seen.framed seen.of rows back (s.steps + 1) (s.setting.gaps + 1) seen.spot x
      seen.is_spot
      (omega arith) (omega (arith, sound.few)) (omega arith) (omega (arith, sound.few_steps)) room (rw seen.framed.area h))

  states_both : (r.states ≤ s.steps + 1) × (r.states ≤ 1024)
  states_both =
      rw seen.is_states
      (trace_states_few r.frame rows back (s.steps + 1) (s.setting.gaps + 1) seen.spot (omega arith) (omega (arith, sound.few_steps)))

  pub sight_states_short : r.states ≤ s.steps + 1
  sight_states_short = states_both.0

  pub sight_states_few : r.states ≤ 1024
  sight_states_few = states_both.1

  pub sight_steps_few : (e m : ℕ) → e < r.states → m < rows_in r.plan e → steps_at r.plan e m < s.steps + 1
  sight_steps_few e m h k =
      rw seen.is_plan
      (trace_steps_few r.frame rows back (s.steps + 1) (s.setting.gaps + 1) seen.spot e m (rw seen.is_states at h) (rw seen.is_plan at k))

  pub sight_kept : KeptOn r.frame r.plan.ranked
  sight_kept =
      record {
        bounded = seen.framed.bounded;
        lies = λ i z hi hz. omega (arith, seen.framed.lies i z hi hz, seen.framed.area);
        slim = λ e. seen.of.slim (sym sight_ranked ∙ e);
      }

  -- the keys find room
  pub sight_lays : (plate work : ℕ) → plate ≡ s.width * s.height → s.width * s.height ≤ work →
      lays s.width s.height s.index r.plan.ranked plate work ≡ true
  sight_lays plate work =
      lays_if s.width s.height s.index r.plan.ranked plate work sound.size sound.known
      (λ e. rw seen.is_frame at (sight_kept.slim e))

  -- the keys of the plate stand where the plan has them
  place_same : (q : ℕ) →
      let f = frame_of s.width s.height s.index in place_kept f f.diagonal q ≡ place_kept r.frame r.plan.ranked q
  place_same q = rw (sight_ranked, seen.is_frame) refl

  pub sight_keys :
      (plate : List ℤ) (work : List ℕ) → KeysLaid s plate work → KeysAre work r.plan (λ q. key_of s plate (place_kept r.frame r.plan.ranked q))
  sight_keys plate work l = record { is = λ q h. l.keys q (omega (arith, sight_keys_size, sight_area)) ∙ ap (key_of s plate) (place_same q) }

  pub keys_laid :
      (plate : List ℤ) (work : List ℕ) → Levels plate → KeysAre work r.plan (λ q. key_of s plate (place_kept r.frame r.plan.ranked q)) →
      KeysLaid s plate work
  keys_laid plate work levels k =
      record { keys = λ q h. k.is q (omega (arith, sight_keys_size, sight_area)) ∙ ap (key_of s plate) (sym (place_same q)); levels = levels }

  -- every pixel has its key somewhere
  kept_by : (b : Bool) → r.plan.ranked ≡ b → (i z : ℕ) → i < r.frame.lines → z < r.frame.across →
      (q : ℕ) × (q < r.frame.lines * r.frame.across) × (place_kept r.frame b q ≡ place_in r.frame i z)
  kept_by true e i z hi hz =
      let slim = sight_kept.slim e in
      let i= : i + z - z ≡ i = omega arith in (
        keys_of r.plan (i + z) + z,
        inside_rank r.frame r.plan sight_lines sight_across (i + z) z hz (omega arith) (omega arith) slim,
        kept_rank r.frame r.plan sight_lines sight_across (i + z) z hz (omega arith) (omega arith) slim ∙ ap (λ (n : ℕ). place_in r.frame n z) i=,
      )
  kept_by false e i z hi hz = (
    keys_of r.plan i + z,
    inside_line r.frame r.plan sight_lines sight_across i z hz hi,
    kept_line r.frame r.plan sight_lines sight_across i z hz hi,
  )

  -- so that all levels are read where the keys are laid
  pub all_laid :
      (plate : List ℤ) (old new : List ℕ) → length plate ≡ s.width * s.height →
      Laid s.width s.height s.index r.plan.ranked s.setting.mode plate old new → KeysLaid s plate new
  unfolding key_of keys_by
  all_laid plate old new size l =
      keys_laid plate new
      (levels_within plate
      (λ p h.
      let w = seen.framed.whole p (omega arith) in
      let k = kept_by r.plan.ranked refl w.0 w.1 w.2 w.3 in
      subst (λ (n : ℕ). mag (level_at plate n) < 32768) (ap (λ (f : Frame). place_kept f r.plan.ranked k.0) (sym seen.is_frame) ∙ k.2 ∙ w.4)
      (l.small.size k.0 (omega arith) (omega (arith, k.1, sight_area)))))
      (record { is = λ q h. rw seen.is_frame (l.keys.inside q (omega arith) (omega (arith, sight_keys_size, sight_area))) })

  pub sight_sequence :
      (plate : List ℤ) → Sequence r.plan (λ q. key_of s plate (place_kept r.frame r.plan.ranked q)) r.states (seen_at s backwards plate x r)
  sight_sequence plate =
      rw (seen.is_plan, seen.is_states)
      (trace_sequence r.frame s.width s.height s.index seen.framed seen.of rows back (s.steps + 1) (s.setting.gaps + 1) seen.spot x
      seen.is_spot
      (key_of s plate) _ (λ q. refl))

  -- a pixel whose walks of l steps count at all has a row of the plan
  pub sight_rows :
      (g : ℕ → ℕ) (l i z : ℕ) → l ≤ s.steps → i < r.frame.lines → z < r.frame.across →
      ((j : ℕ) → towards backwards s.width s.height (bit_of s) g x l j (place_in r.frame i z) ≡ 0) ⊎ HasRow r.frame r.plan r.states l i z
  sight_rows g l i z h hi hz =
      rw (seen.is_plan, seen.is_states)
      (trace_rows r.frame s.width s.height s.index seen.framed seen.of rows back (s.steps + 1) (s.setting.gaps + 1) seen.spot x
      seen.is_spot g l i z
      (omega arith) hi hz)
