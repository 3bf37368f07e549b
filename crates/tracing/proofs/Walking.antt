-- A walk that counts, followed from its far end. The states of the side are fetched from the stack, each in turn the last one; the far end is a pixel
-- where the walks of all steps count, which there is because the walks from the picked pixel do; and at each turn the trail is written a step nearer.
use Prim.Native.Nat.{ℕ, zero, suc, ◌+◌, ◌-◌, ◌*◌, ◌≤◌, ◌<◌}
use mathlib.Core.Path.{◌≡◌, refl, sym, ap, ◌∙◌}
use mathlib.Core.Bool.{Bool, true, false, cond}
use mathlib.Core.List.{List}
use native.Mathlib.Omega.{arith}
use lib.ListN.{length, get_or, set}
use lib.IntN.{ℤ}
use Rattle.std.specs.Prelude.{Option, Some, IsSome}
use Rattle.basics.proofs.Numbers.{rows_fit}
use Rattle.plans.specs.Plans.{state_size, keys_size}
use Rattle.states.specs.States.{Holds}
use Rattle.stacks.specs.Stacks.{Sequence, Stacked, StackFits, Fetched, last_mark}
use Rattle.plans.specs.declared.plan.Plan.{Plan}
use Rattle.stacks.specs.declared.stack.Stack.{Stack}
use Rattle.directions.specs.Numbers.{place_kept}
use Rattle.directions.proofs.RoomLaws.{Roomy}
use Rattle.tracing.specs.Scans.{bit_of, key_of, KeysLaid}
use Rattle.tracing.proofs.Scanned.{Sound}
use Rattle.tracing.specs.Sights.{Seen, seen_at}
use Rattle.headings.specs.Trails.{Within, Trail, index_after}
use Rattle.tracing.specs.Following.{low_along, Stands, Kept, EndsAt}
use Rattle.walks.specs.Picking.{stored_at, PickedAt, Picked, StepTo}
use Rattle.walks.specs.declared.stand.Stand.{Stand}
use Rattle.tracing.specs.declared.scan.Scan.{Scan}
use Rattle.directions.specs.declared.sight.Sight.{Sight}
use Rattle.theory.specs.BestWalks.{under}
use Rattle.theory.specs.Modes.{Levels}
use Rattle.tracing.proofs.Inward.{Inward, inward_nearer, inward_trail, inward_few, inward_end}
use Rattle.walks.proofs.Picking.{picked_held}
use Rattle.tracing.proofs.Sighting.{sight_planes, sight_keys, sight_sequence}
use Rattle.tracing.proofs.Nearing.{place_of, with_gaps, stand_picked, step_wanted, gap_left, nearer_there, nearer_stands, nearer_place}

-- ---- the stack

fewer_states : (p : Plan) (keys : ℕ → ℕ) (n k : ℕ) (f : ℕ → ℕ → ℕ → ℕ → ℕ) → k ≤ n → Sequence p keys n f → Sequence p keys k f
fewer_states p keys n k f h d = record { grown = λ e l. d.grown e (omega arith) }

-- a stack with one mark at least has its last state where the last place begins
top_state :
    (work marks : List ℕ) (base : ℕ) (p : Plan) (f : ℕ → ℕ → ℕ → ℕ → ℕ) (depth want : ℕ) → Stacked work marks base p f depth →
    last_mark marks depth ≡ want → 1 ≤ want → Holds work (base + (depth - 1) * state_size p) p (want - 1) (f (want - 1))
unfolding last_mark
top_state work marks base p f zero want d e some = absurd (omega arith)
top_state work marks base p f (suc k) want d e some =
    let less : suc k - 1 ≡ k = omega arith in rw (less, ← e) (d.holds k (omega arith))

module _ (s : Scan) (b : Bool) (plate : List ℤ) (x : ℕ) (r : Sight) (sound : Sound s) (view : Seen s b x r) where
  -- before the first state is made
  module _ (work marks : List ℕ) (stack : Stack) (none : stack.depth ≡ 0) where
    pub empty_fits :
        Roomy r.plan (length work) → stack.base ≡ keys_size r.plan → 1 ≤ stack.places → stack.places ≤ 64 →
        stack.places * state_size r.plan ≤ length work - stack.base → stack.places ≤ length marks → StackFits r.plan stack (length work) (length marks)
    empty_fits room is_base some few inside in_marks =
        record {
          past_keys = omega arith;
          near = omega (arith, room.keys);
          some = some;
          few = few;
          deep = omega arith;
          in_work = omega (arith, room.alone);
          in_marks = in_marks;
        }

    pub kept_empty : KeysLaid s plate work → StackFits r.plan stack (length work) (length marks) → Kept s b plate x r work marks stack
    kept_empty laid fits =
        record {
          keys = sight_keys s sound b x r view plate work laid;
          states =
              record {
                marked = λ t l. absurd (omega arith);
                few = λ t l. absurd (omega arith);
                holds = λ t l. absurd (omega arith);
              };
          fits = fits;
        }

  module _ (work marks work' marks' : List ℕ) (stack new : Stack) (want : ℕ) (few : want ≤ r.states) (kept : Kept s b plate x r work marks stack)
      (same_base : new.base ≡ stack.base) (same-places : new.places ≡ stack.places) (deep : new.depth ≤ stack.places)
      (fetched : Fetched r.plan stack new.depth want 0 work marks work' marks') where
    stacked : Stacked work' marks' stack.base r.plan (seen_at s b plate x r) new.depth
    stacked =
        fetched.is (λ q. key_of s plate (place_kept r.frame r.plan.ranked q)) (seen_at s b plate x r) kept.keys
        (fewer_states r.plan _ r.states want (seen_at s b plate x r) few (sight_sequence s sound b x r view plate)) kept.states

    pub kept_fetched : Kept s b plate x r work' marks' new
    kept_fetched =
        let f = kept.fits in
        record {
          keys = record { is = λ q l. fetched.apart.under q (omega (arith, f.past_keys)) ∙ kept.keys.is q l };
          states = rw same_base stacked;
          fits =
              record {
                past_keys = omega (arith, f.past_keys);
                near = omega (arith, f.near);
                some = omega (arith, f.some);
                few = omega (arith, f.few);
                deep = omega arith;
                in_work = rw (same_base, same-places) (omega (arith, f.in_work, fetched.apart.len));
                in_marks = omega (arith, f.in_marks, fetched.len);
              };
        }

    module _ (top : ℕ) (is-top : top ≡ new.base + (new.depth - 1) * state_size r.plan) where
      top_same : top ≡ stack.base + (new.depth - 1) * state_size r.plan
      top_same = is-top ∙ rw same_base

      pub top_held : 1 ≤ want → Holds work' top r.plan (want - 1) (seen_at s b plate x r (want - 1))
      top_held some = rw top_same (top_state work' marks' stack.base r.plan (seen_at s b plate x r) new.depth want stacked (omega (arith, fetched.not_past, fetched.near)) some)

      -- behind the keys and within the work buffer
      pub top_fits : (keys_size r.plan ≤ top) × (top + state_size r.plan ≤ length work')
      top_fits = (
        omega (arith, top_same, kept.fits.past_keys),
        omega (
          arith,
          top_same,
          rows_fit (new.depth - 1) 1 stack.places (state_size r.plan) (omega (arith, kept.fits.some)),
          kept.fits.in_work,
          fetched.apart.len,
        ),
      )

  -- ---- a step nearer

  nearer_some : (ranked : Bool) (e m k : ℕ) → cond ranked e m ≡ suc k → 1 ≤ cond ranked e 1
  nearer_some true e m k h = omega arith
  nearer_some false e m k h = omega arith

  nearer_few : (ranked : Bool) (e : ℕ) → e < r.states → cond ranked e 1 ≤ r.states
  nearer_few true e h = omega arith
  nearer_few false e h = omega arith

  module _ (levels : Levels plate) (t : ℕ) (positive : 1 ≤ t) (old : List ℕ) (start m gaps : ℕ) (within : Within b (length old) start m)
      (path : List ℕ) (stand : Stand) where
    pub stand_wanted : (n : ℕ) → Stands s b plate x r t n stand → cond r.plan.ranked stand.state 1 ≤ r.states
    stand_wanted n d = nearer_few r.plan.ranked stand.state d.state

    pub stand_some : (n : ℕ) → Stands s b plate x r t n stand → 0 < n → 1 ≤ cond r.plan.ranked stand.state 1
    stand_some zero d l = absurd (omega arith)
    stand_some (suc n) d l = nearer_some r.plan.ranked stand.state stand.row n d.steps

    module _ (k : ℕ) (d : Stands s b plate x r t (suc k) stand) (h : suc k ≤ m)
        (inward : Inward s.slack s.width s.height (bit_of s) b (key_of s plate) t old start m gaps path (suc k) (place_of r stand) stand.gaps)
        (left : ℕ) (is-left : left ≡ stand.gaps - under t (key_of s plate (place_of r stand))) (work : List ℕ) (top want : ℕ)
        (is-want : want ≡ cond r.plan.ranked stand.state 1)
        (held : Holds work top r.plan (want - 1) (seen_at s b plate x r (want - 1))) (found : Option Stand)
        (picked : Picked (StepTo r.plan (with_gaps stand left)) (stored_at work top r.plan) r.plan left t found) where
      seen_picked : Picked (StepTo r.plan (with_gaps stand left)) (seen_at s b plate x r) r.plan left t found
      seen_picked =
          picked_held work top r.plan (seen_at s b plate x r) left t (omega (arith, d.gaps, sight_planes s sound b x r view))
          (StepTo r.plan (with_gaps stand left)) found
          (λ e n z row low high step.
          let e= : e ≡ want - 1 =
          step_wanted s b plate x r sound levels view t positive (suc k) stand d left e n z row low high step ∙ ap (λ (i : ℕ). i - 1) (sym is-want) in
          rw e= held)
          picked

      pub walk_there : IsSome found
      walk_there = nearer_there s b plate x r sound levels view t positive (suc k) stand d k refl left is-left found seen_picked

      module _ (to : Stand) (is : found ≡ Some to) where
        to_picked : PickedAt (StepTo r.plan (with_gaps stand left)) (seen_at s b plate x r) r.plan left t to
        to_picked = rw is at seen_picked

        pub walk_stands : Stands s b plate x r t k to
        walk_stands = nearer_stands s b plate x r sound levels view t positive (suc k) stand d k refl left is-left to to_picked

        pub walk_inward :
            (i place : ℕ) → i ≡ index_after b start (suc k) → place ≡ place_of r stand →
            Inward s.slack s.width s.height (bit_of s) b (key_of s plate) t old start m gaps (set path i place) k (place_of r to) to.gaps
        walk_inward i place is-i is_place =
            rw (is-i, is_place)
            (inward_nearer s.slack s.width s.height (bit_of s) b (key_of s plate) t old start m gaps within path k (place_of r stand) stand.gaps
            (place_of r to) to.gaps h inward (nearer_place s b plate x r sound levels view t positive (suc k) stand d k refl left is-left to to_picked)
            (omega (arith, to_picked.is_gaps, gap_left s b plate x r sound levels view t positive (suc k) stand d k refl)))

    -- the same with any number of steps left
    pub record Nearer (n : ℕ) (found : Option Stand) : Type 0 where
      pub there : IsSome found
      pub stands : (to : Stand) → found ≡ Some to → Stands s b plate x r t (n - 1) to
      pub inward : (to : Stand) → found ≡ Some to → (i place : ℕ) → i ≡ index_after b start n → place ≡ place_of r stand →
          Inward s.slack s.width s.height (bit_of s) b (key_of s plate) t old start m gaps (set path i place) (n - 1) (place_of r to) to.gaps

    pub walk_on :
        (n : ℕ) → 0 < n → Stands s b plate x r t n stand → n ≤ m →
        Inward s.slack s.width s.height (bit_of s) b (key_of s plate) t old start m gaps path n (place_of r stand) stand.gaps →
        (left : ℕ) → left ≡ stand.gaps - under t (key_of s plate (place_of r stand)) → (work : List ℕ) (top want : ℕ) →
        want ≡ cond r.plan.ranked stand.state 1 → Holds work top r.plan (want - 1) (seen_at s b plate x r (want - 1)) → (found : Option Stand) →
        Picked (StepTo r.plan (with_gaps stand left)) (stored_at work top r.plan) r.plan left t found → Nearer n found
    walk_on zero l d h inward left is-left work top want is-want held found picked = absurd (omega arith)
    walk_on (suc k) l d h inward left is-left work top want is-want held found picked =
        let e : suc k - 1 ≡ k = omega arith in
        record {
          there = walk_there k d h inward left is-left work top want is-want held found picked;
          stands = λ to is. rw e (walk_stands k d h inward left is-left work top want is-want held found picked to is);
          inward = λ to is i place is-i is_place.
              rw e (walk_inward k d h inward left is-left work top want is-want held found picked to is i place is-i is_place);
        }

    -- ---- the picked pixel is come to

    module _ (n : ℕ) (none : n ≡ 0) (d : Stands s b plate x r t n stand) (picked : x ≡ get_or old start 0)
        (inward : Inward s.slack s.width s.height (bit_of s) b (key_of s plate) t old start m gaps path n (place_of r stand) stand.gaps) where
      pub walk_ends :
          Trail s.width s.height (bit_of s) b old path start m
          × ((low_along b (key_of s plate) t path start (m + 1) ≤ gaps) × EndsAt s plate t (get_or path (index_after b start m) 0))
      walk_ends =
          let l = stand_picked s b plate x r sound levels view t positive n stand d none in
          let i = rw none at inward in (
            inward_trail s.slack s.width s.height (bit_of s) b (key_of s plate) t old start m gaps within path (place_of r stand) stand.gaps i (l.0 ∙ picked),
            (
              inward_few s.slack s.width s.height (bit_of s) b (key_of s plate) t old start m gaps within path (place_of r stand) stand.gaps i (l.0 ∙ picked) l.1,
              inward_end s.slack s.width s.height (bit_of s) b (key_of s plate) t old start m gaps within path (place_of r stand) stand.gaps i (l.0 ∙ picked),
            ),
          )
