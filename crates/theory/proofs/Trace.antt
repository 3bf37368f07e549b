-- Demand 3 follows from its first half: an engine that shows a path through the pixel, in a chosen direction, that counts at the filtered level has
-- shown all of it. That nothing is better is that the filtered level is the highest, and that the filtered plate traces to the same level is that
-- filtering twice is filtering once.
use Prim.Native.Nat.{ℕ, ◌+◌, ◌*◌, ◌≤◌, ◌<◌}
use mathlib.Core.Path.{◌≡◌, refl, sym, ap, ◌∙◌}
use mathlib.Core.Bool.{false, not}
use mathlib.Core.List.{List, [], ◌∷◌, map, Memᴰ}
use native.Mathlib.Omega.{arith}
use lib.Dec.{T, not_T, eqb}
use lib.ListN.{length}
use lib.IntN.{ℤ}
use lib.Signed.{mag, lt_z, ◌≤ℤ◌, ◌<ℤ◌, lt_z_yes, lt_z_no, clash_ℤ}
use borrow.Author.Tests.{eq-eqb, le-ltb, eqb-true, leb-false, not-false}
use Rattle.basics.proofs.Order.{lt_le, mag_between}
use Rattle.plate.specs.Directions.{chosen}
use Rattle.plate.specs.Paths.{paths_in, paths, through, ends_of}
use Rattle.plate.specs.Opening.{level_at, below, admits, filtered}
use Rattle.plate.specs.Refusals.{Verdict.accepted, Clear, trace_checks, trace_verdict}
use Rattle.plate.specs.declared.setting.Setting.{Setting}
use Rattle.plate.proofs.Keys.{mirror_lt_z}
use Rattle.plate.proofs.Verdicts.{clear_accepted, accepted_clear}
use Rattle.theory.specs.Trace.{short, better, Few, Shows}
use Rattle.theory.specs.Modes.{Levels, as_mode}
use Rattle.theory.proofs.Listed.{through_mem, listed_on, paths_keep}
use Rattle.theory.proofs.Admission.{ends_on_path, admitted_few, admitted_ends, few_admitted}
use Rattle.theory.proofs.Mirror.{turned_size, as-mode, level_at_turned, filtered_length, filtered_levels, filtered_highest, filtered_idempotent}

-- ---- counts and orders by the mode are those of the turned plate

module _ (s : Setting) where
  better_turned : (v t : ℤ) → better s v t ≡ lt_z (as_mode s t) (as_mode s v)
  unfolding better
  better_turned v t = as-mode s (λ e q. rw (e, q)) (λ e q. rw (e, q) (sym (mirror_lt_z t v)))

  short_turned : (f : List ℤ) (t : ℤ) (path : List ℕ) → ((p : ℕ) → Memᴰ p path → p < length f) → short s f t path ≡ below (map (as_mode s) f) (as_mode s t) path
  unfolding short below
  short_turned f t [] on = refl
  short_turned f t (p ∷ path) on =
      rw (better_turned t (level_at f p), level_at_turned s f p (on p (mathlib.Core.List.Memᴰ.head refl)), short_turned f t path (λ q i. on q (mathlib.Core.List.Memᴰ.tail i)))

  -- so a path counts, as demand 3 says it, just where it is admitted on the turned plate
  module _ (f : List ℤ) (t : ℤ) (path : List ℕ) (on : (p : ℕ) → Memᴰ p path → p < length f) where
    ends_turned : short s f t (ends_of path) ≡ below (map (as_mode s) f) (as_mode s t) (ends_of path)
    ends_turned = short_turned f t (ends_of path) (λ p i. on p (ends_on_path path p i))

    few_counts : Few s f t path → T (admits s (map (as_mode s) f) (as_mode s t) path)
    few_counts few =
        few_admitted s (map (as_mode s) f) (as_mode s t) path (omega (arith, few.pixels, short_turned f t path on)) (λ one. sym ends_turned ∙ few.ends one)

    counts_few : T (admits s (map (as_mode s) f) (as_mode s t) path) → Few s f t path
    counts_few counts =
        record {
          pixels = omega (arith, short_turned f t path on, admitted_few s (map (as_mode s) f) (as_mode s t) path counts);
          ends = λ one. ends_turned ∙ admitted_ends s (map (as_mode s) f) (as_mode s t) path counts one;
        }

-- ---- what an accepted trace was checked for, and that the filtered plate passes the same checks

module _ (s : Setting) (W H : ℕ) (f : List ℤ) (x room work : ℕ) (level : ℤ) (accepts : trace_verdict W H s f x room work ≡ accepted level) where
  checked : (level_at (filtered s W H f) x ≡ level) × Clear (trace_checks W H s (length f) x room work)
  unfolding trace_verdict
  checked = accepted_clear (trace_checks W H s (length f) x room work) (level_at (filtered s W H f) x) level accepts

  pub traced_level_lem : level_at (filtered s W H f) x ≡ level
  traced_level_lem = checked.0

  pub traced_exact : length f ≡ W * H
  traced_exact = eqb-true (length f) (W * H) (not-false _ checked.1.1.1.1.1.1.1.0)

  pub traced_on : x < W * H
  traced_on = leb-false (W * H) x checked.1.1.1.1.1.1.1.1.1.1.0

  traced_again : Levels f → (room' : ℕ) → 4 * (s.gaps + 1) * (W * H) ≤ room' → trace_verdict W H s (filtered s W H f) x s.length room' ≡ accepted level
  unfolding trace_verdict
  traced_again l room' large =
      let g = filtered s W H f in
      let c = checked.1 in
      let d = c.1.1.1.1.1.1 in
      let exact : not (eqb (length g) (W * H)) ≡ false = rw (eq-eqb (length g) (W * H) (filtered_length s W H f)) in
      let whole : not (eqb s.length s.length) ≡ false = rw (eq-eqb s.length s.length refl) in
      clear_accepted (trace_checks W H s (length g) x s.length room') (level_at (filtered s W H g) x)
      (c.0, (c.1.0, (c.1.1.0, (c.1.1.1.0, (c.1.1.1.1.0, (c.1.1.1.1.1.0, (exact, (whole, (le-ltb _ _ large, d.1.1.1)))))))))
      ∙ ap accepted (ap (λ (h : List ℤ). level_at h x) (filtered_idempotent s W H f l) ∙ traced_level_lem)

  -- ---- demand 3

  module _ (l : Levels f) where
    own_small : (v : ℤ) → mag v < 32768 → mag (as_mode s v) < 32768
    own_small v h = rw (turned_size s v) h

    level_small : mag (as_mode s level) < 32768
    level_small = own_small level (rw traced_level_lem at ((filtered_levels s W H f l).size x))

    -- a better level, up to the pixel's own, at which another path counts, would be the filtered level or a worse one
    nothing_better :
        (t : ℤ) → T (better s t level) → (T (better s t (level_at f x)) → ⊥) → (way : ℕ) → Memᴰ way (chosen s.directions) → (other : List ℕ) →
        Memᴰ other (paths_in W H s.length way) → T (through x other) → Few s f t other → ⊥
    nothing_better t higher own way chosen-way other is_path crosses few =
        let listed : Memᴰ other (paths W H s.directions s.length) = paths_keep W H s.directions s.length chosen-way is_path in
        let on : (p : ℕ) → Memᴰ p other → p < length f = λ p i. omega (arith, listed_on W H s.directions s.length other listed p i, traced_exact) in
        let within : as_mode s t ≤ℤ as_mode s (level_at f x) = lt_z_no (not_T (lt_z (as_mode s (level_at f x)) (as_mode s t)) (λ u. own (rw (better_turned s t (level_at f x)) u))) in
        let above : as_mode s level <ℤ as_mode s t = lt_z_yes (rw (← better_turned s t level) higher) in
        let counts : T (admits s (map (as_mode s) f) (as_mode s t) other) = few_counts s f t other on few in
        let small : mag (as_mode s t) < 32768 = mag_between (lt_le above) within level_small (own_small (level_at f x) (l.size x)) in
        clash_ℤ above
        (rw traced_level_lem at
        (filtered_highest s W H f traced_exact l x traced_on (as_mode s t) small within
        (record { path = other; listed = listed; crosses = through_mem x other crosses; admitted = counts })))

    -- what the engine has to show is enough
    pub shows :
        (direction : ℕ) (path : List ℕ) → Memᴰ direction (chosen s.directions) → Memᴰ path (paths_in W H s.length direction) → T (through x path) →
        T (admits s (map (as_mode s) f) (as_mode s level) path) → Shows s W H f x direction level path
    shows direction path chosen-way is_path crosses counts =
        let listed : Memᴰ path (paths W H s.directions s.length) = paths_keep W H s.directions s.length chosen-way is_path in
        let on : (p : ℕ) → Memᴰ p path → p < length f = λ p i. omega (arith, listed_on W H s.directions s.length path listed p i, traced_exact) in
        record {
          is_path = is_path;
          is_chosen = chosen-way;
          crosses = crosses;
          few = counts_few s f level path on counts;
          best = nothing_better;
          is_filtered = sym traced_level_lem;
          again = traced_again l;
        }
