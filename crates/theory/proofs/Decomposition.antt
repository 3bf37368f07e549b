-- The decomposition that the engine computes is the opening of the definitions: formula (4) of source 001, taken on levels instead of on
-- thresholds, and over all l and j. Its formula (2) lets every start of a path count with no gap; that slip is mended by `best_walk`, whose recursion
-- (3) holds with no gap left too. A path counts at a level just when its walk counts at the level's key, and a walk through x is split there.
use Prim.Native.Nat.{ℕ, suc, ◌+◌, ◌*◌, ◌≤◌, ◌<◌, max}
use mathlib.Core.Path.{◌≡◌, refl, ap}
use mathlib.Core.List.{List, [], ◌∷◌, Memᴰ}
use native.Mathlib.Omega.{arith}
use mathlib.Core.Logic.{⊎_elim}
use lib.Dec.{T, eqb}
use borrow.Author.Tests.{eqb-true}
use lib.IntN.{ℤ}
use lib.Signed.{mag}
use Rattle.plate.specs.Directions.{chosen}
use Rattle.plate.specs.Levels.{level}
use Rattle.basics.proofs.Numbers.{le_or_lt}
use Rattle.basics.proofs.Tests.{true_or_false}
use Rattle.plate.specs.Paths.{next, ends_of}
use Rattle.plate.specs.Opening.{level_at, below, admits, opened_at}
use Rattle.plate.specs.declared.setting.Setting.{Setting}
use Rattle.theory.specs.Walks.{Walk, last_of, back}
use Rattle.theory.specs.BestWalks.{under, low_pixels, gap_end, ended, best_through, in_direction, value, key_at}
use Rattle.plate.proofs.Keys.{lt_z_key, key_bound}
use Rattle.theory.proofs.Listed.{listed_walk, walk_listed, walk_started, paths_find, paths_keep}
use Rattle.theory.proofs.Reversal.{turn, turn_back}
use Rattle.theory.proofs.Walks.{walk_ends}
use Rattle.theory.proofs.LevelSets.{under_low, under_high}
use Rattle.theory.proofs.Admission.{admitted_few, admitted_ends, few_admitted}
use Rattle.theory.proofs.Opening.{Counts, opened_is}
use Rattle.theory.proofs.Maxima.{best_find, best_keep, upto_find, upto_keep}
use Rattle.theory.proofs.Splitting.{Crossing, Halves, split, unsplit}

-- ---- one direction

module _ {slack : ℕ} {next back : ℕ → List ℕ} {g : ℕ → ℕ} where
  pub across_keep : {t m k x : ℕ} → Halves slack next back g t m k x → t ≤ best_through slack next back g m k x
  unfolding best_through
  across_keep {t} {m} {k} h =
      upto_keep _ t m h.l h.l≤m (upto_keep _ t k h.i h.i≤k (omega (arith, h.to_x, h.from_x)))

  pub across_find : (t m k x : ℕ) → t ≤ best_through slack next back g m k x → Halves slack next back g t m k x
  unfolding best_through
  across_find t m k x h =
      let a = upto_find _ t m h in
      let b = upto_find _ t k a.2 in
      record { l = a.0; i = b.0; l≤m = a.1; i≤k = b.1; to_x = omega (arith, b.2); from_x = omega (arith, b.2) }

-- ---- the theorem

-- an end that is not below t where it must not be, told by the number that an end may have
module _ (ends t a : ℕ) where
  ended_clear : t ≤ ended (gap_end ends) a → ends ≡ 1 → under t a ≡ 0
  unfolding gap_end
  ended_clear h e = let l : t ≤ max a 0 = rw e at h in under_high t a (omega arith)

  clear_ended : t ≤ 65535 → (ends ≡ 1 → under t a ≡ 0) → t ≤ ended (gap_end ends) a
  unfolding gap_end
  clear_ended small h =
      ⊎_elim
      (λ e. ⊎_elim (λ l. omega arith) (λ l. absurd (omega (arith, under_low t a l, h (eqb-true ends 1 e)))) (le_or_lt t a))
      (λ e. rw e (omega arith))
      (true_or_false (eqb ends 1))

module _ (f : List ℤ) (sized : (p : ℕ) → mag (level_at f p) < 32768) where
  -- From `admits` to the count of low pixels: a path is admitted at a level where at most k of its pixels have a lower key, and with `ends` 1 neither
  -- of its ends has. Only here does the decomposition look at the rule of `admits` and open `below`.
  pub below_keys : (t : ℕ) (ps : List ℕ) → below f (level t) ps ≡ low_pixels (key_at f) t ps
  unfolding below low_pixels under
  below_keys t [] = refl
  below_keys t (p ∷ ps) = rw (lt_z_key (level_at f p) t (sized p), below_keys t ps)

  -- the ends of a walk that are below
  below_ends :
      {next : ℕ → List ℕ} {m p : ℕ} {ps : List ℕ} (t : ℕ) → Walk next m p ps →
      below f (level t) (ends_of ps) ≡ under t (key_at f p) + under t (key_at f (last_of ps))
  unfolding low_pixels
  below_ends {p = p} {ps} t w = omega (arith, below_keys t (ends_of ps), ap (low_pixels (key_at f) t) (walk_ends w))

  -- L pixels are m steps: L = m + 1
  module _ (s : Setting) (W H m x : ℕ) where
    abbrev slack : ℕ
    slack = gap_end s.ends

    -- a path that counts at a level is, in one of the chosen directions, a walk that counts at its key
    counts_crossing : s.length ≡ suc m → (t : ℕ) → t ≤ 65535 → Counts s W H f x (level t) →
        (bit : ℕ) × Memᴰ bit (chosen s.directions) × Crossing slack (next W H bit) (key_at f) t m s.gaps x
    counts_crossing long t small c =
        let d = paths_find W H s.directions (suc m) c.path (rw long at c.listed) in
        let l = listed_walk W H d.0 m c.path d.2 in
        let clear : s.ends ≡ 1 → under t (key_at f l.start) + under t (key_at f (last_of c.path)) ≡ 0 =
        λ one. omega (arith, below_ends t l.walk, admitted_ends s f (level t) c.path c.admitted one) in (
          d.0,
          d.1,
          record {
            start = l.start;
            pixels = c.path;
            walk = l.walk;
            crosses = c.crosses;
            few = omega (arith, admitted_few s f (level t) c.path c.admitted, below_keys t c.path);
            starts = clear_ended s.ends t _ small (λ one. omega (arith, clear one));
            ends = clear_ended s.ends t _ small (λ one. omega (arith, clear one));
          },
        )

    pub walk_admitted :
        {next : ℕ → List ℕ} {p : ℕ} {ps : List ℕ} (t : ℕ) → Walk next m p ps → low_pixels (key_at f) t ps ≤ s.gaps →
        t ≤ ended slack (key_at f p) → t ≤ ended slack (key_at f (last_of ps)) → T (admits s f (level t) ps)
    walk_admitted {ps = ps} t w few starts ends =
        few_admitted s f (level t) ps (omega (arith, below_keys t ps))
        (λ one. omega (arith, below_ends t w, ended_clear s.ends t _ starts one, ended_clear s.ends t _ ends one))

    crossing_counts : x < W * H → s.length ≡ suc m → (t bit : ℕ) → Memᴰ bit (chosen s.directions) →
        Crossing slack (next W H bit) (key_at f) t m s.gaps x → Counts s W H f x (level t)
    crossing_counts on long t bit i c =
        let j = walk_listed W H bit (walk_started W H bit c.walk c.crosses on) c.walk in
        record {
          path = c.pixels;
          listed = rw long (paths_keep W H s.directions (suc m) i j);
          crosses = c.crosses;
          admitted = walk_admitted t c.walk c.few c.starts c.ends;
        }

    abbrev across_in : ℕ → ℕ
    across_in bit = in_direction slack W H bit m s.gaps (key_at f) x

    abbrev opened_key : ℕ
    opened_key = value slack W H (chosen s.directions) m s.gaps (key_at f) x

    counts_value : s.length ≡ suc m → (t : ℕ) → t ≤ key_at f x → Counts s W H f x (level t) → t ≤ opened_key
    unfolding value
    counts_value long t low c =
        let small : t ≤ 65535 = omega (arith, key_bound (level_at f x) (sized x)) in
        let r = counts_crossing long t small c in
        let bit : ℕ = r.0 in
        let halves = split slack (next W H bit) (back W H bit) (key_at f) t (turn W H bit) low r.2 in
        omega (arith, best_keep across_in t bit r.1 (across_keep halves))

    value_counts : x < W * H → s.length ≡ suc m → (t : ℕ) → 1 ≤ t → t ≤ opened_key → Counts s W H f x (level t)
    unfolding value
    value_counts on long t positive h =
        let r = best_find across_in t (chosen s.directions) positive (omega arith) in
        let bit : ℕ = r.0 in
        let halves = across_find t m s.gaps x r.2 in
        crossing_counts on long t bit r.1 (unsplit slack (next W H bit) (back W H bit) (key_at f) t (turn_back W H bit) positive halves)

    value_below_own : opened_key ≤ key_at f x
    unfolding value
    value_below_own = omega arith

    pub opened_value : x < W * H → s.length ≡ suc m →
        opened_at s W H f x ≡ level (value (gap_end s.ends) W H (chosen s.directions) m s.gaps (key_at f) x)
    opened_value on long =
        opened_is s W H f x opened_key value_below_own (λ positive. value_counts on long opened_key positive (omega arith))
        (λ t positive low c. counts_value long t low c)
