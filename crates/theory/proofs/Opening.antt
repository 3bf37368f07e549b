-- The laws of the opening. The opened level is characterised by two of them: it is attained by a path that counts, and no level that counts is
-- above it. Every later proof uses these in place of the definition's text.
use Prim.Native.Nat.{ℕ, ◌*◌, ◌≤◌, ◌<◌}
use mathlib.Core.Path.{◌≡◌, sym, ap, subst, ◌∙◌}
use mathlib.Core.Bool.{false, ◌&&◌}
use mathlib.Core.List.{List, Memᴰ}
use mathlib.Core.Logic.{◌⊎◌, inl, inr, ⊎_elim}
use native.Mathlib.Omega.{arith}
use lib.Dec.{T}
use lib.ListN.{length, length-map, get_or-eq_default}
use lib.Seq.{ext_get_or}
use lib.IntN.{ℤ}
use lib.Signed.{mag, ◌≤ℤ◌}
use Rattle.basics.proofs.Numbers.{le_or_lt}
use Rattle.basics.proofs.Tests.{and_both, both_and}
use Rattle.basics.proofs.Lists.{any_find, any-keep, map_at}
use Rattle.basics.proofs.Order.{≤ℤ-trans}
use Rattle.plate.specs.Levels.{lowest, level, key}
use Rattle.plate.specs.Paths.{places, paths, through, crossed}
use Rattle.plate.specs.Opening.{level_at, admits, kept, opened_at, opened}
use Rattle.plate.specs.declared.setting.Setting.{Setting}
use Rattle.theory.specs.Modes.{Levels}
use Rattle.plate.proofs.Keys.{lowest_le}
use Rattle.theory.proofs.Listed.{places_length, places_at, through_mem, mem_through, listed_on, crossed_find, crossed_keep}
use Rattle.theory.proofs.Highest.{highest_size, highest_not_above, highest_passes_or_lowest, passing_not_above_highest, highest_is}
use Rattle.theory.proofs.Admission.{admitted_monotone, admitted_lowest}

-- it is enough to look at the plate: past its end the level is the lowest
pub levels_within : (f : List ℤ) → ((p : ℕ) → p < length f → mag (level_at f p) < 32768) → Levels f
levels_within f h =
    record {
      size = λ p. ⊎_elim (λ l. subst (λ (v : ℤ). mag v < 32768) (sym (get_or-eq_default f lowest l)) (omega arith)) (h p) (le_or_lt (length f) p);
    }

-- some path of length L through x in a chosen direction counts at t
pub record Counts (s : Setting) (W H : ℕ) (f : List ℤ) (x : ℕ) (t : ℤ) : Type 0 where
  pub path : List ℕ
  pub listed : Memᴰ path (paths W H s.directions s.length)
  pub crosses : Memᴰ x path
  pub admitted : T (admits s f t path)

module _ (s : Setting) (W H : ℕ) where
  -- ---- paths that count

  -- the same path, in another plate or at another level
  pub recounted : {f g : List ℤ} {x : ℕ} {t u : ℤ} → (c : Counts s W H f x t) → T (admits s g u c.path) → Counts s W H g x u
  recounted c a = record { path = c.path; listed = c.listed; crosses = c.crosses; admitted = a }

  -- it counts for each of its pixels
  pub counts_along : {f : List ℤ} {x p : ℕ} {t : ℤ} → (c : Counts s W H f x t) → Memᴰ p c.path → Counts s W H f p t
  counts_along c i = record { path = c.path; listed = c.listed; crosses = i; admitted = c.admitted }

  pub counts_on : {f : List ℤ} {x : ℕ} {t : ℤ} → (c : Counts s W H f x t) → (p : ℕ) → Memᴰ p c.path → p < W * H
  counts_on c = listed_on W H s.directions s.length c.path c.listed

  pub counts_monotone :
      (f g : List ℤ) → ((p : ℕ) → p < W * H → level_at f p ≤ℤ level_at g p) → {x : ℕ} {t : ℤ} → Counts s W H f x t → Counts s W H g x t
  counts_monotone f g h {t = t} c =
      recounted c (admitted_monotone s f g t c.path (λ p i. h p (counts_on c p i)) c.admitted)

  -- ---- the test of the search

  pub kept_counts : (f : List ℤ) (x : ℕ) (t : ℤ) → T (kept s (paths W H s.directions s.length) f x t) → Counts s W H f x t
  unfolding kept
  kept_counts f x t h =
      let r = any_find (λ path. through x path && admits s f t path) (paths W H s.directions s.length) h in
      let b = and_both (through x r.0) (admits s f t r.0) r.2 in
      record { path = r.0; listed = r.1; crosses = through_mem x r.0 b.0; admitted = b.1 }

  pub counts_kept : (f : List ℤ) (x : ℕ) (t : ℤ) → Counts s W H f x t → T (kept s (paths W H s.directions s.length) f x t)
  unfolding kept
  counts_kept f x t c =
      any-keep (λ path. through x path && admits s f t path) c.path c.listed
      (both_and (through x c.path) (admits s f t c.path) (mem_through x c.crosses) c.admitted)

  -- ---- the opened plate, level by level

  pub opened_length : (f : List ℤ) → length (opened s W H f) ≡ W * H
  unfolding opened
  opened_length f = length-map (places W H) (opened_at s W H f) ∙ places_length W H

  pub level_at_opened : (f : List ℤ) (x : ℕ) → x < W * H → level_at (opened s W H f) x ≡ opened_at s W H f x
  unfolding opened
  level_at_opened f x h =
      map_at (opened_at s W H f) (places W H) x 0 lowest (omega (arith, places_length W H)) ∙ ap (opened_at s W H f) (places_at W H x 0 h)

  pub opened_at_size : (f : List ℤ) → Levels f → (x : ℕ) → mag (opened_at s W H f x) < 32768
  unfolding opened_at
  opened_at_size f l x = highest_size _ (level_at f x) (l.size x)

  pub opened_levels : (f : List ℤ) → Levels f → Levels (opened s W H f)
  opened_levels f l =
      levels_within (opened s W H f)
      (λ p h. rw (level_at_opened f p (omega (arith, opened_length f))) (opened_at_size f l p))

  -- ---- what characterises it

  pub opened_below_own : (f : List ℤ) → Levels f → (x : ℕ) → opened_at s W H f x ≤ℤ level_at f x
  unfolding opened_at
  opened_below_own f l x = highest_not_above _ (level_at f x) (l.size x)

  -- a path counts at the opened level, or that is the lowest
  pub opened_counts_or_lowest : (f : List ℤ) (x : ℕ) → Counts s W H f x (opened_at s W H f x) ⊎ (opened_at s W H f x ≡ lowest)
  unfolding opened_at
  opened_counts_or_lowest f x =
      ⊎_elim (λ h. inl (kept_counts f x _ h)) inr (highest_passes_or_lowest (kept s (paths W H s.directions s.length) f x) (level_at f x))

  pub opened_attained : (f : List ℤ) → Levels f → (x : ℕ) → T (crossed W H s.directions s.length x) → Counts s W H f x (opened_at s W H f x)
  opened_attained f l x h =
      ⊎_elim (λ c. c)
      (λ e. let r = crossed_find W H s.directions s.length x h in
      record { path = r.0; listed = r.1; crosses = r.2; admitted = rw e (admitted_lowest s f r.0 l.size) })
      (opened_counts_or_lowest f x)

  pub opened_highest : (f : List ℤ) → Levels f → (x : ℕ) (t : ℤ) → mag t < 32768 → t ≤ℤ level_at f x → Counts s W H f x t → t ≤ℤ opened_at s W H f x
  unfolding opened_at
  opened_highest f l x t st h c = passing_not_above_highest _ (level_at f x) t (l.size x) st h (counts_kept f x t c)

  -- the same two by keys: n is the key of the opened level
  pub opened_is :
      (f : List ℤ) (x n : ℕ) → n ≤ key (level_at f x) → (1 ≤ n → Counts s W H f x (level n)) →
      ((t : ℕ) → 1 ≤ t → t ≤ key (level_at f x) → Counts s W H f x (level t) → t ≤ n) → opened_at s W H f x ≡ level n
  unfolding opened_at
  opened_is f x n h counts top =
      highest_is (kept s (paths W H s.directions s.length) f x) (level_at f x) n h (λ positive. counts_kept f x (level n) (counts positive))
      (λ t positive low k. top t positive low (kept_counts f x (level t) k))

  pub opened_uncrossed : (f : List ℤ) (x : ℕ) → crossed W H s.directions s.length x ≡ false → opened_at s W H f x ≡ lowest
  opened_uncrossed f x e =
      ⊎_elim (λ c. absurd (subst T e (crossed_keep W H s.directions s.length c.listed c.crosses))) (λ i. i) (opened_counts_or_lowest f x)

  pub opened_monotone :
      (f g : List ℤ) → Levels f → Levels g → ((p : ℕ) → p < W * H → level_at f p ≤ℤ level_at g p) →
      (x : ℕ) → x < W * H → opened_at s W H f x ≤ℤ opened_at s W H g x
  opened_monotone f g lf lg h x hx =
      ⊎_elim
      (λ c. opened_highest g lg x (opened_at s W H f x) (opened_at_size f lf x) (≤ℤ-trans (opened_below_own f lf x) (h x hx)) (counts_monotone f g h c))
      (λ e. rw e (lowest_le (opened_at s W H g x) (opened_at_size g lg x))) (opened_counts_or_lowest f x)

-- two openings with the same level at every pixel are the same plate
pub opened_same :
    (s s' : Setting) (W H : ℕ) (f g : List ℤ) → ((x : ℕ) → x < W * H → opened_at s W H f x ≡ opened_at s' W H g x) → opened s W H f ≡ opened s' W H g
opened_same s s' W H f g h =
    ext_get_or lowest (opened s W H f) (opened s' W H g) (opened_length s W H f ∙ sym (opened_length s' W H g))
    (λ x i. let on : x < W * H = omega (arith, opened_length s W H f) in
    level_at_opened s W H f x on ∙ h x on ∙ sym (level_at_opened s' W H g x on))
