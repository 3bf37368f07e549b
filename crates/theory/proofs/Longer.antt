-- A longer length keeps no more: for equal k, directions and mode, and with `ends` 0, no pixel has a better level by a longer length. A path of L
-- pixels that counts contains, through any of its pixels, one of K pixels, and a part of a path has no more pixels below a level than the whole. With
-- `ends` 1 this is false: the part may end on a gap of the whole.
use Prim.Native.Nat.{ℕ, ◌*◌, ◌≤◌, ◌<◌}
use mathlib.Core.Path.{◌≡◌, refl}
use mathlib.Core.List.{List, map}
use mathlib.Core.Logic.{⊎_elim}
use lib.IntN.{ℤ}
use lib.Signed.{◌≤ℤ◌}
use Rattle.plate.specs.Opening.{level_at, opened_at}
use Rattle.plate.specs.declared.setting.Setting.{Setting}
use Rattle.plate.proofs.Keys.{lowest_le}
use Rattle.theory.specs.Modes.{Levels, as_mode}
use Rattle.theory.specs.SievingTwice.{with_length, filtered_by}
use Rattle.theory.proofs.Listed.{through_mem, mem_through, paths_find, paths_keep}
use Rattle.theory.proofs.Shorter.{path_shorter}
use Rattle.theory.proofs.Admission.{admitted_part, admitted_by_gaps}
use Rattle.theory.proofs.Opening.{Counts, opened_at_size, opened_below_own, opened_counts_or_lowest, opened_highest}
use Rattle.theory.proofs.Mirror.{turned_levels, turned_filtered}

-- the mode is not in the length: turned, the filtered level by any length is the opened level of the same turned plate
turned_by :
    (s : Setting) (W H N : ℕ) (f : List ℤ) (x : ℕ) → x < W * H →
    as_mode s (level_at (filtered_by s W H N f) x) ≡ opened_at (with_length s N) W H (map (as_mode s) f) x
unfolding as_mode
turned_by s W H N f x on = turned_filtered (with_length s N) W H f x on

module _ (s : Setting) (free : s.ends ≡ 0) (W H : ℕ) {K L : ℕ} (some : 1 ≤ K) (shorter : K ≤ L) where
  counts_shorter : {f : List ℤ} {x : ℕ} {t : ℤ} → Counts (with_length s L) W H f x t → Counts (with_length s K) W H f x t
  counts_shorter {f} {x} {t} c =
      let d = paths_find W H s.directions L c.path c.listed in
      let r = path_shorter W H d.0 L K x c.path some shorter d.2 (mem_through x c.crosses) in
      let a = admitted_part (with_length s L) free f t r.before r.part r.after r.whole c.admitted in
      record {
        path = r.part;
        listed = paths_keep W H s.directions K d.1 r.listed;
        crosses = through_mem x r.part r.crosses;
        admitted = admitted_by_gaps (with_length s L) (with_length s K) f t r.part refl refl a;
      }

  pub opened_longer : (f : List ℤ) → Levels f → (x : ℕ) → opened_at (with_length s L) W H f x ≤ℤ opened_at (with_length s K) W H f x
  opened_longer f l x =
      let long = with_length s L in
      let short = with_length s K in
      ⊎_elim
      (λ c. opened_highest short W H f l x (opened_at long W H f x) (opened_at_size long W H f l x) (opened_below_own long W H f l x) (counts_shorter c))
      (λ e. rw e (lowest_le (opened_at short W H f x) (opened_at_size short W H f l x)))
      (opened_counts_or_lowest long W H f x)

  -- in both modes: the level by the longer length is not above that by the shorter, in mode 1 not below it
  pub filtered_longer :
      (f : List ℤ) → Levels f → (x : ℕ) → x < W * H →
      as_mode s (level_at (filtered_by s W H L f) x) ≤ℤ as_mode s (level_at (filtered_by s W H K f) x)
  filtered_longer f l x on =
      rw (turned_by s W H L f x on, turned_by s W H K f x on) (opened_longer (map (as_mode s) f) (turned_levels s f l) x)
