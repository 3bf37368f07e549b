-- The best path that was found is the filtered level's, and drawn it shows all of demand 3. The key found is the value of the decomposition: no term is
-- above it, those of a direction that is not usable being 0, and it is one of them. Turned back, its level is the filtered one.
use Prim.Native.Nat.{ℕ, suc, ◌-◌, ◌*◌, ◌^◌, ◌≤◌, ◌<◌, min}
use mathlib.Core.Path.{◌≡◌, refl, sym, ap, subst, ◌∙◌}
use mathlib.Core.Bool.{true, false}
use mathlib.Core.List.{List, [], ◌∷◌, map, Memᴰ}
use mathlib.Core.Logic.{⊎_elim}
use native.Mathlib.Omega.{arith}
use lib.Dec.{T}
use lib.ListN.{length, get_or}
use lib.IntN.{ℤ}
use borrow.Author.Tests.{leb-false}
use Rattle.basics.proofs.Numbers.{le_or_lt}
use Rattle.plate.specs.Levels.{level}
use Rattle.plate.specs.Directions.{chosen}
use Rattle.plate.specs.Paths.{next, crossed, span}
use Rattle.plate.specs.Opening.{level_at, admits, filtered}
use Rattle.plate.specs.Refusals.{Verdict.accepted, Clear, place_check, path_check, filter_checks, trace_checks, trace_verdict}
use Rattle.plate.specs.Sizes.{GoodSize}
use Rattle.plate.specs.declared.setting.Setting.{Setting}
use Rattle.plate.proofs.Verdicts.{clear_accepted, clear_first}
use Rattle.plate.specs.Calls.{Passed}
use Rattle.plate.proofs.Calls.{passed}
use Rattle.theory.specs.Trace.{Shows}
use Rattle.theory.proofs.Listed.{mem_through, walk_listed, walk_started, walk_stays}
use Rattle.theory.proofs.Ranks.{bit_listed}
use Rattle.theory.proofs.Span.{chosen_bits}
use Rattle.theory.proofs.LevelSets.{reach_none, low_pixels_same}
use Rattle.theory.proofs.Sides.{side}
use Rattle.theory.proofs.Mirror.{turned_turned, turned_levels, level_at_filtered}
use Rattle.theory.proofs.Decomposition.{opened_value, walk_admitted}
use Rattle.theory.proofs.Walks.{walk_first, walk_last}
use Rattle.theory.proofs.Terms.{value_term, value_least, value_same}
use Rattle.theory.proofs.Trace.{shows}
use Rattle.engine.specs.Finishing.{Accepted}
use Rattle.tracing.specs.Finding.{BestOf, keys_by}
use Rattle.tracing.specs.Drawing.{Drawn}
use Rattle.walks.specs.declared.found.Found.{Found}
use Rattle.theory.specs.Ranks.{rank}
use Rattle.theory.specs.Walks.{around, back, last_of}
use Rattle.theory.specs.Modes.{Levels, as_mode}
use Rattle.theory.specs.BestWalks.{key_at, gap_end, value, term}
use Rattle.headings.proofs.Directions.{index_at, chosen_usable, usable_chosen}
use Rattle.tracing.proofs.Modes.{keys_turned}
use Rattle.headings.proofs.Rooms.{rank_below}

-- ---- what the checks say

module _ (W H : ℕ) (s : Setting) (plate x room work : ℕ) (clear : Clear (trace_checks W H s plate x room work)) where
  eight : Passed W H s plate s.length room work
  eight =
      passed W H s plate s.length room work
      (clear_first (filter_checks W H s plate s.length room work) (place_check (W * H) x ∷ path_check (crossed W H s.directions s.length x) ∷ []) clear)

  pub clear_long : 1 ≤ s.length
  clear_long = eight.long

  pub clear_plate : plate ≡ W * H
  clear_plate = eight.plate_size

  pub clear_path : room ≡ s.length
  clear_path = eight.result_size

  pub clear_on : x < W * H
  clear_on = leb-false (W * H) x clear.1.1.1.1.1.1.1.1.1.0

  -- the filter's checks pass for a result of the plate's size
  pub clear_accepted_sizes : Accepted W H s plate (W * H) work
  clear_accepted_sizes =
      record {
        size = eight.size;
        long = eight.long;
        short = eight.short;
        few_gaps = eight.few_gaps;
        plate_size = eight.plate_size;
        result_size = refl;
        work_size = eight.work_size;
      }

-- ---- the key found is the value

module _ (W H : ℕ) (s : Setting) (f : List ℤ) (x : ℕ) (size : GoodSize W H) (on : x < W * H) (long : 1 ≤ s.length) (r : Found) (best : BestOf W H s f x 4 r) where
  abbrev m : ℕ
  m = s.length - 1

  abbrev slack : ℕ
  slack = gap_end s.ends

  abbrev g : ℕ → ℕ
  g = keys_by s.mode f

  -- a direction whose longest paths are too short: no walk to x and on from it has enough steps
  term_short : (index l i : ℕ) → index < 4 → span W H (2 ^ index) < s.length → l ≤ m → term slack W H (2 ^ index) m s.gaps g x l i ≡ 0
  unfolding around
  term_short index l i listed short h =
      let S = side W H (2 ^ index) (bit_listed index listed) in
      let b = rank_below W H x index listed on in
      ⊎_elim
      (λ a. omega (arith, reach_none slack (next W H (2 ^ index)) g (m - l) (s.gaps - i) x (λ ps w. omega (arith, (S false).fits on w))))
      (λ a. omega (arith, reach_none slack (back W H (2 ^ index)) g l i x (λ ps w. omega (arith, (S true).fits on w))))
      (le_or_lt l (rank W H (2 ^ index) x))

  none_above : (bit l i : ℕ) → Memᴰ bit (chosen s.directions) → l ≤ m → i ≤ s.gaps → min (g x) (term slack W H bit m s.gaps g x l i) ≤ r.key
  none_above bit l i c hl hi =
      let n = index_at bit (chosen_bits s.directions bit c) in
      let c' : Memᴰ (2 ^ n.0) (chosen s.directions) = subst (λ (b : ℕ). Memᴰ b (chosen s.directions)) n.2 c in
      subst (λ (b : ℕ). min (g x) (term slack W H b m s.gaps g x l i) ≤ r.key) (sym n.2)
      (⊎_elim
      (λ a. best.best n.0 n.1 (chosen_usable W H s n.0 size n.1 c' a) l i hl hi)
      (λ a. omega (arith, term_short n.0 l i n.1 a hl))
      (le_or_lt s.length (span W H (2 ^ n.0))))

  value_found : value slack W H (chosen s.directions) m s.gaps g x ≡ r.key
  unfolding around
  value_found =
      let a = best.attained in
      let c = usable_chosen W H s r.index best.listed best.is_usable in
      omega (
        arith,
        value_least slack W H (chosen s.directions) m s.gaps g x r.key none_above,
        value_term slack W H (chosen s.directions) m s.gaps g x (2 ^ r.index) r.before r.gaps c a.of_path a.few,
        a.own,
        a.to_x.counts,
        a.from_x.counts,
      )

  module _ (exact : length f ≡ W * H) (levels : Levels f) where
    abbrev turned_plate : List ℤ
    turned_plate = map (as_mode s) f

    same_keys : (p : ℕ) → p < W * H → key_at turned_plate p ≡ g p
    unfolding keys_by
    same_keys p h = sym (keys_turned s f levels p (omega arith))

    pub level_found : level_at (filtered s W H f) x ≡ as_mode s (level r.key)
    level_found =
        level_at_filtered s W H f x on
        ∙ ap (as_mode s)
        (opened_value turned_plate (turned_levels s f levels).size s W H m x on (let e : s.length ≡ suc m = omega arith in e)
        ∙ ap level (value_same slack W H (chosen s.directions) m s.gaps x on (key_at turned_plate) g same_keys ∙ value_found))

    -- ---- and the path drawn is one of those that it counts for

    module _ (path : List ℕ) (d : Drawn slack W H (2 ^ r.index) g r.key m s.gaps x path) where
      start_on : get_or path 0 0 < W * H
      start_on = walk_started W H (2 ^ r.index) d.walk d.crosses on

      path_keys : (p : ℕ) → Memᴰ p path → key_at turned_plate p ≡ g p
      path_keys p i = same_keys p (walk_stays W H (2 ^ r.index) d.walk start_on i)

      counted : T (admits s turned_plate (level r.key) path)
      counted =
          walk_admitted turned_plate (turned_levels s f levels).size s W H m x r.key d.walk
          (omega (arith, d.few, low_pixels_same (key_at turned_plate) g r.key path path_keys))
          (rw (path_keys (get_or path 0 0) (walk_first d.walk)) d.starts)
          (rw (path_keys (last_of path) (walk_last d.walk)) d.ends)

      pub path_shown : (room work : ℕ) → Clear (trace_checks W H s (length f) x room work) → Shows s W H f x (2 ^ r.index) (as_mode s (level r.key)) path
      unfolding trace_verdict
      path_shown room work clear =
          let accepts = clear_accepted (trace_checks W H s (length f) x room work) (level_at (filtered s W H f) x) clear ∙ ap accepted level_found in
          let e : suc m ≡ s.length = omega arith in
          shows s W H f x room work (as_mode s (level r.key)) accepts levels (2 ^ r.index) path
          (usable_chosen W H s r.index best.listed best.is_usable)
          (rw e at (walk_listed W H (2 ^ r.index) start_on d.walk))
          (mem_through x d.crosses)
          (rw (turned_turned s (level r.key)) counted)
