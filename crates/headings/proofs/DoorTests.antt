-- The tests of specs/Doors.antt: asked one after the other, as the code asks them; what a call that passes them has, and that a call with all of it
-- passes.
use Prim.Native.Nat.{ℕ, ◌-◌, ◌*◌, ◌^◌, ◌≤◌, ◌<◌}
use mathlib.Core.Path.{◌≡◌, refl, sym, ◌∙◌}
use mathlib.Core.Bool.{Bool, true, false, cond, not, ◌&&◌}
use mathlib.Core.List.{List}
use native.Mathlib.Omega.{arith}
use lib.Dec.{T, leb, ltb}
use lib.ListN.{length, get_or}
use borrow.Author.Tests.{lt-ltb, le-ltb, le-leb, lt-leb, ltb-true, leb-true, not-true}
use Rattle.basics.proofs.Tests.{true_T, T_true, and_both}
use Rattle.plate.specs.Refusals.{bad_size}
use Rattle.plate.specs.Sizes.{GoodSize}
use Rattle.plate.proofs.Sizes.{good_size, allowed_size}
use Rattle.theory.specs.Ranks.{rank, steps_left}
use Rattle.headings.specs.Trails.{Within}
use Rattle.headings.specs.Doors.{stands_on, rank_of, inside, goes_on}

-- ---- a pixel along a direction

module _ (W H index p : ℕ) where
  pub stand_1 : bad_size W H ≡ true → false ≡ stands_on W H index p
  unfolding stands_on
  stand_1 a = rw a refl

  pub stand_2 : bad_size W H ≡ false → 4 ≤ index → false ≡ stands_on W H index p
  unfolding stands_on
  stand_2 a b = rw (a, le-ltb index 4 b) refl

  pub stand_3 : bad_size W H ≡ false → index < 4 → ltb p (W * H) ≡ stands_on W H index p
  unfolding stands_on
  stand_3 a b = rw (a, lt-ltb index 4 b) refl

  pub record Standing : Type 0 where
    pub size : GoodSize W H
    pub known : index < 4
    pub on : p < W * H

  pub stand_facts : stands_on W H index p ≡ true → Standing
  unfolding stands_on
  stand_facts t =
      let good = not (bad_size W H) in
      let listed = ltb index 4 in
      let a = and_both (good && listed) (ltb p (W * H)) (true_T (stands_on W H index p) t) in
      let b = and_both good listed a.0 in
      record {
        size = good_size W H (not-true (bad_size W H) (T_true good b.0));
        known = ltb-true index 4 (T_true listed b.1);
        on = ltb-true p (W * H) (T_true (ltb p (W * H)) a.1);
      }

  pub stand_if : Standing → stands_on W H index p ≡ true
  stand_if h = sym (stand_3 (allowed_size h.size) h.known) ∙ lt-ltb p (W * H) h.on

  pub rank_none : stands_on W H index p ≡ false → 0 ≡ rank_of W H index p
  unfolding rank_of
  rank_none a = rw a refl

  pub rank_some : stands_on W H index p ≡ true → rank_of W H index p ≡ rank W H (2 ^ index) p
  unfolding rank_of
  rank_some a = rw a refl

  pub rank_there : GoodSize W H → index < 4 → p < W * H → rank_of W H index p ≡ rank W H (2 ^ index) p
  rank_there size known on = rank_some (stand_if (record { size = size; known = known; on = on }))

-- ---- the indices of a path

within_of : (b : Bool) (size start steps : ℕ) → start < size → T (cond b (leb steps start) (ltb steps (size - start))) → Within b size start steps
within_of true size start steps h t = (leb-true steps start (T_true (leb steps start) t), h)
within_of false size start steps h t = omega (arith, ltb-true steps (size - start) (T_true (ltb steps (size - start)) t))

within_test : (b : Bool) (size start steps : ℕ) → Within b size start steps → cond b (leb steps start) (ltb steps (size - start)) ≡ true
within_test true size start steps w = le-leb steps start w.0
within_test false size start steps w = lt-ltb steps (size - start) (omega arith)

module _ (b : Bool) (size start steps : ℕ) where
  pub inside_1 : 65536 < size → false ≡ inside b size start steps
  unfolding inside
  inside_1 a = rw (lt-leb size 65536 a) refl

  pub inside_2 : size ≤ 65536 → size ≤ start → false ≡ inside b size start steps
  unfolding inside
  inside_2 a d = rw (le-leb size 65536 a, le-ltb start size d) refl

  pub inside_3 : size ≤ 65536 → start < size → b ≡ true → leb steps start ≡ inside b size start steps
  unfolding inside
  inside_3 a d e = rw (le-leb size 65536 a, lt-ltb start size d, e) refl

  pub inside_4 : size ≤ 65536 → start < size → b ≡ false → ltb steps (size - start) ≡ inside b size start steps
  unfolding inside
  inside_4 a d e = rw (le-leb size 65536 a, lt-ltb start size d, e) refl

  pub inside_facts : inside b size start steps ≡ true → (size ≤ 65536) × (start < size) × Within b size start steps
  unfolding inside
  inside_facts t =
      let few = leb size 65536 in
      let has = ltb start size in
      let a = and_both (few && has) (cond b (leb steps start) (ltb steps (size - start))) (true_T (inside b size start steps) t) in
      let d = and_both few has a.0 in
      let there = ltb-true start size (T_true has d.1) in
      (leb-true size 65536 (T_true few d.0), there, within_of b size start steps there a.1)

  pub inside_if : size ≤ 65536 → start < size → Within b size start steps → inside b size start steps ≡ true
  unfolding inside
  inside_if a d w = rw (le-leb size 65536 a, lt-ltb start size d, within_test b size start steps w) refl

-- ---- a path that has room

module _ (W H index : ℕ) (b : Bool) (start steps : ℕ) (path : List ℕ) where
  pub goes_1 : inside b (length path) start steps ≡ false → false ≡ goes_on W H index b start steps path
  unfolding goes_on
  goes_1 a = rw a refl

  module _ (in_path : inside b (length path) start steps ≡ true) where
    pub goes_2 : stands_on W H index (get_or path start 0) ≡ false → false ≡ goes_on W H index b start steps path
    unfolding goes_on
    goes_2 a = rw (in_path, a) refl

    module _ (stands : stands_on W H index (get_or path start 0) ≡ true) (room : ℕ) (is : room ≡ steps_left W H (2 ^ index) b (get_or path start 0)) where
      pub goes_3 : room < steps → false ≡ goes_on W H index b start steps path
      unfolding goes_on
      goes_3 a = rw (in_path, stands, sym is, lt-leb steps room a) refl

      pub goes_4 : steps ≤ room → true ≡ goes_on W H index b start steps path
      unfolding goes_on
      goes_4 a = rw (in_path, stands, sym is, le-leb steps room a) refl

  pub goes_if :
      length path ≤ 65536 → start < length path → Within b (length path) start steps → Standing W H index (get_or path start 0) →
      steps ≤ steps_left W H (2 ^ index) b (get_or path start 0) → goes_on W H index b start steps path ≡ true
  goes_if few has within stands room =
      sym
      (goes_4 (inside_if b (length path) start steps few has within) (stand_if W H index (get_or path start 0) stands)
      (steps_left W H (2 ^ index) b (get_or path start 0)) refl room)
