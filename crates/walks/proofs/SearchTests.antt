-- The test of specs/Doors.antt that the search of notes asks: question by question, as the code asks them; what a call that passes has, and that a call
-- with all of it passes.
use Prim.Native.Nat.{ℕ, ◌+◌, ◌≤◌, ◌<◌}
use mathlib.Core.Path.{◌≡◌, refl, sym, ◌∙◌}
use mathlib.Core.Bool.{true, false, ◌&&◌}
use native.Mathlib.Nat.{mul-le-mul}
use native.Mathlib.Omega.{arith}
use lib.Dec.{leb, ltb}
use borrow.Author.Tests.{lt-ltb, le-ltb, le-leb, lt-leb, ltb-true, leb-true}
use Rattle.plans.proofs.FormFacts.{both}
use Rattle.walks.specs.Doors.{notes_size, can_search}
use Rattle.walks.specs.declared.found.Paths.{Paths}

-- the notes of one side are few
pub notes_few : (n : Paths) → n.steps < 65536 → n.gaps ≤ 8 → notes_size n ≤ 589824
notes_few n a b = mul-le-mul {n₁ = n.steps + 1} {m₁ = n.gaps + 1} {n₂ = 65536} {m₂ = 9} (omega arith) (omega arith)

module _ (n : Paths) (rank ending going : ℕ) where
  pub search_1 : 65536 ≤ n.steps → false ≡ can_search n rank ending going
  unfolding can_search
  search_1 a = rw (le-ltb n.steps 65536 a) refl

  pub search_2 : n.steps < 65536 → 8 < n.gaps → false ≡ can_search n rank ending going
  unfolding can_search
  search_2 a b = rw (lt-ltb n.steps 65536 a, lt-leb n.gaps 8 b) refl

  pub search_3 : n.steps < 65536 → n.gaps ≤ 8 → 65536 ≤ n.spare → false ≡ can_search n rank ending going
  unfolding can_search
  search_3 a b d = rw (lt-ltb n.steps 65536 a, le-leb n.gaps 8 b, le-ltb n.spare 65536 d) refl

  module _ (few : n.steps < 65536) (gaps : n.gaps ≤ 8) (near : n.spare < 65536) where
    pub search_4 : n.steps + n.spare < rank → false ≡ can_search n rank ending going
    unfolding can_search
    search_4 a =
        rw (lt-ltb n.steps 65536 few, le-leb n.gaps 8 gaps, lt-ltb n.spare 65536 near, lt-leb rank (n.steps + n.spare) a) refl

    pub search_5 : rank ≤ n.steps + n.spare → ending < notes_size n → false ≡ can_search n rank ending going
    unfolding can_search
    search_5 a b =
        rw (lt-ltb n.steps 65536 few, le-leb n.gaps 8 gaps, lt-ltb n.spare 65536 near, le-leb rank (n.steps + n.spare) a, lt-leb (notes_size n) ending b) refl

    pub search_6 :
        rank ≤ n.steps + n.spare → notes_size n ≤ ending → leb (notes_size n) going ≡ can_search n rank ending going
    unfolding can_search
    search_6 a b =
        rw (lt-ltb n.steps 65536 few, le-leb n.gaps 8 gaps, lt-ltb n.spare 65536 near, le-leb rank (n.steps + n.spare) a, le-leb (notes_size n) ending b) refl

  pub record Search : Type 0 where
    pub few : n.steps < 65536
    pub gaps : n.gaps ≤ 8
    pub near : n.spare < 65536
    pub standing : rank ≤ n.steps + n.spare
    pub ends : notes_size n ≤ ending
    pub goes : notes_size n ≤ going

  pub search_facts : can_search n rank ending going ≡ true → Search
  unfolding can_search
  search_facts t =
      let s = ltb n.steps 65536 in
      let g = leb n.gaps 8 in
      let b = ltb n.spare 65536 in
      let r = leb rank (n.steps + n.spare) in
      let e = leb (notes_size n) ending in
      let a5 = both (s && g && b && r && e) (leb (notes_size n) going) t in
      let a4 = both (s && g && b && r) e a5.0 in
      let a3 = both (s && g && b) r a4.0 in
      let a2 = both (s && g) b a3.0 in
      let a1 = both s g a2.0 in
      record {
        few = ltb-true n.steps 65536 a1.0;
        gaps = leb-true n.gaps 8 a1.1;
        near = ltb-true n.spare 65536 a2.1;
        standing = leb-true rank (n.steps + n.spare) a3.1;
        ends = leb-true (notes_size n) ending a4.1;
        goes = leb-true (notes_size n) going a5.1;
      }

  pub search_if : Search → can_search n rank ending going ≡ true
  search_if h =
      sym (search_6 h.few h.gaps h.near h.standing h.ends)
      ∙ le-leb (notes_size n) going h.goes
