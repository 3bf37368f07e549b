-- What the notes say of the paths through the picked pixel. A term of theirs is the recursion's, so that the best found is a path by numbers and no path is
-- better. A number of steps that no path can have there has no walk to x or none from it on, so its terms are 0.
use Prim.Native.Nat.{ℕ, ◌+◌, ◌-◌, ◌*◌, ◌^◌, ◌≤◌, ◌<◌, min}
use mathlib.Core.Path.{◌≡◌}
use mathlib.Core.Bool.{Bool, true, false}
use mathlib.Core.List.{List}
use mathlib.Core.Logic.{inl, inr, ⊎_elim}
use native.Mathlib.Omega.{arith}
use Rattle.basics.proofs.Numbers.{le_or_lt}
use Rattle.plate.specs.Paths.{next, span}
use Rattle.theory.proofs.Ranks.{bit_listed}
use Rattle.theory.proofs.LevelSets.{reach_none}
use Rattle.theory.proofs.Sides.{Side, side}
use Rattle.walks.specs.Searching.{shared_at, term_at, Possible, FromNotes, Searched}
use Rattle.walks.specs.declared.found.Found.{Found}
use Rattle.walks.specs.declared.found.Paths.{Paths}
use Rattle.tracing.specs.Finding.{cells, Noted, Attained, FoundIn}
use Rattle.theory.specs.Walks.{back, around}
use Rattle.theory.specs.Ranks.{rank}
use Rattle.theory.specs.BestWalks.{best_walk, term}
use Rattle.headings.proofs.Rooms.{rank_below}

module _ (slack W H m k spare : ℕ) (g : ℕ → ℕ) (x index : ℕ) (listed : index < 4) (on : x < W * H) (long : span W H (2 ^ index) ≡ m + spare + 1) where
  abbrev bit : ℕ
  bit = 2 ^ index

  abbrev place : ℕ
  place = rank W H bit x

  S : (b : Bool) → Side W H bit b
  S b = side W H bit (bit_listed index listed) b

  -- a number of steps that no path can have there
  too_many : (l i : ℕ) → place < l → best_walk slack (back W H bit) g l i x ≡ 0
  unfolding around
  too_many l i h = reach_none slack (back W H bit) g l i x (λ ps w. omega (arith, (S true).fits on w))

  too_few : (l i : ℕ) → l ≤ m → l + spare < place → best_walk slack (next W H bit) g (m - l) (k - i) x ≡ 0
  unfolding around
  too_few l i u h = reach_none slack (next W H bit) g (m - l) (k - i) x (λ ps w. omega (arith, (S false).fits on w, rank_below W H x index listed on))

  term_none : (l i : ℕ) → l ≤ m → (Possible m spare place l → ⊥) → term slack W H bit m k g x l i ≡ 0
  term_none l i u n =
      ⊎_elim
      (λ a. ⊎_elim
      (λ b. absurd (n (record { of_path = u; behind = a; ahead = b })))
      (λ b. omega (arith, too_few l i u b))
      (le_or_lt place (l + spare)))
      (λ a. omega (arith, too_many l i a))
      (le_or_lt l place)

  module _ (ending going : List ℕ) (n : Paths) (own : ℕ) (is_steps : n.steps ≡ m) (is_gaps : n.gaps ≡ k) (is-own : own ≡ g x)
      (ends : Noted slack (cells ending) W H bit true g k m x)
      (goes : Noted slack (cells going) W H bit false g k m x) where
    term_is : (l i : ℕ) → Possible m spare place l → i ≤ k → term_at ending going n own l i ≡ min (g x) (term slack W H bit m k g x l i)
    unfolding shared_at around
    term_is l i p u =
        let e = ends.is l i p.of_path u in
        let f = goes.is (m - l) (k - i) (omega arith) (omega arith) in
        rw (is_steps, is_gaps, is-own, e, f)

    found_attained : (new : Found) → FromNotes (term_at ending going n own) m k spare place index new → Attained slack W H m k spare g x bit new.key new.before new.gaps
    unfolding around
    found_attained new f =
        let p = f.possible in
        let e = term_is new.before new.gaps p f.few in
        let b = f.below in
        record {
          of_path = p.of_path;
          few = f.few;
          own = omega arith;
          to_x = record { on = on; counts = omega arith; roomy = p.behind; near = p.ahead };
          from_x = record {
            on = on;
            counts = omega arith;
            roomy = omega (arith, p.ahead, p.of_path);
            near = omega (arith, p.behind, p.of_path);
          };
        }

    none_better :
        (old new : Found) → Searched (term_at ending going n own) m k spare place index (m + 1) old new → (l i : ℕ) → l ≤ m → i ≤ k →
        min (g x) (term slack W H bit m k g x l i) ≤ new.key
    none_better old new d l i u v =
        ⊎_elim
        (λ a. ⊎_elim
        (λ b. let p : Possible m spare place l = record { of_path = u; behind = a; ahead = b } in
        omega (arith, term_is l i p v, d.best l i p (omega arith) v))
        (λ b. omega (arith, term_none l i u (λ p. omega (arith, p.ahead))))
        (le_or_lt place (l + spare)))
        (λ a. omega (arith, term_none l i u (λ p. omega (arith, p.behind))))
        (le_or_lt l place)

    pub searched_found : (old new : Found) → Searched (term_at ending going n own) m k spare place index (m + 1) old new → FoundIn slack W H m k spare g x index old new
    searched_found old new d =
        record {
          not_below = d.not_below;
          source = ⊎_elim inl (λ f. inr (f.is_index, found_attained new f)) d.source;
          best = none_better old new d;
        }

  -- a path that counts at the lowest key: there is one wherever it has room
  pub lowest_attained : (l : ℕ) → l ≡ min place m → Attained slack W H m k spare g x bit 0 l 0
  lowest_attained l e =
      let r = rank_below W H x index listed on in
      record {
        of_path = omega arith;
        few = omega arith;
        own = omega arith;
        to_x = record { on = on; counts = omega arith; roomy = omega arith; near = omega arith };
        from_x = record { on = on; counts = omega arith; roomy = omega arith; near = omega arith };
      }
