-- Notes that rise place by place: to the highest of a run, and then to others. Each is the same law, `lifted_then`: what rises to some numbers and then to
-- others has risen to both.
use Prim.Native.Nat.{ℕ, ◌+◌, ◌≤◌, ◌<◌, min, max}
use mathlib.Core.Path.{◌≡◌, refl, sym, subst, ◌∙◌}
use mathlib.Core.List.{List}
use mathlib.Core.Logic.{◌⊎◌, inl, inr, ⊎_elim}
use native.Mathlib.Omega.{arith}
use lib.Dec.{eqb}
use lib.ListN.{length, get_or, set, length-set}
use lib.Seq.{get_or-set_same, get_or-set_other}
use borrow.Author.Tests.{eqb-true, eqb-false}
use Rattle.basics.proofs.Numbers.{le_or_lt}
use Rattle.basics.proofs.Tests.{true_or_false}
use Rattle.theory.specs.BestWalks.{ended}
use Rattle.walks.specs.Noting.{Highest, Lifted}

-- ---- the highest of a run

pub highest_none : (f : ℕ → ℕ) (v : ℕ) → Highest f 0 0 v v
highest_none f v = record { not_below = omega arith; best = λ x l h. absurd (omega arith); source = inl refl }

pub highest_more : (f : ℕ → ℕ) (n v r u : ℕ) → Highest f 0 n v r → u ≡ max r (f n) → Highest f 0 (n + 1) v u
highest_more f n v r u h e =
    record {
      not_below = omega (arith, h.not_below);
      best = λ x lo hi. ⊎_elim (λ l. let same : x ≡ n = omega (arith, l) in rw same (omega arith)) (λ l. omega (arith, h.best x lo l)) (le_or_lt n x);
      source =
          ⊎_elim
          (λ l. let w : u ≡ f n = omega arith in inr (n, omega arith, omega arith, w))
          (λ l.
          let w : u ≡ r = omega arith in
          ⊎_elim (λ s. inl (w ∙ s)) (λ s. inr (s.0, s.1, omega (arith, s.2), w ∙ s.3)) h.source)
          (le_or_lt r (f n));
    }

-- where a path may end anywhere, what walks count for at a pixel is its number
pub highest_free :
    (f key : ℕ → ℕ) (slack n v r : ℕ) → slack ≡ 65535 → r ≤ 65535 → Highest f 0 n v r → Highest (λ x. min (f x) (ended slack (key x))) 0 n v r
highest_free f key slack n v r e small h =
    record {
      not_below = h.not_below;
      best = λ x lo hi. omega (arith, h.best x lo hi);
      source = ⊎_elim inl (λ s. let w : r ≡ min (f s.0) (ended slack (key s.0)) = omega (arith, s.3) in inr (s.0, s.1, s.2, w)) h.source;
    }

-- ---- rising to some numbers, and then to others

pub lifted_then :
    (A B C : ℕ → ℕ → Type 0) (old mid new : List ℕ) → ((q v : ℕ) → C q v → A q v ⊎ B q v) → ((q v : ℕ) → A q v → C q v) → ((q v : ℕ) → B q v → C q v) →
    Lifted A old mid → Lifted B mid new → Lifted C old new
lifted_then A B C old mid new split left right a b =
    record {
      grown = λ q. omega (arith, a.grown q, b.grown q);
      reached = λ q v c. ⊎_elim (λ h. omega (arith, a.reached q v h, b.grown q)) (λ h. b.reached q v h) (split q v c);
      source = λ q.
          ⊎_elim
          (λ e. ⊎_elim (λ f. inl (e ∙ f)) (λ s. inr (subst (λ (v : ℕ). C q v) (sym e) (left q (get_or mid q 0) s))) (a.source q))
          (λ s. inr (right q (get_or new q 0) s))
          (b.source q);
      len = b.len ∙ a.len;
    }

-- to none
pub lifted_none : (A : ℕ → ℕ → Type 0) (notes : List ℕ) → ((q v : ℕ) → A q v → ⊥) → Lifted A notes notes
lifted_none A notes none = record { grown = λ q. omega arith; reached = λ q v a. absurd (none q v a); source = λ q. inl refl; len = refl }

-- the same numbers, told otherwise
pub lifted_same :
    (A B : ℕ → ℕ → Type 0) (old new : List ℕ) → ((q v : ℕ) → A q v → B q v) → ((q v : ℕ) → B q v → A q v) → Lifted A old new → Lifted B old new
lifted_same A B old new to from a =
    record {
      grown = a.grown;
      reached = λ q v b. a.reached q v (from q v b);
      source = λ q. ⊎_elim inl (λ s. inr (to q (get_or new q 0) s)) (a.source q);
      len = a.len;
    }

-- ---- one note

-- v is a number of a run that is noted at one place
pub record FromRun (f : ℕ → ℕ) (lo hi to q v : ℕ) : Type 0 where
  pub pixel : ℕ
  pub low : lo ≤ pixel
  pub high : pixel < hi
  pub at : q ≡ to
  pub is : v ≡ f pixel

-- what holds of the number that is stored and of the others
set_each :
    (xs : List ℕ) (i v : ℕ) → i < length xs → (P : ℕ → ℕ → Type 0) → P i v → ((q : ℕ) → P q (get_or xs q 0)) → (q : ℕ) → P q (get_or (set xs i v) q 0)
set_each xs i v l P here there q =
    ⊎_elim
    (λ e. let same = eqb-true q i e in subst (λ (n : ℕ). P n (get_or (set xs i v) n 0)) (sym same) (subst (λ (u : ℕ). P i u) (sym
    (get_or-set_same xs i v 0 l)) here))
    (λ e. subst (λ (u : ℕ). P q u) (sym (get_or-set_other xs i q v 0 (eqb-false q i e))) (there q))
    (true_or_false (eqb q i))

pub lifted_set :
    (f : ℕ → ℕ) (lo hi to r : ℕ) (notes : List ℕ) → to < length notes → Highest f lo hi (get_or notes to 0) r →
    Lifted (FromRun f lo hi to) notes (set notes to r)
lifted_set f lo hi to r notes l h =
    record {
      grown = set_each notes to r l (λ (q v : ℕ). get_or notes q 0 ≤ v) h.not_below (λ q. omega arith);
      reached = λ q v s.
          subst (λ (n : ℕ). v ≤ get_or (set notes to r) n 0) (sym s.at) (omega (
            arith,
            s.is,
            h.best s.pixel s.low
                s.high,
            get_or-set_same notes to r 0 l,
          ));
      source =
          set_each notes to r l (λ (q v : ℕ). (v ≡ get_or notes q 0) ⊎ FromRun f lo hi to q v)
          (⊎_elim inl (λ s. inr (record { pixel = s.0; low = s.1; high = s.2; at = refl; is = s.3 })) h.source) (λ q. inl refl);
      len = length-set notes to r;
    }
