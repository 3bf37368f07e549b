-- Laws of lists with planes: place X of plane j of a row that begins at a slot is slot + (j · pitch + X). What is written in one plane leaves the
-- others as they are, so that the planes written grow by one.
use Prim.Native.Nat.{ℕ, ◌+◌, ◌-◌, ◌*◌, ◌≤◌, ◌<◌}
use mathlib.Core.Path.{◌≡◌, refl, sym, ap, ◌∙◌, subst}
use mathlib.Core.Logic.{◌⊎◌, inl, inr}
use mathlib.Core.List.{List}
use native.Mathlib.Omega.{arith}
use lib.ListN.{length, get_or, set, length-set}
use lib.Seq.{get_or-set_same, get_or-set_other}
use Rattle.basics.proofs.Numbers.{le_or_lt, rows_fit}
use Rattle.eights.specs.Turned.{turned, numbers}
use Rattle.eights.proofs.TurnedLaws.{numbers_length, numbers_set}
use Rattle.states.specs.Runs.{Between, Apart}
use Rattle.states.specs.Rows.{In, Planes}

-- ---- lists that are alike but for a stretch

pub apart_none : (old : List ℕ) (lo hi : ℕ) → Apart old old lo hi
apart_none old lo hi = record { under = λ k l. refl; over = λ k l. refl; len = refl }

pub apart_then : (old mid new : List ℕ) (lo hi : ℕ) → Apart old mid lo hi → Apart mid new lo hi → Apart old new lo hi
apart_then old mid new lo hi a b =
    record { under = λ k l. b.under k l ∙ a.under k l; over = λ k l. b.over k l ∙ a.over k l; len = b.len ∙ a.len }

pub apart_wider : (old new : List ℕ) (lo hi low high : ℕ) → Apart old new lo hi → low ≤ lo → hi ≤ high → Apart old new low high
apart_wider old new lo hi low high a p q =
    record { under = λ k l. a.under k (omega arith); over = λ k l. a.over k (omega arith); len = a.len }

pub apart_run : (f : ℕ → ℕ) (old new : List ℕ) (lo hi low high : ℕ) → Between f old new lo hi → low ≤ lo → hi ≤ high → Apart old new low high
apart_run f old new lo hi low high b p q =
    record { under = λ k l. b.under k (omega arith); over = λ k l. b.over k (omega arith); len = b.len }

-- ---- one plane

-- in the plane that begins at `base` from the slot, new is g at the places that are P, and old elsewhere
pub record Plane (P : ℕ → Type 0) (g : ℕ → ℕ) (old new : List ℕ) (slot base pitch : ℕ) : Type 0 where
  pub inside : (X : ℕ) → P X → get_or new (slot + (base + X)) 0 ≡ g X
  pub outside : (X : ℕ) → X < pitch → (P X → ⊥) → get_or new (slot + (base + X)) 0 ≡ get_or old (slot + (base + X)) 0
  pub apart : Apart old new (slot + base) (slot + (base + pitch))

-- by a run
pub plane_run :
    (f g : ℕ → ℕ) (old new : List ℕ) (slot base pitch lo hi low high : ℕ) →
    Between f old new low high →
    low ≡ slot + (base + lo) →
    high ≡ slot + (base + hi) →
    hi ≤ pitch →
    ((X : ℕ) → lo ≤ X → X < hi → f (slot + (base + X)) ≡ g X) →
    Plane (In lo hi) g old new slot base pitch
plane_run f g old new slot base pitch lo hi low high b el eh fits rule =
    record {
      inside = λ X p. b.inside (slot + (base + X)) (omega (arith, p)) (omega (arith, p)) ∙ rule X p.0 p.1;
      outside = λ X l n.
          elim (le_or_lt lo X) [
            | inr u ↦ b.under (slot + (base + X)) (omega arith)
            | inl u ↦ elim (le_or_lt hi X) [
              | inl o ↦ b.over (slot + (base + X)) (omega arith)
              | inr o ↦ absurd (n (u, o))
            ]
          ];
      apart = apart_run f old new low high (slot + base) (slot + (base + pitch)) b (omega arith) (omega arith);
    }

-- by two stores
abbrev pub Either : ℕ → ℕ → ℕ → Type 0
Either a b X = (X ≡ a) ⊎ (X ≡ b)

pub plane_pair :
    (old : List ℕ) (slot base pitch a b p q v : ℕ) →
    p ≡ slot + (base + a) →
    q ≡ slot + (base + b) →
    a < b →
    b < pitch →
    q < length old →
    Plane (Either a b) (λ X. v) old (set (set old p v) q v) slot base pitch
plane_pair old slot base pitch a b p q v ep eq ab fits l =
    record {
      inside = λ X o.
          elim o [
            | inl e ↦ other (slot + (base + X)) (λ z. omega arith)
                ∙ subst (λ (k : ℕ). get_or (set old p v) k 0 ≡ v) (let h : p ≡ slot + (base + X) = omega arith in h) (get_or-set_same old p v 0 (omega arith))
            | inr e ↦ subst (λ (k : ℕ). get_or (set (set old p v) q v) k 0 ≡ v) (let h : q ≡ slot + (base + X) = omega arith in h)
                (get_or-set_same (set old p v) q v 0 (omega (arith, length-set old p v)))
          ];
      outside = λ X m n. kept (slot + (base + X)) (λ z. n (inl (omega arith))) (λ z. n (inr (omega arith)));
      apart = record {
        under = λ k m. kept k (λ z. omega arith) (λ z. omega arith);
        over = λ k m. kept k (λ z. omega arith) (λ z. omega arith);
        len = length-set (set old p v) q v ∙ length-set old p v;
      };
    }
  where
    other : (k : ℕ) → (k ≡ q → ⊥) → get_or (set (set old p v) q v) k 0 ≡ get_or (set old p v) k 0
    other k n = get_or-set_other (set old p v) q k v 0 n

    kept : (k : ℕ) → (k ≡ p → ⊥) → (k ≡ q → ⊥) → get_or (set (set old p v) q v) k 0 ≡ get_or old k 0
    kept k m n = other k n ∙ get_or-set_other old p k v 0 m

-- by two stores of what stands for it
pub turned_pair :
    (old : List ℕ) (slot base pitch a b p q w v : ℕ) →
    turned w ≡ v →
    p ≡ slot + (base + a) →
    q ≡ slot + (base + b) →
    a < b →
    b < pitch →
    q < length old →
    Plane (Either a b) (λ X. v) (numbers old) (numbers (set (set old p w) q w)) slot base pitch
turned_pair old slot base pitch a b p q w v e ep eq ab fits l =
    subst (λ (xs : List ℕ). Plane (Either a b) (λ X. v) (numbers old) xs slot base pitch)
    (sym (numbers_set (set old p w) q w ∙ ap (λ (xs : List ℕ). set xs q (turned w)) (numbers_set old p w)
    ∙ ap (λ (u : ℕ). set (set (numbers old) p u) q u) e))
    (plane_pair (numbers old) slot base pitch a b p q v ep eq ab fits (omega (arith, numbers_length old)))

-- ---- the planes below `past`

pub planes_none : (P : ℕ → Type 0) (f : ℕ → ℕ → ℕ) (old : List ℕ) (slot pitch : ℕ) → Planes P f old old slot pitch 0
planes_none P f old slot pitch =
    record { inside = λ j X l p. absurd (omega arith); outside = λ j X l n. refl; apart = apart_none old slot (slot + 0 * pitch) }

module _ (P : ℕ → Type 0) (f : ℕ → ℕ → ℕ) (old mid new : List ℕ) (slot pitch past : ℕ)
    (narrow : (X : ℕ) → P X → X < pitch)
    (s : Planes P f old mid slot pitch past)
    (t : Plane P (f past) mid new slot (past * pitch) pitch) where
  earlier : (j X : ℕ) → j < past → X < pitch → get_or new (slot + (j * pitch + X)) 0 ≡ get_or mid (slot + (j * pitch + X)) 0
  earlier j X l m = t.apart.under (slot + (j * pitch + X)) (omega (arith, rows_fit j 1 past pitch (omega arith)))

  later : (j X : ℕ) → past < j → get_or new (slot + (j * pitch + X)) 0 ≡ get_or mid (slot + (j * pitch + X)) 0
  later j X l = t.apart.over (slot + (j * pitch + X)) (omega (arith, rows_fit past 1 j pitch (omega arith)))

  -- a place that is left alone in one plane is left alone in every plane
  apart_in_all : (j X : ℕ) → X < pitch → (P X → ⊥) → get_or new (slot + (j * pitch + X)) 0 ≡ get_or mid (slot + (j * pitch + X)) 0
  apart_in_all j X l n =
      elim (le_or_lt past j) [
        | inr k ↦ earlier j X k l
        | inl k ↦ elim (le_or_lt j past) [
          | inr m ↦ later j X m
          | inl m ↦ subst (λ (i : ℕ). get_or new (slot + (i * pitch + X)) 0 ≡ get_or mid (slot + (i * pitch + X)) 0)
              (let e : past ≡ j = omega arith in e)
              (t.outside X l n)
        ]
      ]

  pub planes_more : Planes P f old new slot pitch (past + 1)
  planes_more =
      record {
        inside = λ j X l p.
            elim (le_or_lt past j) [
              | inr k ↦ earlier j X k (narrow X p) ∙ s.inside j X k p
              | inl k ↦ subst (λ (i : ℕ). get_or new (slot + (i * pitch + X)) 0 ≡ f i X) (let e : past ≡ j = omega arith in e) (t.inside X p)
            ];
        outside = λ j X l n. apart_in_all j X l n ∙ s.outside j X l n;
        apart =
            record {
              under = λ k l. t.apart.under k (omega arith) ∙ s.apart.under k l;
              over = λ k l.
                  let fits = rows_fit past 1 (past + 1) pitch (omega arith) in
                  t.apart.over k (omega (arith, fits)) ∙ s.apart.over k (omega (arith, fits));
              len = t.apart.len ∙ s.apart.len;
            };
      }

pub planes_ends :
    (P : ℕ → Type 0) (f : ℕ → ℕ → ℕ) (old new : List ℕ) (slot pitch past last : ℕ) →
    Planes P f old new slot pitch past → past ≡ last → Planes P f old new slot pitch last
planes_ends P f old new slot pitch past last s e = subst (λ (m : ℕ). Planes P f old new slot pitch m) e s

-- a plane more by a run that is copied
pub copied_more :
    (from : List ℕ) (f : ℕ → ℕ → ℕ) (old mid new : List ℕ) (slot pitch past lo hi low n start : ℕ) →
    Planes (In lo hi) f old mid slot pitch past →
    Between (λ k. get_or from (start + (k - low)) 0) mid new low (low + n) →
    low ≡ slot + (past * pitch + lo) →
    lo + n ≡ hi →
    hi ≤ pitch →
    ((X : ℕ) → lo ≤ X → X < hi → get_or from (start + (X - lo)) 0 ≡ f past X) →
    Planes (In lo hi) f old new slot pitch (past + 1)
copied_more from f old mid new slot pitch past lo hi low n start s b el en fits rule =
    planes_more (In lo hi) f old mid new slot pitch past (λ X p. omega (arith, p)) s
    (plane_run _ (f past) mid new slot (past * pitch) pitch lo hi low (low + n) b el (omega arith) fits
    (λ X p q. ap (λ (i : ℕ). get_or from (start + i) 0) (let e : slot + (past * pitch + X) - low ≡ X - lo = omega arith in e) ∙ rule X p q))
