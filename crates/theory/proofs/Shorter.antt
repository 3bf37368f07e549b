-- A path contains a shorter one through any of its pixels. From a walk through x its first pixels are dropped until x is the first one or enough
-- are gone; the rest is dropped from the end.
use Prim.Native.Nat.{ℕ, zero, suc, ◌*◌, ◌≤◌, ◌<◌}
use mathlib.Core.Path.{◌≡◌, sym, ap}
use mathlib.Core.List.Memᴰ
use mathlib.Core.List.{List, [], ◌∷◌, ◌++◌, tail, append-nil, Memᴰ}
use mathlib.Core.Logic.{⊎_elim}
use native.Mathlib.Omega.{arith}
use lib.Dec.{T}
use Rattle.basics.proofs.Numbers.{le_or_lt}
use Rattle.plate.specs.Paths.{next, paths_in, through}
use Rattle.theory.specs.Walks.{Walk, Walk.stop, Walk.go}
use Rattle.theory.proofs.Walks.{walk_first, walk_starts}
use Rattle.theory.proofs.Listed.{through_mem, mem_through, Listed, listed_walk, walk_listed, walk_stays}

-- the first k steps of a walk from p with the pixels ps
pub record Beginning (next : ℕ → List ℕ) (k p : ℕ) (ps : List ℕ) : Type 0 where
  pub part : List ℕ
  pub after : List ℕ
  pub walk : Walk next k p part
  pub whole : ps ≡ part ++ after

-- k steps in a row, through x, of a walk with the pixels ps
pub record Part (next : ℕ → List ℕ) (k x : ℕ) (ps : List ℕ) : Type 0 where
  pub start : ℕ
  pub before : List ℕ
  pub part : List ℕ
  pub after : List ℕ
  pub walk : Walk next k start part
  pub crosses : Memᴰ x part
  pub whole : ps ≡ before ++ (part ++ after)

module _ (next : ℕ → List ℕ) where
  pub beginning : {m p : ℕ} {ps : List ℕ} → Walk next m p ps → (k : ℕ) → k ≤ m → Beginning next k p ps
  beginning {p = p} {ps = ps} w zero l = record { part = p ∷ []; after = tail ps; walk = stop; whole = walk_starts w }
  beginning stop (suc k) l = absurd (omega arith)
  beginning (go {p} e w) (suc k) l =
      let r = beginning w k (omega arith) in
      record { part = p ∷ r.part; after = r.after; walk = go e r.walk; whole = ap (λ (qs : List ℕ). p ∷ qs) r.whole }

  from_first : {k x p : ℕ} {ps : List ℕ} → x ≡ p → Beginning next k p ps → Part next k x ps
  from_first {p = p} e b =
      record { start = p; before = []; part = b.part; after = b.after; walk = b.walk; crosses = rw e (walk_first b.walk); whole = b.whole }

  later : {k x : ℕ} {ps : List ℕ} (p : ℕ) → Part next k x ps → Part next k x (p ∷ ps)
  later p r =
      record {
        start = r.start;
        before = p ∷ r.before;
        part = r.part;
        after = r.after;
        walk = r.walk;
        crosses = r.crosses;
        whole = ap (λ (qs : List ℕ). p ∷ qs) r.whole;
      }

  all_of_it : {m x p : ℕ} {ps : List ℕ} (k : ℕ) → k ≡ m → Walk next m p ps → Memᴰ x ps → Part next k x ps
  all_of_it {p = p} {ps = ps} k e w i =
      record { start = p; before = []; part = ps; after = []; walk = rw e w; crosses = i; whole = sym (append-nil ps) }

  -- a walk of m steps through x contains one of k steps through x, for every k up to m
  pub shorter : {m p x : ℕ} {ps : List ℕ} → Walk next m p ps → Memᴰ x ps → (k : ℕ) → k ≤ m → Part next k x ps
  shorter stop i k l = all_of_it k (omega arith) stop i
  shorter (go e w) (Memᴰ.head h) k l = from_first h (beginning (go e w) k l)
  shorter (go {m} {p} e w) (Memᴰ.tail i) k l =
      ⊎_elim (λ u. later p (shorter w i k u)) (λ u. all_of_it k (omega arith) (go e w) (Memᴰ.tail i)) (le_or_lt k m)

-- a listed path of K pixels through x that is a part of the path ps
pub record ListedPart (W H bit K x : ℕ) (ps : List ℕ) : Type 0 where
  pub before : List ℕ
  pub part : List ℕ
  pub after : List ℕ
  pub listed : Memᴰ part (paths_in W H K bit)
  pub crosses : T (through x part)
  pub whole : ps ≡ before ++ (part ++ after)

module _ (W H bit : ℕ) where
  part_listed : {k m x : ℕ} {ps : List ℕ} → Listed W H bit m ps → Part (next W H bit) k x ps → ListedPart W H bit (suc k) x ps
  part_listed l r =
      let i = Memᴰ.append_right r.before (Memᴰ.append_left r.after (walk_first r.walk)) in
      let on : r.start < W * H = walk_stays W H bit l.walk l.start< (rw r.whole i) in
      record {
        before = r.before;
        part = r.part;
        after = r.after;
        listed = walk_listed W H bit on r.walk;
        crosses = mem_through _ r.crosses;
        whole = r.whole;
      }

  -- a path of L pixels contains, through any of its pixels, a path of K pixels for every K from 1 to L
  pub path_shorter : (L K x : ℕ) (ps : List ℕ) → 1 ≤ K → K ≤ L → Memᴰ ps (paths_in W H L bit) → T (through x ps) → ListedPart W H bit K x ps
  path_shorter (suc m) (suc k) x ps h l i j =
      let r = listed_walk W H bit m ps i in part_listed r (shorter (next W H bit) r.walk (through_mem x ps j) k (omega arith))
  path_shorter zero K x ps h l i j = absurd (omega arith)
  path_shorter (suc m) zero x ps h l i j = absurd (omega arith)
