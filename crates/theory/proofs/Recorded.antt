-- A path as it stands in a buffer: a list whose neighbours are a step apart is a walk, and its low pixels are counted index by index.
use Prim.Native.Nat.{ℕ, zero, suc, ◌+◌, ◌≤◌, ◌<◌}
use mathlib.Core.Path.{◌≡◌, refl, sym, ap, ◌∙◌}
use mathlib.Core.List.{List, [], ◌∷◌, Memᴰ}
use native.Mathlib.Omega.{arith}
use lib.ListN.{length, get_or}
use Rattle.theory.specs.Walks.{Walk, Walk.stop, Walk.go}
use Rattle.theory.specs.BestWalks.{under, low_pixels, low_from}

pub recorded_walk :
    (next : ℕ → List ℕ) (m : ℕ) (path : List ℕ) → length path ≡ suc m → ((i : ℕ) → i < m → Memᴰ (get_or path (suc i) 0) (next (get_or path i 0))) →
    Walk next m (get_or path 0 0) path
recorded_walk next m [] e steps = absurd (omega arith)
recorded_walk next zero (p ∷ []) e steps = stop
recorded_walk next zero (p ∷ q ∷ path) e steps = absurd (omega arith)
recorded_walk next (suc m) (p ∷ []) e steps = absurd (omega arith)
recorded_walk next (suc m) (p ∷ q ∷ path) e steps =
    go (steps 0 (omega arith)) (recorded_walk next m (q ∷ path) (omega arith) (λ i l. steps (suc i) (omega arith)))

module _ (g : ℕ → ℕ) (t : ℕ) where
  low_later : (p : ℕ) (path : List ℕ) (a n : ℕ) → low_from g t (p ∷ path) (suc a) n ≡ low_from g t path a n
  unfolding low_from
  low_later p path a zero = refl
  low_later p path a (suc n) = ap (λ (k : ℕ). under t (g (get_or path a 0)) + k) (low_later p path (suc a) n)

  pub low_recorded : (path : List ℕ) → low_pixels g t path ≡ low_from g t path 0 (length path)
  unfolding low_pixels low_from
  low_recorded [] = refl
  low_recorded (p ∷ path) = ap (λ (k : ℕ). under t (g p) + k) (low_recorded path ∙ sym (low_later p path 0 (length path)))

  -- split at any index, and one pixel more at the end
  pub low_split : (path : List ℕ) (a m n : ℕ) → low_from g t path a (m + n) ≡ low_from g t path a m + low_from g t path (a + m) n
  unfolding low_from
  low_split path a zero n =
      let e : zero + n ≡ n = omega arith in let f : a + zero ≡ a = omega arith in rw (e, f) (omega arith)
  low_split path a (suc m) n =
      let e : suc m + n ≡ suc (m + n) = omega arith in
      let f : a + suc m ≡ suc a + m = omega arith in
      rw (e, f) (omega (arith, low_split path (suc a) m n))

  pub low_last : (path : List ℕ) (a n : ℕ) → low_from g t path a (n + 1) ≡ low_from g t path a n + under t (g (get_or path (a + n) 0))
  unfolding low_from
  low_last path a n = omega (arith, low_split path a n 1)

  -- only the pixels of the part matter
  pub low_same : (path path' : List ℕ) (a n : ℕ) → ((i : ℕ) → a ≤ i → i < a + n → get_or path i 0 ≡ get_or path' i 0) → low_from g t path a n ≡ low_from g t path' a n
  unfolding low_from
  low_same path path' a zero h = refl
  low_same path path' a (suc n) h =
      rw (h a (omega arith) (omega arith), low_same path path' (suc a) n (λ i l u. h i (omega arith) (omega arith)))
