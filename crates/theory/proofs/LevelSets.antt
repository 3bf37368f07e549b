-- Walks by level sets: the recursion that the engine computes, formula (3) of source 001 taken on keys, finds just the walks that are there.
-- 'Some walk counts at t' is one number a pixel, `best_walk`, since a walk that counts at a key counts at every lower one; 0 also stands for 'no walk'.
-- Over any function `next`, forwards or backwards, and any keys of 16 bits. At the end stands what a program that computes it uses.
use Prim.Native.Nat.{ℕ, zero, suc, ◌≤◌, ◌<◌}
use mathlib.Core.Path.{◌≡◌, refl}
use mathlib.Core.List.{List, [], ◌∷◌, Memᴰ}
use mathlib.Core.Logic.{⊎_elim}
use native.Mathlib.Omega.{arith}
use borrow.Author.Tests.{lt-ltb, le-ltb}
use Rattle.theory.specs.Walks.{Walk, Walk.stop, Walk.go, last_of}
use Rattle.theory.specs.BestWalks.{best, under, low_pixels, fewer, ended, alone, best_walk}
use Rattle.basics.proofs.Numbers.{le_or_lt, le_max_split, known_below}
use Rattle.plate.specs.Paths.{last_after}
use Rattle.theory.proofs.Walks.{last_on}
use Rattle.theory.proofs.Maxima.{best_find, best_keep, best_least, best_mono, best_same}

-- some walk of m steps from p has at most j pixels below t, and may end where it does
pub record Good (slack : ℕ) (next : ℕ → List ℕ) (g : ℕ → ℕ) (t m j p : ℕ) : Type 0 where
  pub pixels : List ℕ
  pub walk : Walk next m p pixels
  pub few : low_pixels g t pixels ≤ j
  pub ends : t ≤ ended slack (g (last_of pixels))

-- ---- laws of the parts

pub under_low : (t a : ℕ) → a < t → under t a ≡ 1
unfolding under
under_low t a h = rw (lt-ltb a t h)

pub under_high : (t a : ℕ) → t ≤ a → under t a ≡ 0
unfolding under
under_high t a h = rw (le-ltb a t h)

pub under_le_one : (t a : ℕ) → under t a ≤ 1
under_le_one t a = ⊎_elim (λ h. omega (arith, under_high t a h)) (λ h. omega (arith, under_low t a h)) (le_or_lt t a)

-- only the keys of the path's pixels matter
pub low_pixels_same : (g h : ℕ → ℕ) (t : ℕ) (path : List ℕ) → ((p : ℕ) → Memᴰ p path → g p ≡ h p) → low_pixels g t path ≡ low_pixels h t path
unfolding low_pixels
low_pixels_same g h t [] same = refl
low_pixels_same g h t (p ∷ path) same =
    rw (same p (Memᴰ.head refl), low_pixels_same g h t path (λ q i. same q (Memᴰ.tail i)))

fewer_find : (g : ℕ → ℕ) (t j : ℕ) → 1 ≤ t → t ≤ fewer g j → (i : ℕ) × (j ≡ suc i) × (t ≤ g i)
unfolding fewer
fewer_find g t zero positive h = absurd (omega arith)
fewer_find g t (suc j) positive h = (j, refl, h)

-- ---- the two lemmas

-- For 1 ≤ t: t ≤ reach m j p exactly when some walk of m steps from p has at most j pixels below t and may end where it does. By induction on m. A
-- walk of no step is the pixel p alone: it has no pixel below t just when t ≤ g p, and at most one always; then t ≤ slack is asked of it as an end. A walk of m + 1 steps is p and a walk of m steps from
-- some q of `next p`. If t ≤ g p, the rest has at most j pixels below t: t is at most both g p and the best reach of m steps with j gaps. If not,
-- p is a gap and the rest has at most j − 1: t is at most the best reach with one gap fewer. Conversely each of the two bounds gives a q and its
-- walk, and p is put before it: with its key at least t in the first case, and with whatever key in the second.
module _ (slack : ℕ) (next : ℕ → List ℕ) (g : ℕ → ℕ) (t : ℕ) where
  before_high : {m j p q : ℕ} → t ≤ g p → Memᴰ q (next p) → Good slack next g t m j q → Good slack next g t (suc m) j p
  unfolding low_pixels
  before_high {p = p} h e w = record { pixels = p ∷ w.pixels; walk = go e w.walk; few = omega (arith, under_high t (g p) h); ends = rw (last_on p w.walk) w.ends }

  before_any : {m i j p q : ℕ} → j ≡ suc i → Memᴰ q (next p) → Good slack next g t m i q → Good slack next g t (suc m) j p
  unfolding low_pixels
  before_any {p = p} s e w = record { pixels = p ∷ w.pixels; walk = go e w.walk; few = omega (arith, under_le_one t (g p)); ends = rw (last_on p w.walk) w.ends }

  pub reach_good : 1 ≤ t → (m j p : ℕ) → t ≤ best_walk slack next g m j p → Good slack next g t m j p
  unfolding best_walk low_pixels alone last_of last_after
  reach_good positive zero zero p h = record { pixels = p ∷ []; walk = stop; few = omega (arith, under_high t (g p) h); ends = omega arith }
  reach_good positive zero (suc j) p h = record { pixels = p ∷ []; walk = stop; few = omega (arith, under_le_one t (g p)); ends = h }
  reach_good positive (suc m) j p h =
      ⊎_elim
      (λ a. let r = best_find (best_walk slack next g m j) t (next p) positive (omega arith) in
      before_high (omega arith) r.1 (reach_good positive m j r.0 r.2))
      (λ b. let s = fewer_find (λ i. best (best_walk slack next g m i) (next p)) t j positive b in
      let r = best_find (best_walk slack next g m s.0) t (next p) positive s.2 in
      before_any s.1 r.1 (reach_good positive m s.0 r.0 r.2))
      (le_max_split t _ _ h)

  walk_reach :
      {m p : ℕ} {ps : List ℕ} → Walk next m p ps → t ≤ ended slack (g (last_of ps)) → (j : ℕ) → low_pixels g t ps ≤ j → t ≤ best_walk slack next g m j p
  unfolding best_walk low_pixels alone fewer last_of last_after
  walk_reach (stop {p}) e zero h =
      ⊎_elim (λ a. a) (λ b. absurd (omega (arith, under_low t (g p) b))) (le_or_lt t (g p))
  walk_reach stop e (suc j) h = e
  walk_reach (go {m} {p} {q} {ps} i w) e zero h =
      let f : t ≤ ended slack (g (last_of ps)) = rw (last_on p w) at e in
      ⊎_elim
      (λ a. omega (arith, best_keep (best_walk slack next g m zero) t q i (walk_reach w f zero (omega (arith, under_high t (g p) a)))))
      (λ b. absurd (omega (arith, under_low t (g p) b)))
      (le_or_lt t (g p))
  walk_reach (go {m} {p} {q} {ps} i w) e (suc j) h =
      let f : t ≤ ended slack (g (last_of ps)) = rw (last_on p w) at e in
      ⊎_elim
      (λ a. omega (arith, best_keep (best_walk slack next g m (suc j)) t q i (walk_reach w f (suc j) (omega (arith, under_high t (g p) a)))))
      (λ b. omega (arith, best_keep (best_walk slack next g m j) t q i (walk_reach w f j (omega (arith, under_low t (g p) b)))))
      (le_or_lt t (g p))

  pub good_reach : (m j p : ℕ) → Good slack next g t m j p → t ≤ best_walk slack next g m j p
  good_reach m j p w = walk_reach w.walk w.ends j w.few

-- ---- for a program that computes it: the recursion step by step, and what need not be visited

module _ (slack : ℕ) (next : ℕ → List ℕ) (g : ℕ → ℕ) where
  -- where no walk of m steps starts it is 0, whatever the gaps
  pub reach_none : (m j p : ℕ) → ((ps : List ℕ) → Walk next m p ps → ⊥) → best_walk slack next g m j p ≡ 0
  reach_none m j p none = known_below (best_walk slack next g m j p) 0
      (λ t positive h. let w = reach_good slack next g t positive m j p h in absurd (none w.pixels w.walk))
      (λ t positive h. omega arith)

  pub reach_bound : ((p : ℕ) → g p ≤ 65535) → slack ≤ 65535 → (m j p : ℕ) → best_walk slack next g m j p ≤ 65535
  unfolding best_walk alone fewer
  reach_bound bounded small zero zero p = bounded p
  reach_bound bounded small zero (suc j) p = omega (arith, bounded p)
  reach_bound bounded small (suc m) zero p = omega (arith, bounded p)
  reach_bound bounded small (suc m) (suc j) p =
      omega (arith, bounded p, best_least (best_walk slack next g m j) 65535 (next p) (λ q i. reach_bound bounded small m j q))

  -- one more gap never lowers it
  pub reach_more_gaps : (m j p : ℕ) → best_walk slack next g m j p ≤ best_walk slack next g m (suc j) p
  unfolding best_walk alone fewer
  reach_more_gaps zero zero p = omega arith
  reach_more_gaps zero (suc j) p = omega arith
  reach_more_gaps (suc m) zero p =
      omega (arith, best_mono (best_walk slack next g m 0) (best_walk slack next g m 1) (reach_more_gaps m 0) (next p))
  reach_more_gaps (suc m) (suc j) p =
      omega (
        arith,
        best_mono (best_walk slack next g m j) (best_walk slack next g m (suc j)) (reach_more_gaps m j) (next p),
        best_mono (best_walk slack next g m (suc j)) (best_walk slack next g m (suc (suc j))) (reach_more_gaps m (suc j)) (next p),
      )

-- reach is known by the keys of the places below n, where no step leads elsewhere
module _ (slack : ℕ) (next : ℕ → List ℕ) (g h : ℕ → ℕ) (n : ℕ)
    (stays : (p q : ℕ) → Memᴰ q (next p) → q < n) (same : (p : ℕ) → p < n → g p ≡ h p) where
  pub reach_same : (m j p : ℕ) → p < n → best_walk slack next g m j p ≡ best_walk slack next h m j p
  unfolding best_walk alone fewer
  reach_same zero zero p l = same p l
  reach_same zero (suc j) p l = omega (arith, same p l)
  reach_same (suc m) zero p l =
      omega (arith, same p l, best_same (best_walk slack next g m 0) (best_walk slack next h m 0) (next p) (λ q i. reach_same m 0 q (stays p q i)))
  reach_same (suc m) (suc j) p l =
      omega (
        arith,
        same p l,
        best_same (best_walk slack next g m j) (best_walk slack next h m j) (next p) (λ q i. reach_same m j q (stays p q i)),
        best_same (best_walk slack next g m (suc j)) (best_walk slack next h m (suc j)) (next p) (λ q i. reach_same m (suc j) q (stays p q i)),
      )
