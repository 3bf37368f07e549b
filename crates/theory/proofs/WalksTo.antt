-- Walks that may end at some pixels only: the recursion of LevelSets with a test on the last pixel. With a test that every pixel passes it is `best_walk`.
-- What holds of `best_walk` holds of it: it is bounded, one more gap never lowers it, and a level that it tells is followed step by step. Turned round, a
-- walk that ends at x is one that starts there.
use Prim.Native.Nat.{ℕ, zero, suc, ◌+◌, ◌-◌, ◌≤◌, ◌<◌, min, max}
use mathlib.Core.Path.{◌≡◌, refl, sym, ap, subst, ◌∙◌}
use mathlib.Core.Bool.{Bool, true, false, cond}
use mathlib.Core.List.{List, Memᴰ}
use mathlib.Core.Logic.{⊎_elim}
use native.Mathlib.Omega.{arith}
use Rattle.theory.specs.Walks.{Walk, Walk.stop, Walk.go, last_of}
use Rattle.theory.specs.BestWalks.{best, under, low_pixels, ended, alone, fewer, best_walk, best_walk_to}
use Rattle.basics.proofs.Numbers.{le_or_lt}
use Rattle.theory.proofs.Maxima.{best_find, best_keep, best_least, best_mono, best_same}
use Rattle.theory.proofs.LevelSets.{under_low, under_high}
use Rattle.theory.proofs.Walks.{last_on}
use Rattle.plate.specs.Paths.{last_after}

abbrev pub anywhere : ℕ → Bool
anywhere p = true

module _ (slack : ℕ) (next : ℕ → List ℕ) (g : ℕ → ℕ) where
  pub reach_anywhere : (m j p : ℕ) → best_walk_to slack next g anywhere m j p ≡ best_walk slack next g m j p
  unfolding best_walk_to best_walk fewer
  reach_anywhere zero j p = refl
  reach_anywhere (suc m) zero p =
      rw (best_same (best_walk_to slack next g anywhere m 0) (best_walk slack next g m 0) (next p) (λ q i. reach_anywhere m 0 q))
  reach_anywhere (suc m) (suc j) p =
      rw (
        best_same (best_walk_to slack next g anywhere m (suc j)) (best_walk slack next g m (suc j)) (next p) (λ q i. reach_anywhere m (suc j) q),
        best_same (best_walk_to slack next g anywhere m j) (best_walk slack next g m j) (next p) (λ q i. reach_anywhere m j q),
      )

-- a number under a test, 0 where it fails
cond_below : (b : Bool) (a : ℕ) → cond b a 0 ≤ a
cond_below true a = omega arith
cond_below false a = omega arith

cond_mono : (b : Bool) (a c : ℕ) → a ≤ c → cond b a 0 ≤ cond b c 0
cond_mono true a c h = h
cond_mono false a c h = omega arith

cond_passed : (b : Bool) (t a : ℕ) → 1 ≤ t → t ≤ cond b a 0 → (b ≡ true) × (t ≤ a)
cond_passed true t a positive h = (refl, h)
cond_passed false t a positive h = absurd (omega arith)

-- a single pixel that counts at t is a gap only where there is one
alone_few : (slack t a j : ℕ) → t ≤ alone slack a j → under t a ≤ j
unfolding alone
alone_few slack t a zero h = omega (arith, under_high t a h)
alone_few slack t a (suc j) h = ⊎_elim (λ l. omega (arith, under_high t a l)) (λ l. omega (arith, under_low t a l)) (le_or_lt t a)

few_alone : (slack t a j : ℕ) → t ≤ slack → under t a ≤ j → t ≤ alone slack a j
unfolding alone
few_alone slack t a zero small h = ⊎_elim (λ l. l) (λ l. absurd (omega (arith, under_low t a l))) (le_or_lt t a)
few_alone slack t a (suc j) small h = omega arith

module _ (slack : ℕ) (next : ℕ → List ℕ) (g : ℕ → ℕ) (passes : ℕ → Bool) where
  -- ---- the recursion, step by step

  pub from_start : (j p : ℕ) → best_walk_to slack next g passes 0 j p ≡ cond (passes p) (alone slack (g p) j) 0
  unfolding best_walk_to
  from_start j p = refl

  pub from_step : (m j p : ℕ) →
      best_walk_to slack next g passes (suc m) j p
      ≡ max (min (g p) (best (best_walk_to slack next g passes m j) (next p))) (fewer (λ i. best (best_walk_to slack next g passes m i) (next p)) j)
  unfolding best_walk_to
  from_step m j p = refl

  -- ---- bounds

  -- a test only takes walks away
  pub from_below : (m j p : ℕ) → best_walk_to slack next g passes m j p ≤ best_walk slack next g m j p
  unfolding best_walk_to best_walk fewer
  from_below zero j p = cond_below (passes p) (alone slack (g p) j)
  from_below (suc m) zero p = omega (arith, best_mono (best_walk_to slack next g passes m 0) (best_walk slack next g m 0) (from_below m 0) (next p))
  from_below (suc m) (suc j) p =
      omega (
        arith,
        best_mono (best_walk_to slack next g passes m j) (best_walk slack next g m j) (from_below m j) (next p),
        best_mono (best_walk_to slack next g passes m (suc j)) (best_walk slack next g m (suc j)) (from_below m (suc j)) (next p),
      )

  -- it is 0 at places among which every step stays, where none of them passes the test
  pub from_nowhere :
      (Out : ℕ → Type 0) → ((p q : ℕ) → Out p → Memᴰ q (next p) → Out q) → ((p : ℕ) → Out p → passes p ≡ false) →
      (m j p : ℕ) → Out p → best_walk_to slack next g passes m j p ≡ 0
  unfolding best_walk_to fewer
  from_nowhere Out closed barred zero j p out = rw (barred p out)
  from_nowhere Out closed barred (suc m) zero p out =
      omega (
        arith,
        best_least (best_walk_to slack next g passes m 0) 0 (next p)
            (λ q i. omega (arith, from_nowhere Out closed barred m 0 q (closed p q out i))),
      )
  from_nowhere Out closed barred (suc m) (suc j) p out =
      omega (
        arith,
        best_least (best_walk_to slack next g passes m j) 0 (next p)
            (λ q i. omega (arith, from_nowhere Out closed barred m j q (closed p q out i))),
        best_least (best_walk_to slack next g passes m (suc j)) 0 (next p)
            (λ q i. omega (arith, from_nowhere Out closed barred m (suc j) q (closed p q out i))),
      )

  -- one more gap never lowers it, nor do several
  pub from_more_gaps : (m j p : ℕ) → best_walk_to slack next g passes m j p ≤ best_walk_to slack next g passes m (suc j) p
  unfolding best_walk_to alone fewer
  from_more_gaps zero zero p = cond_mono (passes p) (g p) (ended slack (g p)) (omega arith)
  from_more_gaps zero (suc j) p = omega arith
  from_more_gaps (suc m) zero p =
      omega (arith, best_mono (best_walk_to slack next g passes m 0) (best_walk_to slack next g passes m 1) (from_more_gaps m 0) (next p))
  from_more_gaps (suc m) (suc j) p =
      omega (
        arith,
        best_mono (best_walk_to slack next g passes m j) (best_walk_to slack next g passes m (suc j)) (from_more_gaps m j) (next p),
        best_mono (best_walk_to slack next g passes m (suc j)) (best_walk_to slack next g passes m (suc (suc j))) (from_more_gaps m (suc j)) (next p),
      )

  pub from_gaps : (m j k p : ℕ) → j ≤ k → best_walk_to slack next g passes m j p ≤ best_walk_to slack next g passes m k p
  from_gaps m j zero p h = let e : j ≡ 0 = omega arith in omega (arith, ap (λ (i : ℕ). best_walk_to slack next g passes m i p) e)
  from_gaps m j (suc k) p h =
      ⊎_elim
      (λ l. omega (arith, from_gaps m j k p l, from_more_gaps m k p))
      (λ l. let e : j ≡ suc k = omega arith in omega (arith, ap (λ (i : ℕ). best_walk_to slack next g passes m i p) e))
      (le_or_lt j k)

  -- ---- one step: a level t that is told at p is told again at some neighbour, and p takes a gap where it is below t

  module _ (t : ℕ) where
    -- the last pixel passes the test
    pub from_last : (j p : ℕ) → 1 ≤ t → t ≤ best_walk_to slack next g passes 0 j p → (passes p ≡ true) × (under t (g p) ≤ j)
    unfolding best_walk_to
    from_last j p positive h =
        let r = cond_passed (passes p) t (alone slack (g p) j) positive h in (r.0, alone_few slack t (g p) j r.1)

    from_neighbours :
        (m j p : ℕ) → 1 ≤ t → t ≤ best_walk_to slack next g passes (suc m) j p →
        (under t (g p) ≤ j) × (t ≤ best (best_walk_to slack next g passes m (j - under t (g p))) (next p))
    unfolding fewer
    from_neighbours m zero p positive h =
        let e : under t (g p) ≡ 0 = under_high t (g p) (omega (arith, from_step m zero p)) in
        let d : 0 - under t (g p) ≡ 0 = omega arith in
        (omega arith, rw d (omega (arith, from_step m zero p)))
    from_neighbours m (suc j) p positive h =
        ⊎_elim
        (λ l.
        let e : under t (g p) ≡ 0 = under_high t (g p) l in
        let d : suc j - under t (g p) ≡ suc j = omega arith in
        let n = best_mono (best_walk_to slack next g passes m j) (best_walk_to slack next g passes m (suc j)) (from_more_gaps m j) (next p) in
        (omega arith, rw d (omega (arith, from_step m (suc j) p, n))))
        (λ l.
        let e : under t (g p) ≡ 1 = under_low t (g p) l in
        let d : suc j - under t (g p) ≡ j = omega arith in
        (omega arith, rw d (omega (arith, from_step m (suc j) p))))
        (le_or_lt t (g p))

    pub from_follow :
        (m j p : ℕ) → 1 ≤ t → t ≤ best_walk_to slack next g passes (suc m) j p →
        (under t (g p) ≤ j) × (q : ℕ) × Memᴰ q (next p) × (t ≤ best_walk_to slack next g passes m (j - under t (g p)) q)
    from_follow m j p positive h =
        let r = from_neighbours m j p positive h in
        let s = best_find (best_walk_to slack next g passes m (j - under t (g p))) t (next p) positive r.1 in
        (r.0, s.0, s.1, s.2)

    -- and the other way: what is told at a neighbour is told here
    pub from_end : (j p : ℕ) → t ≤ slack → passes p ≡ true → under t (g p) ≤ j → t ≤ best_walk_to slack next g passes 0 j p
    unfolding best_walk_to
    from_end j p small e h = rw e (few_alone slack t (g p) j small h)

    pub from_before :
        (m j p q : ℕ) → Memᴰ q (next p) → t ≤ best_walk_to slack next g passes m j q → t ≤ best_walk_to slack next g passes (suc m) (j + under t (g p)) p
    unfolding fewer
    from_before m j p q i h =
        let n = best_keep (best_walk_to slack next g passes m j) t q i h in
        ⊎_elim
        (λ (l : t ≤ g p).
        let d : j + under t (g p) ≡ j = omega (arith, under_high t (g p) l) in rw d (omega (arith, from_step m j p)))
        (λ (l : g p < t).
        let d : j + under t (g p) ≡ suc j = omega (arith, under_low t (g p) l) in rw d (omega (arith, from_step m (suc j) p)))
        (le_or_lt t (g p))

-- ---- turned round: pixel after pixel is moved from a walk over `back` to one over `next`, or the other way, and each step turned round. The pixel
-- where the two meet is in both, so that its gap is spared once.

-- some walk of m steps from p to q has at most j pixels below t
pub record Leading (next : ℕ → List ℕ) (g : ℕ → ℕ) (t m j p q : ℕ) : Type 0 where
  pub pixels : List ℕ
  pub walk : Walk next m p pixels
  pub few : low_pixels g t pixels ≤ j
  pub last : last_of pixels ≡ q

module _ (slack : ℕ) (next back : ℕ → List ℕ) (g : ℕ → ℕ) (passes : ℕ → Bool) (t : ℕ) where
  -- to a pixel that passes the test by `back`: from there by `next`
  module _ (turn_back : (p q : ℕ) → Memᴰ q (back p) → Memᴰ p (next q)) where
    turned_on :
        1 ≤ t → (m j q : ℕ) → t ≤ best_walk_to slack back g passes m j q → {a n k y : ℕ} {ps : List ℕ} → Walk next a q ps → last_of ps ≡ y → m + a ≡ n →
        j + low_pixels g t ps ≤ k + under t (g q) → (z : ℕ) × (passes z ≡ true) × Leading next g t n k z y
    unfolding low_pixels
    turned_on positive zero j q h {a} {n} {k} {y} {ps} w e s few =
        let r = from_last slack back g passes t j q positive h in
        let c : a ≡ n = omega arith in
        (q, r.0, record { pixels = ps; walk = subst (λ (i : ℕ). Walk next i q ps) c w; few = omega (arith, r.1); last = e })
    turned_on positive (suc m) j q h w e s few =
        let r = from_follow slack back g passes t m j q positive h in
        turned_on positive m (j - under t (g q)) r.1 r.3 (go (turn_back q r.1 r.2) w) (last_on r.1 w ∙ e) (omega arith) (omega (arith, r.0))

    pub from_turned : 1 ≤ t → (m j q : ℕ) → t ≤ best_walk_to slack back g passes m j q → (z : ℕ) × (passes z ≡ true) × Leading next g t m j z q
    unfolding low_pixels last_of last_after
    from_turned positive m j q h = turned_on positive m j q h stop refl (omega arith) (omega arith)

  -- from a pixel that passes the test by `next`: back to it from the last pixel, which is on the plate with the first
  module _ (turn : (p q : ℕ) → Memᴰ q (next p) → Memᴰ p (back q)) (size : ℕ) (stays : (p q : ℕ) → Memᴰ q (next p) → q < size) where
    turned_back :
        (a c j n : ℕ) {m p : ℕ} {ps : List ℕ} → Walk next m p ps → t ≤ best_walk_to slack back g passes a c p → m + a ≡ n →
        c + low_pixels g t ps ≤ j + under t (g p) → p < size → (q : ℕ) × (q ≡ last_of ps) × (q < size) × (t ≤ best_walk_to slack back g passes n j q)
    unfolding low_pixels last_of last_after
    turned_back a c j n (stop {p}) h s few on =
        let e : a ≡ n = omega arith in
        (p, refl, on, omega (arith, from_gaps slack back g passes a c j p (omega arith), ap (λ (i : ℕ). best_walk_to slack back g passes i j p) e))
    turned_back a c j n (go {p = p} {q} i w) h s few on =
        let r =
        turned_back (suc a) (c + under t (g q)) j n w (from_before slack back g passes t a c q p (turn p q i) h) (omega arith) (omega arith) (stays p q i) in
        (r.0, r.1 ∙ sym (last_on p w), r.2, r.3)

    pub turned_from :
        t ≤ slack → (m j p : ℕ) → passes p ≡ true → p < size → {ps : List ℕ} → Walk next m p ps → low_pixels g t ps ≤ j →
        (q : ℕ) × (q ≡ last_of ps) × (q < size) × (t ≤ best_walk_to slack back g passes m j q)
    turned_from small m j p e on w few =
        let h = from_end slack back g passes t (under t (g p)) p small e (omega arith) in
        turned_back 0 (under t (g p)) j m w h (omega arith) (omega (arith, few)) on
