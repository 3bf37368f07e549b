-- Maxima of natural numbers, over a list and over 0 to n. One number is not above a maximum exactly if it is not above one of its members, and the
-- maximum is not above what no member is above.
use Prim.Native.Nat.{ℕ, zero, suc, ◌≤◌}
use mathlib.Core.Path.{◌≡◌, refl, ap}
use mathlib.Core.List.{List, [], ◌∷◌, Memᴰ}
use mathlib.Core.Logic.{⊎_elim}
use native.Mathlib.Omega.{arith}
use Rattle.basics.specs.Lists.{up_from}
use Rattle.theory.specs.BestWalks.{best, upto}
use Rattle.basics.proofs.Numbers.{le_max_split}
use Rattle.basics.proofs.Lists.{up_from_find, up_from_has}

-- ---- over a list

pub best_find : (g : ℕ → ℕ) (t : ℕ) (qs : List ℕ) → 1 ≤ t → t ≤ best g qs → (q : ℕ) × Memᴰ q qs × (t ≤ g q)
unfolding best
best_find g t [] positive h = absurd (omega arith)
best_find g t (q ∷ qs) positive h =
    ⊎_elim (λ a. (q, Memᴰ.head refl, a))
    (λ b. let r = best_find g t qs positive b in (r.0, Memᴰ.tail r.1, r.2))
    (le_max_split t (g q) (best g qs) h)

pub best_keep : (g : ℕ → ℕ) (t q : ℕ) {qs : List ℕ} → Memᴰ q qs → t ≤ g q → t ≤ best g qs
unfolding best
best_keep g t q (Memᴰ.head e) h = omega (arith, ap g e)
best_keep g t q (Memᴰ.tail i) h = omega (arith, best_keep g t q i h)

pub best_least : (g : ℕ → ℕ) (b : ℕ) (qs : List ℕ) → ((q : ℕ) → Memᴰ q qs → g q ≤ b) → best g qs ≤ b
unfolding best
best_least g b [] h = omega arith
best_least g b (q ∷ qs) h =
    omega (arith, h q (Memᴰ.head refl), best_least g b qs (λ r i. h r (Memᴰ.tail i)))

pub best_mono : (g h : ℕ → ℕ) → ((q : ℕ) → g q ≤ h q) → (qs : List ℕ) → best g qs ≤ best h qs
best_mono g h le qs = best_least g (best h qs) qs (λ q i. best_keep h (g q) q i (le q))

pub best_same : (g h : ℕ → ℕ) (qs : List ℕ) → ((q : ℕ) → Memᴰ q qs → g q ≡ h q) → best g qs ≡ best h qs
unfolding best
best_same g h [] same = refl
best_same g h (q ∷ qs) same = rw (same q (Memᴰ.head refl), best_same g h qs (λ r i. same r (Memᴰ.tail i)))

-- ---- from 0 to n

pub upto_find : (g : ℕ → ℕ) (t n : ℕ) → t ≤ upto g n → (i : ℕ) × (i ≤ n) × (t ≤ g i)
unfolding upto
upto_find g zero n h = (zero, omega arith, omega arith)
upto_find g (suc t) n h =
    let r = best_find g (suc t) (up_from 0 (suc n)) (omega arith) h in
    (r.0, omega (arith, (up_from_find 0 (suc n) r.0 r.1).1), r.2)

pub upto_keep : (g : ℕ → ℕ) (t n i : ℕ) → i ≤ n → t ≤ g i → t ≤ upto g n
unfolding upto
upto_keep g t n i l h = best_keep g t i (up_from_has 0 (suc n) i (omega arith) (omega arith)) h

pub upto_least : (g : ℕ → ℕ) (b n : ℕ) → ((i : ℕ) → i ≤ n → g i ≤ b) → upto g n ≤ b
unfolding upto
upto_least g b n h = best_least g b (up_from 0 (suc n)) (λ i j. h i (omega (arith, (up_from_find 0 (suc n) i j).1)))
