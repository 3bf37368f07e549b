-- Paths as walks. A walk is counted by its steps (m steps, m + 1 pixels) and is a derivation instead of an entry of a list, so that proofs go
-- by induction on it. It is stated over any function that gives the next places, forwards or backwards.
use Prim.Native.Nat.{ℕ, suc}
use mathlib.Core.Path.{◌≡◌, refl, sym, ap, ◌∙◌}
use mathlib.Core.List.{List, [], ◌∷◌, tail, reverse_aux, Memᴰ}
use lib.ListN.{length, get_or}
use Rattle.plate.specs.Paths.{last_after, ends_of}
use Rattle.theory.specs.Walks.{Walk, Walk.stop, Walk.go, WalkFrom, last_of}

pub walk_length : {next : ℕ → List ℕ} {m p : ℕ} {ps : List ℕ} → Walk next m p ps → length ps ≡ suc m
walk_length stop = refl
walk_length (go e w) = ap suc (walk_length w)

-- a walk starts on its first pixel
pub walk_first : {next : ℕ → List ℕ} {m p : ℕ} {ps : List ℕ} → Walk next m p ps → Memᴰ p ps
walk_first stop = Memᴰ.head refl
walk_first (go e w) = Memᴰ.head refl

pub walk_starts : {next : ℕ → List ℕ} {m p : ℕ} {ps : List ℕ} → Walk next m p ps → ps ≡ p ∷ tail ps
walk_starts stop = refl
walk_starts (go e w) = refl

-- a walk with one step before it
pub step_first : {next : ℕ → List ℕ} {m p q : ℕ} → Memᴰ q (next p) → WalkFrom next m q → WalkFrom next (suc m) p
step_first {p = p} e w = record { pixels = p ∷ w.pixels; walk = go e w.walk }

-- ---- the ends of a walk

-- one step before it leaves the last pixel as it is
pub last_on : {next : ℕ → List ℕ} {m q : ℕ} {ps : List ℕ} (p : ℕ) → Walk next m q ps → last_of (p ∷ ps) ≡ last_of ps
unfolding last_of last_after
last_on p stop = refl
last_on p (go e w) = refl

-- which is one of them, m steps from the first
pub walk_last : {next : ℕ → List ℕ} {m p : ℕ} {ps : List ℕ} → Walk next m p ps → Memᴰ (last_of ps) ps
unfolding last_of last_after
walk_last stop = Memᴰ.head refl
walk_last (go {p = p} e w) = rw (last_on p w) (Memᴰ.tail (walk_last w))

pub last_at : {next : ℕ → List ℕ} {m p : ℕ} {ps : List ℕ} → Walk next m p ps → last_of ps ≡ get_or ps m 0
unfolding last_of last_after
last_at stop = refl
last_at (go {p = p} e w) = last_on p w ∙ last_at w

-- its end pixels are where it starts and the last one
pub walk_ends : {next : ℕ → List ℕ} {m p : ℕ} {ps : List ℕ} → Walk next m p ps → ends_of ps ≡ p ∷ last_of ps ∷ []
unfolding ends_of last_of
walk_ends stop = refl
walk_ends (go e w) = refl

-- of pixels in reverse, with others behind them, the last are those of the others
pub last_reversed : (ps : List ℕ) (p : ℕ) (qs : List ℕ) → last_of (reverse_aux ps (p ∷ qs)) ≡ last_of (p ∷ qs)
unfolding last_of last_after
last_reversed [] p qs = refl
last_reversed (q ∷ ps) p qs = last_reversed ps q (p ∷ qs)

-- and the first is the last of those that were turned
pub first_reversed : (ps : List ℕ) (p : ℕ) (qs : List ℕ) → get_or (reverse_aux ps (p ∷ qs)) 0 0 ≡ last_of (p ∷ ps)
unfolding last_of last_after
first_reversed [] p qs = refl
first_reversed (q ∷ ps) p qs = first_reversed ps q (p ∷ qs)

-- two walks that meet at x, the first turned round: the whole starts where the first ends, and ends where the second does
module _ {next back : ℕ → List ℕ} {a b x : ℕ} {came goes : List ℕ} (v : Walk back a x came) (w : Walk next b x goes) where
  pub joined_ends : last_of (reverse_aux (tail came) goes) ≡ last_of goes
  joined_ends =
      ap (λ (ps : List ℕ). last_of (reverse_aux (tail came) ps)) (walk_starts w) ∙ last_reversed (tail came) x (tail goes) ∙ ap last_of (sym (walk_starts w))

  pub joined_starts : {m p : ℕ} → Walk next m p (reverse_aux (tail came) goes) → p ≡ last_of came
  joined_starts {p = p} u =
      ap (λ (ps : List ℕ). get_or ps 0 0) (sym (walk_starts u))
      ∙ ap (λ (ps : List ℕ). get_or (reverse_aux (tail came) ps) 0 0) (walk_starts w)
      ∙ first_reversed (tail came) x (tail goes)
      ∙ ap last_of (sym (walk_starts v))
