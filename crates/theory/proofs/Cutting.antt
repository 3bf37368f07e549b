-- A walk through x is two walks that meet at x: one over `back` that leads from x to where the walk starts, and one over `next` from x on. The
-- pixels of the first in reverse, x once, then those of the second are the pixels of the whole: `reverse_aux (tail came) goes`. Pixel after pixel
-- is moved from one of the two walks to the other, and each step turned round.
use Prim.Native.Nat.{ℕ, ◌+◌}
use mathlib.Core.Path.{◌≡◌, refl, sym, ap, subst, ◌∙◌}
use mathlib.Core.List.{List, [], ◌∷◌, tail, reverse, reverse_aux, Memᴰ}
use native.Mathlib.Omega.{arith}
use Rattle.theory.specs.Walks.{Walk, Walk.stop, Walk.go, WalkOf}
use Rattle.theory.proofs.Walks.{walk_starts}

-- a walk of m steps with the pixels ps, cut at x; x is in both parts
pub record Cut (next back : ℕ → List ℕ) (m x : ℕ) (ps : List ℕ) : Type 0 where
  pub before : ℕ
  pub after : ℕ
  pub came : List ℕ
  pub goes : List ℕ
  pub walk_back : Walk back before x came
  pub walk_on : Walk next after x goes
  pub steps : before + after ≡ m
  pub pixels : ps ≡ reverse_aux (tail came) goes

-- the first pixel of a walk, moved over
moved : {next : ℕ → List ℕ} {m y : ℕ} {ps : List ℕ} (qs : List ℕ) → Walk next m y ps → reverse_aux (tail ps) (y ∷ qs) ≡ reverse_aux ps qs
moved qs w = sym (ap (λ (rs : List ℕ). reverse_aux rs qs) (walk_starts w))

module _ (next back : ℕ → List ℕ) (turn : (p q : ℕ) → Memᴰ q (next p) → Memᴰ p (back q)) where
  here : {x y m a b : ℕ} {ps qs rs : List ℕ} → y ≡ x → Walk next b y qs → Walk back a y rs → a + b ≡ m →
      ps ≡ reverse_aux (tail rs) qs → Cut next back m x ps
  here {m = m} {ps = ps} e w v s c =
      subst (λ (z : ℕ). Cut next back m z ps) e
      (record { before = _; after = _; came = _; goes = _; walk_back = v; walk_on = w; steps = s; pixels = c })

  cut_on : {x y m a b : ℕ} {ps qs rs : List ℕ} → Walk next b y qs → Memᴰ x qs → Walk back a y rs → a + b ≡ m →
      ps ≡ reverse_aux (tail rs) qs → Cut next back m x ps
  cut_on stop (Memᴰ.head e) v s c = here (sym e) stop v s c
  cut_on stop (Memᴰ.tail i) v s c = absurd (mathlib.Core.List.Memᴰ.not-nil i)
  cut_on (go e' w) (Memᴰ.head e) v s c = here (sym e) (go e' w) v s c
  cut_on (go e' w) (Memᴰ.tail i) v s c = cut_on w i (go (turn _ _ e') v) (omega arith) (c ∙ moved _ v)

  -- a walk through x can be cut there
  pub cut : {m p x : ℕ} {ps : List ℕ} → Walk next m p ps → Memᴰ x ps → Cut next back m x ps
  cut w i = cut_on w i stop (omega arith) refl

  -- two walks from x, joined: where `next` leads, turned round, and from x on where `back` leads. With `next` and `back` exchanged the parts of a
  -- walk are joined again; with no second walk the first is reversed.
  pub join : {x m a b : ℕ} {ps qs : List ℕ} → Walk next b x ps → Walk back a x qs → a + b ≡ m → WalkOf back m (reverse_aux (tail ps) qs)
  join {x} {m} {a} {qs = qs} stop v s =
      let e : a ≡ m = omega arith in record { start = x; walk = subst (λ (k : ℕ). Walk back k x qs) e v }
  join {m = m} (go e w) v s = rw (moved _ w) at (join {m = m} w (go (turn _ _ e) v) (omega arith))

  -- a walk walked backwards: its pixels in reverse, from its last one
  pub reversed : {m p : ℕ} {ps : List ℕ} → Walk next m p ps → WalkOf back m (reverse ps)
  reversed {m} w = rw (moved [] w) at (join {m = m} w stop (omega arith))
