-- The pixels to which a step leads, by line and pixel. A place is that of one line and pixel of the frame alone, since it is row times width plus
-- column. A step of a straight direction leads to three pixels of the line before, one of a diagonal to the pixel before, to the line before, or to
-- both: what the frame says of the greatest number to which a step leads is asked with a number that is 1 at one place alone.
use Prim.Native.Nat.{ℕ, suc, ◌+◌, ◌-◌, ◌*◌, ◌/◌, ◌%◌, ◌^◌, ◌≤◌, ◌<◌, max}
use mathlib.Core.Path.{◌≡◌, refl, sym, ap, subst, ◌∙◌}
use mathlib.Core.Bool.{Bool, true, false, cond}
use mathlib.Core.List.{Memᴰ}
use mathlib.Core.Logic.{◌⊎◌, inl, inr, ⊎_elim}
use native.Mathlib.Omega.{arith}
use lib.Arith.{digits_div, digits_mod}
use lib.Dec.{leb, eqb}
use borrow.Author.Tests.{eqb-true, eq-eqb, leb-true}
use Rattle.basics.proofs.Numbers.{le_or_lt, le_max_split}
use Rattle.theory.proofs.Maxima.{best_find, best_keep}
use Rattle.frames.specs.Steps.{gate}
use Rattle.frames.specs.Frames.{counted_from, place_in, spot, past, onward, Framed}
use Rattle.frames.specs.declared.frame.Frame.{Frame}
use Rattle.frames.proofs.SpotLaws.{turned_below, turned_twice}
use Rattle.frames.proofs.FrameSpots.{spot_on, onward_straight, onward_diagonal}
use Rattle.directions.specs.Plans.{by_rows, FrameOf}
use Rattle.theory.specs.Walks.{around}

-- ---- a place has one line and pixel

digits_same : (w a b c d : ℕ) → b < w → d < w → a * w + b ≡ c * w + d → (a ≡ c) × (b ≡ d)
digits_same w a b c d h k e =
    (sym (digits_div a h) ∙ ap (λ (n : ℕ). n / w) e ∙ digits_div c k, sym (digits_mod a h) ∙ ap (λ (n : ℕ). n % w) e ∙ digits_mod c k)

turned_same : (b : Bool) (n i k : ℕ) → i < n → k < n → counted_from b n i ≡ counted_from b n k → i ≡ k
turned_same b n i k h l e = sym (turned_twice b n i h) ∙ ap (counted_from b n) e ∙ turned_twice b n k l

module _ (r : Frame) (i x k z : ℕ) (hi : i < r.lines) (hx : x < r.across) (hk : k < r.lines) (hz : z < r.across) where
  turned_both :
      (counted_from r.flipped r.lines i ≡ counted_from r.flipped r.lines k) × (counted_from r.mirrored r.across x ≡ counted_from r.mirrored r.across z) →
      (i ≡ k) × (x ≡ z)
  turned_both e = (turned_same r.flipped r.lines i k hi hk e.0, turned_same r.mirrored r.across x z hx hz e.1)

  rows_same : r.leap ≡ r.across → r.hop ≡ 1 → place_in r i x ≡ place_in r k z → (i ≡ k) × (x ≡ z)
  unfolding place_in
  rows_same a b e =
      let e' : counted_from r.flipped r.lines i * r.across + counted_from r.mirrored r.across x
      ≡ counted_from r.flipped r.lines k * r.across + counted_from r.mirrored r.across z =
      omega (arith, rw (a, b) at e) in
      turned_both
      (digits_same r.across _ _ _ _ (turned_below r.mirrored r.across x hx) (turned_below r.mirrored r.across z hz) e')

  columns_same : r.leap ≡ 1 → r.hop ≡ r.lines → place_in r i x ≡ place_in r k z → (i ≡ k) × (x ≡ z)
  unfolding place_in
  columns_same a b e =
      let e' : counted_from r.mirrored r.across x * r.lines + counted_from r.flipped r.lines i
      ≡ counted_from r.mirrored r.across z * r.lines + counted_from r.flipped r.lines k =
      omega (arith, rw (a, b) at e) in
      let s = digits_same r.lines _ _ _ _ (turned_below r.flipped r.lines i hi) (turned_below r.flipped r.lines k hk) e' in
      turned_both (s.1, s.0)

module _ (r : Frame) (W H index : ℕ) (F : FrameOf r W H index) (i x k z : ℕ) where
  same_by :
      (b : Bool) → by_rows W H index ≡ b → i < r.lines → x < r.across → k < r.lines → z < r.across → place_in r i x ≡ place_in r k z → (i ≡ k) × (x ≡ z)
  same_by true d hi hx hk hz e =
      let s = F.along_rows d in rows_same r i x k z hi hx hk hz (s.2 ∙ sym s.1) s.3 e
  same_by false d hi hx hk hz e =
      let s = F.by_columns d in columns_same r i x k z hi hx hk hz s.2 (s.3 ∙ sym s.0) e

  pub place_injective : i < r.lines → x < r.across → k < r.lines → z < r.across → place_in r i x ≡ place_in r k z → (i ≡ k) × (x ≡ z)
  place_injective = same_by (by_rows W H index) refl

-- ---- one step

-- one step leads from line i and pixel x to line k and pixel z, which are on the frame
pub record Neighbour (r : Frame) (back : Bool) (i x k z : ℕ) : Type 0 where
  pub on_line : k < r.lines
  pub on_pixel : z < r.across
  pub straight : r.diagonal ≡ false → (past back i ≡ suc k) × (x ≤ z + 1) × (z ≤ x + 1)
  pub diagonal : r.diagonal ≡ true →
      ((k ≡ i) × (past back x ≡ suc z)) ⊎ (((past back i ≡ suc k) × (z ≡ x)) ⊎ ((past back i ≡ suc k) × (past back x ≡ suc z)))

-- of two coordinates the one where a step leads nearer, and the one from which it does
abbrev pub nearer : Bool → ℕ → ℕ → ℕ
nearer back a b = cond back b a

abbrev pub further : Bool → ℕ → ℕ → ℕ
further back a b = cond back a b

-- a straight step changes the line by one, a diagonal one line and pixel by at most one, and one of them at least
pub straight_step :
    (r : Frame) (back : Bool) (i x k z : ℕ) → Neighbour r back i x k z → r.diagonal ≡ false →
    (further back k i ≡ nearer back k i + 1) × (x ≤ z + 1) × (z ≤ x + 1)
unfolding past
straight_step r true i x k z n d = omega (arith, n.straight d)
straight_step r false i x k z n d = omega (arith, n.straight d)

pub diagonal_step :
    (r : Frame) (back : Bool) (i x k z : ℕ) → Neighbour r back i x k z → r.diagonal ≡ true →
    (nearer back k i ≤ further back k i)
    × (further back k i ≤ nearer back k i + 1)
    × (nearer back z x ≤ further back z x)
    × (further back z x ≤ nearer back z x + 1)
    × (nearer back k i + nearer back z x + 1 ≤ further back k i + further back z x)
unfolding past
diagonal_step r true i x k z n d =
    ⊎_elim (λ o. omega (arith, o)) (⊎_elim (λ o. omega (arith, o)) (λ o. omega (arith, o))) (n.diagonal d)
diagonal_step r false i x k z n d =
    ⊎_elim (λ o. omega (arith, o)) (⊎_elim (λ o. omega (arith, o)) (λ o. omega (arith, o))) (n.diagonal d)

-- 1 at one place alone
unfoldable only : ℕ → ℕ → ℕ
only q p = cond (eqb p q) 1 0

only_at : (q : ℕ) → 1 ≤ only q q
unfolding only
only_at q = rw (eq-eqb q q refl) (omega arith)

only_there : (q p : ℕ) → 1 ≤ only q p → p ≡ q
unfolding only
only_there q p h = go (eqb p q) refl h
  where
    go : (b : Bool) → eqb p q ≡ b → 1 ≤ cond b 1 0 → p ≡ q
    go true e l = eqb-true p q e
    go false e l = absurd (omega arith)

gate_open : (b : Bool) (v : ℕ) → 1 ≤ gate b v → (b ≡ true) × (1 ≤ v)
gate_open true v h = (refl, h)
gate_open false v h = absurd (omega arith)

-- a spot whose number is not 0 is on the frame
spot_some :
    (f : ℕ → ℕ) (r : Frame) (Y X : ℕ) → 1 ≤ spot f r Y X →
    (k : ℕ) × (z : ℕ) × (k < r.lines) × (z < r.across) × (Y ≡ suc k) × (X ≡ suc z) × (1 ≤ f (place_in r k z))
unfolding spot
spot_some f r Y X h =
    let a = gate_open (leb 1 Y) _ h in
    let b = gate_open (leb Y r.lines) _ a.1 in
    let c = gate_open (leb 1 X) _ b.1 in
    let d = gate_open (leb X r.across) _ c.1 in
    let la = leb-true 1 Y a.0 in
    let lb = leb-true Y r.lines b.0 in
    let lc = leb-true 1 X c.0 in
    let ld = leb-true X r.across d.0 in
    (Y - 1, X - 1, omega arith, omega arith, omega arith, omega arith, d.1)

three_split : (a b c : ℕ) → 1 ≤ max (max a b) c → (1 ≤ a) ⊎ ((1 ≤ b) ⊎ (1 ≤ c))
three_split a b c h =
    ⊎_elim (λ l. ⊎_elim (λ m. inl m) (λ m. inr (inl m)) (le_max_split 1 a b l)) (λ l. inr (inr l)) (le_max_split 1 (max a b) c h)

-- a Bool is not both
pub clash : {A : Type 0} (b : Bool) → b ≡ true → b ≡ false → A
clash b t f = absurd (let z : ◌≡◌ {A = ℕ} 0 1 = sym (ap (λ (c : Bool). cond c 1 0) f) ∙ ap (λ (c : Bool). cond c 1 0) t in omega arith)

module _ (r : Frame) (back : Bool) (i x k z : ℕ) (hk : k < r.lines) (hz : z < r.across) where
  beside :
      r.diagonal ≡ true → ((k ≡ i) × (past back x ≡ suc z)) ⊎ (((past back i ≡ suc k) × (z ≡ x)) ⊎ ((past back i ≡ suc k) × (past back x ≡ suc z))) →
      Neighbour r back i x k z
  beside d o = record { on_line = hk; on_pixel = hz; straight = λ e. clash r.diagonal d e; diagonal = λ _. o }

  before : r.diagonal ≡ false → past back i ≡ suc k → x ≤ z + 1 → z ≤ x + 1 → Neighbour r back i x k z
  before d e a b = record { on_line = hk; on_pixel = hz; straight = λ _. (e, a, b); diagonal = λ t. clash r.diagonal t d }

module _ (r : Frame) (W H index : ℕ) (F : Framed r W H index) (back : Bool) (i x : ℕ) (hi : i < r.lines) (hx : x < r.across) where
  -- a spot to which a step leads
  step_to :
      (q Y X : ℕ) → 1 ≤ spot (only q) r Y X →
      ((k z : ℕ) → k < r.lines → z < r.across → Y ≡ suc k → X ≡ suc z → Neighbour r back i x k z) →
      (k : ℕ) × (z : ℕ) × (place_in r k z ≡ q) × Neighbour r back i x k z
  step_to q Y X h n =
      let s = spot_some (only q) r Y X h in
      (s.0, s.1, only_there q (place_in r s.0 s.1) s.6, n s.0 s.1 s.2 s.3 s.4 s.5)

  step_in :
      (b : Bool) → r.diagonal ≡ b → (q : ℕ) → 1 ≤ onward (only q) r back i x → (k : ℕ) × (z : ℕ) × (place_in r k z ≡ q) × Neighbour r back i x k z
  step_in true d q h =
      ⊎_elim
      (λ l. step_to q (i + 1) (past back x) l (λ k z hk hz e a. beside r back i x k z hk hz d (inl (omega arith, a))))
      (⊎_elim
      (λ l. step_to q (past back i) (x + 1) l (λ k z hk hz e a. beside r back i x k z hk hz d (inr (inl (e, omega arith)))))
      (λ l. step_to q (past back i) (past back x) l (λ k z hk hz e a. beside r back i x k z hk hz d (inr (inr (e, a))))))
      (three_split _ _ _ (rw (onward_diagonal (only q) r back i x d) at h))
  step_in false d q h =
      ⊎_elim
      (λ l. step_to q (past back i) x l (λ k z hk hz e a. before r back i x k z hk hz d e (omega arith) (omega arith)))
      (⊎_elim
      (λ l. step_to q (past back i) (x + 1) l (λ k z hk hz e a. before r back i x k z hk hz d e (omega arith) (omega arith)))
      (λ l. step_to q (past back i) (x + 2) l (λ k z hk hz e a. before r back i x k z hk hz d e (omega arith) (omega arith))))
      (three_split _ _ _ (rw (onward_straight (only q) r back i x d) at h))

  pub step_place :
      (q : ℕ) → Memᴰ q (around back W H (2 ^ index) (place_in r i x)) → (k : ℕ) × (z : ℕ) × (place_in r k z ≡ q) × Neighbour r back i x k z
  step_place q m =
      step_in r.diagonal refl q (omega (arith, F.near (only q) back i x hi hx, best_keep (only q) 1 q m (only_at q)))

  -- a spot that is a pixel's
  spot_there : (k z Y X : ℕ) → k < r.lines → z < r.across → Y ≡ suc k → X ≡ suc z → 1 ≤ spot (only (place_in r k z)) r Y X
  spot_there k z Y X hk hz e a =
      rw (e, a, spot_on (only (place_in r k z)) r k z hk hz) (only_at (place_in r k z))

  step_out :
      (b : Bool) → r.diagonal ≡ b → (k z : ℕ) → Neighbour r back i x k z → 1 ≤ onward (only (place_in r k z)) r back i x
  step_out true d k z n =
      let there : (Y X : ℕ) → Y ≡ suc k → X ≡ suc z → 1 ≤ spot (only (place_in r k z)) r Y X = λ Y X. spot_there k z Y X n.on_line n.on_pixel in
      let is = onward_diagonal (only (place_in r k z)) r back i x d in
      ⊎_elim
      (λ o. omega (arith, is, there (i + 1) (past back x) (omega (arith, o.0)) o.1))
      (⊎_elim
      (λ o. omega (arith, is, there (past back i) (x + 1) o.0 (omega (arith, o.1))))
      (λ o. omega (arith, is, there (past back i) (past back x) o.0 o.1)))
      (n.diagonal d)
  step_out false d k z n =
      let there : (Y X : ℕ) → Y ≡ suc k → X ≡ suc z → 1 ≤ spot (only (place_in r k z)) r Y X = λ Y X. spot_there k z Y X n.on_line n.on_pixel in
      let is = onward_straight (only (place_in r k z)) r back i x d in
      let s = n.straight d in
      ⊎_elim
      (λ l.
      ⊎_elim
      (λ m. omega (arith, is, there (past back i) x s.0 (omega (arith, s.1, m))))
      (λ m. omega (arith, is, there (past back i) (x + 1) s.0 (omega (arith, l, m))))
      (le_or_lt (z + 1) x))
      (λ l. omega (arith, is, there (past back i) (x + 2) s.0 (omega (arith, s.2, l))))
      (le_or_lt z x)

  pub place_step : (k z : ℕ) → Neighbour r back i x k z → Memᴰ (place_in r k z) (around back W H (2 ^ index) (place_in r i x))
  place_step k z n =
      let q = place_in r k z in
      let s = best_find (only q) 1 (around back W H (2 ^ index) (place_in r i x)) (omega arith)
      (omega (arith, F.near (only q) back i x hi hx, step_out r.diagonal refl k z n)) in
      subst (λ (p : ℕ). Memᴰ p (around back W H (2 ^ index) (place_in r i x))) (only_there q s.0 s.2) s.1
