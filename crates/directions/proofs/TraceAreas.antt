-- Where the numbers of a trace are not 0. A walk of n steps to the picked pixel starts in a cone: on a straight direction n lines away from it, since a
-- step leads to the line before; on a diagonal at most n lines and n pixels away, and at least n of both together. A pixel whose number is not 0 has a
-- neighbour whose number is not 0 after one step fewer, and a step widens the cone by one. Off the area of the trace, and too near to it for so many
-- steps, the numbers are 0 because the cone is not there.
use Prim.Native.Nat.{ℕ, zero, suc, ◌+◌, ◌-◌, ◌^◌, ◌≤◌, ◌<◌, min}
use mathlib.Core.Path.{◌≡◌, refl, sym, subst, ◌∙◌}
use mathlib.Core.Bool.{Bool, true, false, cond}
use mathlib.Core.List.{List, Memᴰ}
use mathlib.Core.Logic.{◌⊎◌, inl, inr, ⊎_elim}
use native.Mathlib.Omega.{arith}
use lib.Dec.{eqb}
use borrow.Author.Tests.{eqb-true}
use Rattle.basics.proofs.Numbers.{le_or_lt, le_max_split}
use Rattle.theory.proofs.WalksTo.{from_start, from_step}
use Rattle.theory.proofs.Maxima.{best_find}
use Rattle.frames.specs.Frames.{place_in, Framed}
use Rattle.frames.specs.declared.frame.Frame.{Frame}
use Rattle.directions.specs.Plans.{FrameOf}
use Rattle.directions.specs.Traces.{trace_area, SpotOf}
use Rattle.directions.specs.declared.frame.Spot.{Spot}
use Rattle.theory.specs.BestWalks.{best_walk_to, alone, fewer, best}
use Rattle.theory.specs.Walks.{around}
use Rattle.directions.proofs.StepPlaces.{Neighbour, nearer, further, clash, straight_step, diagonal_step, place_injective, step_place}

-- ---- numbers that are not 0

module _ (slack : ℕ) (next : ℕ → List ℕ) (g : ℕ → ℕ) (passes : ℕ → Bool) where
  -- at the last pixel the test is passed
  start_some : (j p : ℕ) → 1 ≤ best_walk_to slack next g passes 0 j p → passes p ≡ true
  start_some j p h = go (passes p) refl (omega (arith, from_start slack next g passes j p))
    where
      go : (b : Bool) → passes p ≡ b → 1 ≤ cond b (alone slack (g p) j) 0 → passes p ≡ true
      go true e l = e
      go false e l = absurd (omega arith)

  -- before it some step leads on
  pub step_some : (m j p : ℕ) → 1 ≤ best_walk_to slack next g passes (suc m) j p → (q : ℕ) × (k : ℕ) × Memᴰ q (next p) × (1 ≤ best_walk_to slack next g passes m k q)
  unfolding fewer
  step_some m zero p h =
      let s = best_find (best_walk_to slack next g passes m zero) 1 (next p) (omega arith) (omega (arith, from_step slack next g passes m zero p)) in
      (s.0, zero, s.1, s.2)
  step_some m (suc j) p h =
      ⊎_elim
      (λ l. let s = best_find (best_walk_to slack next g passes m (suc j)) 1 (next p) (omega arith) (omega (arith, l)) in (s.0, suc j, s.1, s.2))
      (λ l. let s = best_find (best_walk_to slack next g passes m j) 1 (next p) (omega arith) l in (s.0, j, s.1, s.2))
      (le_max_split 1 (min (g p) (best (best_walk_to slack next g passes m (suc j)) (next p))) (best (best_walk_to slack next g passes m j) (next p))
      (omega (arith, from_step slack next g passes m (suc j) p)))

-- ---- the cone of the walks of n steps to a spot

pub record Cone (r : Frame) (back : Bool) (s : Spot) (n i x : ℕ) : Type 0 where
  pub straight : r.diagonal ≡ false → (further back s.line i ≡ nearer back s.line i + n) × (x ≤ s.pixel + n) × (s.pixel ≤ x + n)
  pub diagonal : r.diagonal ≡ true →
      (nearer back s.line i ≤ further back s.line i)
      × (further back s.line i ≤ nearer back s.line i + n)
      × (nearer back s.pixel x ≤ further back s.pixel x)
      × (further back s.pixel x ≤ nearer back s.pixel x + n)
      × (nearer back s.line i + nearer back s.pixel x + n ≤ further back s.line i + further back s.pixel x)

cone_start : (r : Frame) (back : Bool) (s : Spot) (i x : ℕ) → i ≡ s.line → x ≡ s.pixel → Cone r back s 0 i x
cone_start r true s i x e a =
    record { straight = λ _. omega arith; diagonal = λ _. omega arith }
cone_start r false s i x e a =
    record { straight = λ _. omega arith; diagonal = λ _. omega arith }

cone_step : (r : Frame) (back : Bool) (s : Spot) (n i x k z : ℕ) → Neighbour r back i x k z → Cone r back s n k z → Cone r back s (suc n) i x
cone_step r true s n i x k z N C =
    record {
      straight = λ d. omega (arith, straight_step r true i x k z N d, C.straight d);
      diagonal = λ d. omega (arith, diagonal_step r true i x k z N d, C.diagonal d);
    }
cone_step r false s n i x k z N C =
    record {
      straight = λ d. omega (arith, straight_step r false i x k z N d, C.straight d);
      diagonal = λ d. omega (arith, diagonal_step r false i x k z N d, C.diagonal d);
    }

-- ---- on the cone or off it

both_or_not : {A B : Type 0} → A ⊎ (A → ⊥) → B ⊎ (B → ⊥) → (A × B) ⊎ (A × B → ⊥)
both_or_not (inl a) (inl b) = inl (a, b)
both_or_not (inl a) (inr b) = inr (λ p. b p.1)
both_or_not (inr a) q = inr (λ p. a p.0)

le_or_not : (a b : ℕ) → (a ≤ b) ⊎ (a ≤ b → ⊥)
le_or_not a b = ⊎_elim (λ l. inl l) (λ l. inr (λ h. omega arith)) (le_or_lt a b)

eq_or_not : (a b : ℕ) → (a ≡ b) ⊎ (a ≡ b → ⊥)
eq_or_not a b =
    ⊎_elim (λ l. ⊎_elim (λ m. inl (omega arith)) (λ m. inr (λ h. omega arith)) (le_or_lt b a)) (λ l. inr (λ h. omega arith)) (le_or_lt a b)

pub cone_or_not : (r : Frame) (back : Bool) (s : Spot) (n i x : ℕ) (b : Bool) → r.diagonal ≡ b → Cone r back s n i x ⊎ (Cone r back s n i x → ⊥)
cone_or_not r back s n i x true d =
    let l = nearer back s.line i in
    let l' = further back s.line i in
    let p = nearer back s.pixel x in
    let p' = further back s.pixel x in
    ⊎_elim
    (λ c.
    inl (record { straight = λ e. clash r.diagonal d e; diagonal = λ _. (c.0.0, c.0.1, c.1.0.0, c.1.0.1, c.1.1) }))
    (λ no. inr (λ C. let c = C.diagonal d in no ((c.0, c.1), ((c.2, c.3), c.4))))
    (both_or_not (both_or_not (le_or_not l l') (le_or_not l' (l + n)))
    (both_or_not (both_or_not (le_or_not p p') (le_or_not p' (p + n))) (le_or_not (l + p + n) (l' + p'))))
cone_or_not r back s n i x false d =
    ⊎_elim
    (λ c. inl (record { straight = λ _. (c.0, c.1.0, c.1.1); diagonal = λ e. clash r.diagonal e d }))
    (λ no. inr (λ C. let c = C.straight d in no (c.0, (c.1, c.2))))
    (both_or_not (eq_or_not (further back s.line i) (nearer back s.line i + n))
    (both_or_not (le_or_not x (s.pixel + n)) (le_or_not s.pixel (x + n))))

-- ---- what is off the cone

kinds : (b : Bool) → (b ≡ true) ⊎ (b ≡ false)
kinds true = inl refl
kinds false = inr refl

-- both kinds of cones lie on the picked pixel's side
cone_side : (r : Frame) (back : Bool) (s : Spot) (n i x : ℕ) → Cone r back s n i x → nearer back s.line i ≤ further back s.line i
cone_side r back s n i x C = ⊎_elim (λ d. omega (arith, C.diagonal d)) (λ d. omega (arith, C.straight d)) (kinds r.diagonal)

off_lines :
    (r : Frame) (back : Bool) (s : Spot) (n i x : ℕ) → Cone r back s n i x → i < r.lines →
    (i < (trace_area r back s).top) ⊎ ((trace_area r back s).bottom ≤ i) → ⊥
off_lines r true s n i x C h o = ⊎_elim (λ l. omega arith) (λ l. omega (arith, cone_side r true s n i x C)) o
off_lines r false s n i x C h o = ⊎_elim (λ l. omega (arith, cone_side r false s n i x C)) (λ l. omega arith) o

off_pixels :
    (r : Frame) (back : Bool) (s : Spot) (n i x : ℕ) → Cone r back s n i x → r.diagonal ≡ true → x < r.across →
    (x < (trace_area r back s).left) ⊎ ((trace_area r back s).right ≤ x) → ⊥
off_pixels r true s n i x C d h o = ⊎_elim (λ l. omega arith) (λ l. omega (arith, C.diagonal d)) o
off_pixels r false s n i x C d h o = ⊎_elim (λ l. omega (arith, C.diagonal d)) (λ l. omega arith) o

off_ranks :
    (r : Frame) (back : Bool) (s : Spot) (n i x : ℕ) → Cone r back s n i x → r.diagonal ≡ true →
    cond back ((trace_area r back s).bottom - 1 - i + ((trace_area r back s).right - 1 - x)) (i - (trace_area r back s).top + (x - (trace_area r back s).left)) < n →
    ⊥
off_ranks r true s n i x C d far = omega (arith, far, C.diagonal d)
off_ranks r false s n i x C d far = omega (arith, far, C.diagonal d)

-- ---- the numbers of a trace

-- the best walk of n steps with at most j gaps from a place to the picked one
abbrev pub traced : ℕ → ℕ → ℕ → ℕ → Bool → (ℕ → ℕ) → ℕ → ℕ → ℕ → ℕ → ℕ
traced slack W H index back g target n j p = best_walk_to slack (around back W H (2 ^ index)) g (λ q. eqb q target) n j p

module _
    (slack : ℕ) (r : Frame) (W H index : ℕ) (F : Framed r W H index) (O : FrameOf r W H index) (back : Bool) (s : Spot) (target : ℕ) (S : SpotOf r s target) (g : ℕ → ℕ) where
  pub trace_cone : (n j i x : ℕ) → i < r.lines → x < r.across → 1 ≤ traced slack W H index back g target n j (place_in r i x) → Cone r back s n i x
  trace_cone zero j i x hi hx h =
      let e = eqb-true (place_in r i x) target (start_some slack (around back W H (2 ^ index)) g (λ q. eqb q target) j (place_in r i x) h) in
      let at = place_injective r W H index O i x s.line s.pixel hi hx S.on_line S.on_pixel (e ∙ sym S.is) in
      cone_start r back s i x at.0 at.1
  trace_cone (suc n) j i x hi hx h =
      let t = step_some slack (around back W H (2 ^ index)) g (λ q. eqb q target) n j (place_in r i x) h in
      let u = step_place r W H index F back i x hi hx t.0 t.2 in
      cone_step r back s n i x u.0 u.1 u.3
      (trace_cone n t.1 u.0 u.1 u.3.on_line u.3.on_pixel (subst (λ (q : ℕ). 1 ≤ traced slack W H index back g target n t.1 q) (sym u.2) t.3))

  -- off the cone there is none
  pub trace_none : (n j i x : ℕ) → i < r.lines → x < r.across → (Cone r back s n i x → ⊥) → traced slack W H index back g target n j (place_in r i x) ≡ 0
  trace_none n j i x hi hx off =
      ⊎_elim (λ l. absurd (off (trace_cone n j i x hi hx l))) (λ l. omega (arith, l)) (le_or_lt 1 (traced slack W H index back g target n j (place_in r i x)))

  -- ---- off the area, and too far for the area

  pub trace_outside_lines :
      (n j i x : ℕ) → i < r.lines → x < r.across → (i < (trace_area r back s).top) ⊎ ((trace_area r back s).bottom ≤ i) →
      traced slack W H index back g target n j (place_in r i x) ≡ 0
  trace_outside_lines n j i x hi hx out = trace_none n j i x hi hx (λ C. off_lines r back s n i x C hi out)

  pub trace_outside_pixels :
      r.diagonal ≡ true → (n j i x : ℕ) → i < r.lines → x < r.across → (x < (trace_area r back s).left) ⊎ ((trace_area r back s).right ≤ x) →
      traced slack W H index back g target n j (place_in r i x) ≡ 0
  trace_outside_pixels d n j i x hi hx out = trace_none n j i x hi hx (λ C. off_pixels r back s n i x C d hx out)

  pub trace_too_far :
      r.diagonal ≡ true → (n j i x : ℕ) → i < r.lines → x < r.across →
      cond back ((trace_area r back s).bottom - 1 - i + ((trace_area r back s).right - 1 - x)) (i - (trace_area r back s).top + (x - (trace_area r back s).left)) < n →
      traced slack W H index back g target n j (place_in r i x) ≡ 0
  trace_too_far d n j i x hi hx far = trace_none n j i x hi hx (λ C. off_ranks r back s n i x C d far)
