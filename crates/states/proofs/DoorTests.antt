-- The tests of specs/Doors.antt: asked one after the other, as the code asks them; what a call that passes them has, and that a call with all of it
-- passes. Said of any numbers, so that no term is large.
use Prim.Native.Nat.{ℕ, ◌+◌, ◌-◌, ◌≤◌, ◌<◌}
use mathlib.Core.Path.{◌≡◌, refl, sym, ◌∙◌}
use mathlib.Core.Bool.{Bool, true, false, ◌&&◌, ◌||◌}
use mathlib.Core.Logic.{◌⊎◌, inl, inr}
use native.Mathlib.Nat.{mul-le-mul}
use native.Mathlib.Omega.{arith}
use lib.Dec.{leb, ltb, eqb}
use borrow.Author.Tests.{lt-ltb, le-ltb, le-leb, lt-leb, eq-eqb, ne_eqb, ltb-true, leb-true, eqb-true}
use Rattle.basics.proofs.Numbers.{le_or_lt}
use Rattle.plans.specs.Plans.{rows_in, half_of, half_with, keys_size, row_size, state_size}
use Rattle.plans.specs.Forms.{well_formed}
use Rattle.plans.specs.declared.plan.Plan.{Plan}
use Rattle.plans.proofs.FormFacts.{both, formed}
use Rattle.states.specs.Doors.{held_fits, can_hold, can_make, state_fits, same_or_apart, advances, joins}
use Rattle.states.specs.States.{further_in}
use Rattle.states.specs.declared.state.Stretch.{Stretch}

-- ---- so many numbers from a place on

pub lies_not : (at n len : ℕ) → len < n → false ≡ leb (at + n) len
lies_not at n len h = sym (lt-leb (at + n) len (omega arith))

pub lies_if : (at n len : ℕ) → n ≤ len → leb at (len - n) ≡ leb (at + n) len
lies_if at n len h =
    elim (le_or_lt at (len - n)) [
      | inl k ↦ rw (le-leb at (len - n) k) (sym (le-leb (at + n) len (omega arith)))
      | inr k ↦ rw (lt-leb at (len - n) k) (sym (lt-leb (at + n) len (omega arith)))
    ]

-- ---- sizes of a plan that can be followed

pub keys_few : (p : Plan) → well_formed p ≡ true → keys_size p ≤ 65536
keys_few p w = (formed p w).limits.few_pixels

pub row_few : (p : Plan) → well_formed p ≡ true → row_size p ≤ 9216
row_few p w =
    let l = (formed p w).limits in mul-le-mul {n₁ = p.planes} {m₁ = p.across} {n₂ = 9} {m₂ = 1024} l.few_planes l.few_across

pub state_few : (p : Plan) → well_formed p ≡ true → state_size p ≤ 9437184
state_few p w = mul-le-mul {n₁ = p.rows} {m₁ = row_size p} {n₂ = 1024} {m₂ = 9216} (formed p w).limits.few_rows (row_few p w)

-- ---- held rows

module _ (p : Plan) (more held : ℕ) where
  pub held_1 : (half : ℕ) → half ≡ half_with p more → held < half + half → false ≡ held_fits p more held
  unfolding held_fits
  held_1 half e a = rw (sym e, lt-leb (half + half) held a) refl

  pub held_2 : (half : ℕ) → half ≡ half_with p more → half + half ≤ held → leb held 40000 ≡ held_fits p more held
  unfolding held_fits
  held_2 half e a = rw (sym e, le-leb (half + half) held a) refl

  pub record Held : Type 0 where
    pub twice : half_with p more + half_with p more ≤ held
    pub few : held ≤ 40000

  pub held_facts : held_fits p more held ≡ true → Held
  unfolding held_fits
  held_facts t =
      let a = both (leb (half_with p more + half_with p more) held) (leb held 40000) t in
      record { twice = leb-true (half_with p more + half_with p more) held a.0; few = leb-true held 40000 a.1 }

  pub held_if : Held → held_fits p more held ≡ true
  held_if h = sym (held_2 (half_with p more) refl h.twice) ∙ le-leb held 40000 h.few

module _ (p : Plan) (held : ℕ) where
  pub hold_1 : well_formed p ≡ false → false ≡ can_hold p held
  unfolding can_hold
  hold_1 a = rw a refl

  pub hold_2 : well_formed p ≡ true → held_fits p 0 held ≡ can_hold p held
  unfolding can_hold
  hold_2 a = rw a refl

  pub hold_facts : can_hold p held ≡ true → (well_formed p ≡ true) × (half_of p + half_of p ≤ held) × (held ≤ 40000)
  unfolding can_hold
  hold_facts t =
      let b = both (well_formed p) (held_fits p 0 held) t in
      let h = held_facts p 0 held b.1 in
      (b.0, omega (arith, h.twice), h.few)

  pub hold_if : well_formed p ≡ true → half_of p + half_of p ≤ held → held ≤ 40000 → can_hold p held ≡ true
  hold_if w a b = sym (hold_2 w) ∙ held_if p 0 held (record { twice = omega arith; few = b })

-- ---- states, and the rows that are held of them

module _ (p : Plan) (s : Stretch) (held : ℕ) where
  pub make_1 : well_formed p ≡ false → false ≡ can_make p s held
  unfolding can_make
  make_1 a = rw a refl

  pub make_2 : well_formed p ≡ true → s.past ≤ s.first → false ≡ can_make p s held
  unfolding can_make
  make_2 a b = rw (a, le-ltb s.first s.past b) refl

  pub make_3 : well_formed p ≡ true → s.first < s.past → 65536 < s.past → false ≡ can_make p s held
  unfolding can_make
  make_3 a b d = rw (a, lt-ltb s.first s.past b, lt-leb s.past 65536 d) refl

  pub make_4 : well_formed p ≡ true → s.first < s.past → s.past ≤ 65536 → held_fits p (further_in s) held ≡ can_make p s held
  unfolding can_make
  make_4 a b d = rw (a, lt-ltb s.first s.past b, le-leb s.past 65536 d) refl

  pub record Makes : Type 0 where
    pub form : well_formed p ≡ true
    pub some : s.first < s.past
    pub near : s.past ≤ 65536
    pub rows : Held p (further_in s) held

  pub make_facts : can_make p s held ≡ true → Makes
  unfolding can_make
  make_facts t =
      let w = well_formed p in
      let l = ltb s.first s.past in
      let n = leb s.past 65536 in
      let a3 = both (w && l && n) (held_fits p (further_in s) held) t in
      let a2 = both (w && l) n a3.0 in
      let a1 = both w l a2.0 in
      record {
        form = a1.0;
        some = ltb-true s.first s.past a1.1;
        near = leb-true s.past 65536 a2.1;
        rows = held_facts p (further_in s) held a3.1;
      }

  pub make_if : Makes → can_make p s held ≡ true
  make_if h = sym (make_4 h.form h.some h.near) ∙ held_if p (further_in s) held h.rows

-- ---- a state's place

module _ (p : Plan) (at work : ℕ) where
  pub state_1 : at < keys_size p → false ≡ state_fits p at work
  unfolding state_fits
  state_1 a = rw (lt-leb (keys_size p) at a) refl

  pub state_2 : keys_size p ≤ at → leb (at + state_size p) work ≡ state_fits p at work
  unfolding state_fits
  state_2 a = rw (le-leb (keys_size p) at a) refl

  pub state_facts : state_fits p at work ≡ true → (keys_size p ≤ at) × (at + state_size p ≤ work)
  unfolding state_fits
  state_facts t =
      let a = both (leb (keys_size p) at) (leb (at + state_size p) work) t in
      (leb-true (keys_size p) at a.0, leb-true (at + state_size p) work a.1)

  pub state_if : keys_size p ≤ at → at + state_size p ≤ work → state_fits p at work ≡ true
  state_if a b = sym (state_2 a) ∙ le-leb (at + state_size p) work b

module _ (p : Plan) (from to : ℕ) where
  pub same_1 : from ≡ to → true ≡ same_or_apart p from to
  unfolding same_or_apart
  same_1 a = rw (eq-eqb from to a) refl

  pub same_2 : (from ≡ to → ⊥) → leb (from + state_size p) to ≡ true → true ≡ same_or_apart p from to
  unfolding same_or_apart
  same_2 a b = rw (ne_eqb from to a, b) refl

  pub same_3 : (from ≡ to → ⊥) → leb (from + state_size p) to ≡ false → leb (to + state_size p) from ≡ same_or_apart p from to
  unfolding same_or_apart
  same_3 a b = rw (ne_eqb from to a, b) refl

  pub same_facts : same_or_apart p from to ≡ true → (from ≡ to) ⊎ ((from + state_size p ≤ to) ⊎ (to + state_size p ≤ from))
  unfolding same_or_apart
  same_facts t = go (eqb from to) refl (leb (from + state_size p) to) refl t
    where
      go : (a : Bool) → eqb from to ≡ a → (b : Bool) → leb (from + state_size p) to ≡ b → (a || b || leb (to + state_size p) from) ≡ true →
          (from ≡ to) ⊎ ((from + state_size p ≤ to) ⊎ (to + state_size p ≤ from))
      go true e b f t = inl (eqb-true from to e)
      go false e true f t = inr (inl (leb-true (from + state_size p) to f))
      go false e false f t = inr (inr (leb-true (to + state_size p) from t))

  pub same_if : (from ≡ to) ⊎ ((from + state_size p ≤ to) ⊎ (to + state_size p ≤ from)) → same_or_apart p from to ≡ true
  unfolding same_or_apart
  same_if (inl e) = sym (same_1 e)
  same_if (inr (inl a)) = go (eqb from to)
    where
      go : (b : Bool) → (b || leb (from + state_size p) to || leb (to + state_size p) from) ≡ true
      go true = refl
      go false = rw (le-leb (from + state_size p) to a) refl
  same_if (inr (inr a)) = go (eqb from to) (leb (from + state_size p) to)
    where
      go : (b d : Bool) → (b || d || leb (to + state_size p) from) ≡ true
      go true d = refl
      go false true = refl
      go false false = le-leb (to + state_size p) from a

-- ---- states made

module _ (p : Plan) (s : Stretch) (from to work held : ℕ) where
  pub advances_1 : can_make p s held ≡ false → false ≡ advances p s from to work held
  unfolding advances
  advances_1 a = rw a refl

  pub advances_2 : can_make p s held ≡ true → state_fits p from work ≡ false → false ≡ advances p s from to work held
  unfolding advances
  advances_2 a b = rw (a, b) refl

  pub advances_3 : can_make p s held ≡ true → state_fits p from work ≡ true → state_fits p to work ≡ false →
      false ≡ advances p s from to work held
  unfolding advances
  advances_3 a b d = rw (a, b, d) refl

  pub advances_4 : can_make p s held ≡ true → state_fits p from work ≡ true → state_fits p to work ≡ true →
      same_or_apart p from to ≡ advances p s from to work held
  unfolding advances
  advances_4 a b d = rw (a, b, d) refl

  -- what a call that is taken has
  pub record Advances : Type 0 where
    pub made : Makes p s held
    pub source : (keys_size p ≤ from) × (from + state_size p ≤ work)
    pub target : (keys_size p ≤ to) × (to + state_size p ≤ work)
    pub apart : (from ≡ to) ⊎ ((from + state_size p ≤ to) ⊎ (to + state_size p ≤ from))

  pub advances_facts : advances p s from to work held ≡ true → Advances
  unfolding advances
  advances_facts t =
      let m = can_make p s held in
      let f = state_fits p from work in
      let g = state_fits p to work in
      let a3 = both (m && f && g) (same_or_apart p from to) t in
      let a2 = both (m && f) g a3.0 in
      let a1 = both m f a2.0 in
      record {
        made = make_facts p s held a1.0;
        source = state_facts p from work a1.1;
        target = state_facts p to work a2.1;
        apart = same_facts p from to a3.1;
      }

  pub advances_if : Advances → advances p s from to work held ≡ true
  advances_if h =
      sym
      (advances_4 (make_if p s held h.made) (state_if p from work h.source.0 h.source.1)
      (state_if p to work h.target.0 h.target.1))
      ∙ same_if p from to h.apart

-- ---- states made, and the last joined

module _ (p : Plan) (s : Stretch) (from ends best work held : ℕ) where
  pub joins_1 : can_make p s held ≡ false → false ≡ joins p s from ends best work held
  unfolding joins
  joins_1 a = rw a refl

  pub joins_2 : can_make p s held ≡ true → (rows : ℕ) → rows ≡ rows_in p (s.past - 1) → (rows ≡ p.rows → ⊥) →
      false ≡ joins p s from ends best work held
  unfolding joins
  joins_2 a rows r n = rw (a, sym r, ne_eqb rows p.rows n) refl

  module _ (a : can_make p s held ≡ true) (rows : ℕ) (r : rows ≡ rows_in p (s.past - 1)) (full : rows ≡ p.rows) where
    pub joins_3 : state_fits p from work ≡ false → false ≡ joins p s from ends best work held
    unfolding joins
    joins_3 f = rw (a, sym r, eq-eqb rows p.rows full, f) refl

    pub joins_4 : state_fits p from work ≡ true → state_fits p ends work ≡ false → false ≡ joins p s from ends best work held
    unfolding joins
    joins_4 f g = rw (a, sym r, eq-eqb rows p.rows full, f, g) refl

    pub joins_5 : state_fits p from work ≡ true → state_fits p ends work ≡ true → leb (keys_size p) best ≡ joins p s from ends best work held
    unfolding joins
    joins_5 f g = rw (a, sym r, eq-eqb rows p.rows full, f, g) refl

  pub record Joins : Type 0 where
    pub made : Makes p s held
    pub full : rows_in p (s.past - 1) ≡ p.rows
    pub source : (keys_size p ≤ from) × (from + state_size p ≤ work)
    pub other : (keys_size p ≤ ends) × (ends + state_size p ≤ work)
    pub result : keys_size p ≤ best

  pub joins_facts : joins p s from ends best work held ≡ true → Joins
  unfolding joins
  joins_facts t =
      let m = can_make p s held in
      let r = eqb (rows_in p (s.past - 1)) p.rows in
      let f = state_fits p from work in
      let g = state_fits p ends work in
      let a4 = both (m && r && f && g) (leb (keys_size p) best) t in
      let a3 = both (m && r && f) g a4.0 in
      let a2 = both (m && r) f a3.0 in
      let a1 = both m r a2.0 in
      record {
        made = make_facts p s held a1.0;
        full = eqb-true (rows_in p (s.past - 1)) p.rows a1.1;
        source = state_facts p from work a2.1;
        other = state_facts p ends work a3.1;
        result = leb-true (keys_size p) best a4.1;
      }

  pub joins_if : Joins → joins p s from ends best work held ≡ true
  joins_if h =
      sym
      (joins_5 (make_if p s held h.made) (rows_in p (s.past - 1)) refl h.full (state_if p from work h.source.0 h.source.1)
      (state_if p ends work h.other.0 h.other.1))
      ∙ le-leb (keys_size p) best h.result
