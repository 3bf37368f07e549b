-- The tests of specs/Doors.antt: asked one after the other, as the code asks them; what a call that passes them has, and that a call with all of it
-- passes. Said of any numbers, so that no term is large.
use Prim.Native.Nat.{ℕ, ◌+◌, ◌*◌, ◌≤◌, ◌<◌}
use mathlib.Core.Path.{◌≡◌, refl, sym, ◌∙◌}
use mathlib.Core.Bool.{Bool, true, false, cond, ◌&&◌}
use native.Mathlib.Nat.{mul-le-mul}
use native.Mathlib.Omega.{arith}
use lib.Dec.{leb, ltb}
use borrow.Author.Tests.{lt-ltb, le-ltb, le-leb, lt-leb, ltb-true, leb-true}
use Rattle.plans.specs.Plans.{rows_in, keys_size, state_size}
use Rattle.plans.specs.Forms.{well_formed}
use Rattle.plans.specs.declared.plan.Plan.{Plan}
use Rattle.plans.proofs.FormFacts.{both, formed}
use Rattle.plans.proofs.PlanSizes.{rows_few}
use Rattle.states.specs.Doors.{state_fits}
use Rattle.states.proofs.DoorTests.{state_2, state_facts}
use Rattle.walks.specs.Noting.{steps_past}
use Rattle.walks.specs.Picking.{OnRow}
use Rattle.walks.specs.Doors.{can_read, can_note, can_end, on_row, can_step}
use Rattle.walks.specs.declared.stand.Stand.{Stand}

-- ---- a state in the work buffer

module _ (p : Plan) (base work : ℕ) where
  pub read_1 : well_formed p ≡ false → false ≡ can_read p base work
  unfolding can_read
  read_1 a = rw a refl

  pub read_2 : well_formed p ≡ true → state_fits p base work ≡ can_read p base work
  unfolding can_read
  read_2 a = rw a refl

  pub read_3 : well_formed p ≡ true → keys_size p ≤ base → leb (base + state_size p) work ≡ can_read p base work
  unfolding can_read
  read_3 a b = rw a (state_2 p base work b)

  pub record Read : Type 0 where
    pub form : well_formed p ≡ true
    pub behind : keys_size p ≤ base
    pub within : base + state_size p ≤ work

  pub read_facts : can_read p base work ≡ true → Read
  unfolding can_read
  read_facts t =
      let a = both (well_formed p) (state_fits p base work) t in
      let s = state_facts p base work a.1 in
      record { form = a.0; behind = s.0; within = s.1 }

  pub read_if : Read → can_read p base work ≡ true
  read_if h = sym (read_3 h.form h.behind) ∙ le-leb (base + state_size p) work h.within

-- ---- a state noted

pub past_ranks : (p : Plan) (e : ℕ) → p.ranked ≡ true → e + 1 ≡ steps_past p e
unfolding steps_past
past_ranks p e k = rw k refl

pub past_lines : (p : Plan) (e : ℕ) → p.ranked ≡ false → rows_in p e ≡ steps_past p e
unfolding steps_past
past_lines p e k = go p.ranked k
  where
    go : (b : Bool) → b ≡ false → rows_in p e ≡ cond b (e + 1) (rows_in p e)
    go b k = rw k refl

-- the notes of a state are few
pub past_few : (p : Plan) (e : ℕ) → well_formed p ≡ true → e < 65536 → steps_past p e * p.planes ≤ 589824
unfolding steps_past
past_few p e w near =
    mul-le-mul {n₁ = steps_past p e} {m₁ = p.planes} {n₂ = 65536} {m₂ = 9} (go p.ranked) (formed p w).limits.few_planes
  where
    go : (b : Bool) → cond b (e + 1) (rows_in p e) ≤ 65536
    go true = omega arith
    go false = omega (arith, rows_few p e, (formed p w).limits.few_rows)

module _ (p : Plan) (e base notes work : ℕ) where
  pub note_1 : can_read p base work ≡ false → false ≡ can_note p e base notes work
  unfolding can_note
  note_1 a = rw a refl

  pub note_2 : can_read p base work ≡ true → 65536 ≤ e → false ≡ can_note p e base notes work
  unfolding can_note
  note_2 a b = rw (a, le-ltb e 65536 b) refl

  pub note_3 : can_read p base work ≡ true → e < 65536 → 65536 < base → false ≡ can_note p e base notes work
  unfolding can_note
  note_3 a b d = rw (a, lt-ltb e 65536 b, lt-leb base 65536 d) refl

  pub note_4 :
      can_read p base work ≡ true → e < 65536 → base ≤ 65536 → leb (steps_past p e * p.planes) notes ≡ can_note p e base notes work
  unfolding can_note
  note_4 a b d = rw (a, lt-ltb e 65536 b, le-leb base 65536 d) refl

  pub record Note : Type 0 where
    pub read : Read p base work
    pub few : e < 65536
    pub near : base ≤ 65536
    pub room : steps_past p e * p.planes ≤ notes

  pub note_facts : can_note p e base notes work ≡ true → Note
  unfolding can_note
  note_facts t =
      let r = can_read p base work in
      let n = ltb e 65536 in
      let b = leb base 65536 in
      let a3 = both (r && n && b) (leb (steps_past p e * p.planes) notes) t in
      let a2 = both (r && n) b a3.0 in
      let a1 = both r n a2.0 in
      record {
        read = read_facts p base work a1.0;
        few = ltb-true e 65536 a1.1;
        near = leb-true base 65536 a2.1;
        room = leb-true (steps_past p e * p.planes) notes a3.1;
      }

  pub note_if : Note → can_note p e base notes work ≡ true
  note_if h =
      sym (note_4 (read_if p base work h.read) h.few h.near) ∙ le-leb (steps_past p e * p.planes) notes h.room

-- ---- the far end of a walk

-- on lines the rows are the steps
line_most : (ranked : Bool) (rows : ℕ) → ranked ≡ false → cond ranked 65536 rows ≡ rows
line_most ranked rows k = rw k refl

module _ (p : Plan) (base steps gaps work : ℕ) where
  pub end_1 : can_read p base work ≡ false → false ≡ can_end p base steps gaps work
  unfolding can_end
  end_1 a = rw a refl

  pub end_2 : can_read p base work ≡ true → p.planes ≤ gaps → false ≡ can_end p base steps gaps work
  unfolding can_end
  end_2 a b = rw (a, le-ltb gaps p.planes b) refl

  -- on ranks
  pub end_3 : can_read p base work ≡ true → gaps < p.planes → p.ranked ≡ true → ltb steps 65536 ≡ can_end p base steps gaps work
  unfolding can_end
  end_3 a b k = rw (a, lt-ltb gaps p.planes b, k) refl

  -- on lines
  pub end_4 :
      can_read p base work ≡ true → gaps < p.planes → p.ranked ≡ false → (rows : ℕ) → rows ≡ rows_in p 0 → ltb steps rows ≡ can_end p base steps gaps work
  unfolding can_end
  end_4 a b k rows e = rw (a, lt-ltb gaps p.planes b, line_most p.ranked (rows_in p 0) k, e) refl

  pub record End : Type 0 where
    pub read : Read p base work
    pub few : gaps < p.planes
    pub near : steps < 65536
    pub on_lines : p.ranked ≡ false → steps < rows_in p 0

  -- so many steps as walks can have
  most_few : well_formed p ≡ true → (b : Bool) → cond b 65536 (rows_in p 0) ≤ 65536
  most_few w true = omega arith
  most_few w false = omega (arith, rows_few p 0, (formed p w).limits.few_rows)

  pub end_facts : can_end p base steps gaps work ≡ true → End
  unfolding can_end
  end_facts t =
      let r = can_read p base work in
      let g = ltb gaps p.planes in
      let most : ℕ = cond p.ranked 65536 (rows_in p 0) in
      let a2 = both (r && g) (ltb steps most) t in
      let a1 = both r g a2.0 in
      let read = read_facts p base work a1.0 in
      let below : steps < cond p.ranked 65536 (rows_in p 0) = ltb-true steps most a2.1 in
      record {
        read = read;
        few = ltb-true gaps p.planes a1.1;
        near = omega (arith, below, most_few read.form p.ranked);
        on_lines = λ k. omega (arith, below, line_most p.ranked (rows_in p 0) k);
      }

  pub end_if : End → can_end p base steps gaps work ≡ true
  end_if h = go p.ranked refl
    where
      go : (b : Bool) → p.ranked ≡ b → can_end p base steps gaps work ≡ true
      go true k = sym (end_3 (read_if p base work h.read) h.few k) ∙ lt-ltb steps 65536 h.near
      go false k = sym (end_4 (read_if p base work h.read) h.few k (rows_in p 0) refl) ∙ lt-ltb steps (rows_in p 0) (h.on_lines k)

-- ---- a step

module _ (p : Plan) (s : Stand) where
  pub row_1 : 65536 ≤ s.state → false ≡ on_row p s
  unfolding on_row
  row_1 a = rw (le-ltb s.state 65536 a) refl

  pub row_2 : s.state < 65536 → (rows : ℕ) → rows ≡ rows_in p s.state → rows ≤ s.row → false ≡ on_row p s
  unfolding on_row
  row_2 a rows e b = rw (lt-ltb s.state 65536 a, sym e, le-ltb s.row rows b) refl

  pub row_3 : s.state < 65536 → (rows : ℕ) → rows ≡ rows_in p s.state → s.row < rows → p.across ≤ s.pixel → false ≡ on_row p s
  unfolding on_row
  row_3 a rows e b d = rw (lt-ltb s.state 65536 a, sym e, lt-ltb s.row rows b, le-ltb s.pixel p.across d) refl

  pub row_4 :
      s.state < 65536 → (rows : ℕ) → rows ≡ rows_in p s.state → s.row < rows → s.pixel < p.across → ltb s.gaps p.planes ≡ on_row p s
  unfolding on_row
  row_4 a rows e b d = rw (lt-ltb s.state 65536 a, sym e, lt-ltb s.row rows b, lt-ltb s.pixel p.across d) refl

  pub row_facts : on_row p s ≡ true → OnRow p s
  unfolding on_row
  row_facts t =
      let e = ltb s.state 65536 in
      let m = ltb s.row (rows_in p s.state) in
      let x = ltb s.pixel p.across in
      let a3 = both (e && m && x) (ltb s.gaps p.planes) t in
      let a2 = both (e && m) x a3.0 in
      let a1 = both e m a2.0 in
      record {
        state = ltb-true s.state 65536 a1.0;
        row = ltb-true s.row (rows_in p s.state) a1.1;
        pixel = ltb-true s.pixel p.across a2.1;
        gaps = ltb-true s.gaps p.planes a3.1;
      }

  pub row_if : OnRow p s → on_row p s ≡ true
  row_if h = sym (row_4 h.state (rows_in p s.state) refl h.row h.pixel) ∙ lt-ltb s.gaps p.planes h.gaps

  module _ (base work : ℕ) where
    pub step_1 : can_read p base work ≡ false → false ≡ can_step p base s work
    unfolding can_step
    step_1 a = rw a refl

    pub step_2 : can_read p base work ≡ true → on_row p s ≡ can_step p base s work
    unfolding can_step
    step_2 a = rw a refl

    pub step_facts : can_step p base s work ≡ true → Read p base work × OnRow p s
    unfolding can_step
    step_facts t = let a = both (can_read p base work) (on_row p s) t in (read_facts p base work a.0, row_facts a.1)

    pub step_if : Read p base work → OnRow p s → can_step p base s work ≡ true
    step_if r o = sym (step_2 (read_if p base work r)) ∙ row_if o
