-- The tests of specs/Doors.antt: what a call that passes them has, and that a call with all of it passes. Said of any numbers, so that no term is
-- large.
use Prim.Native.Nat.{ℕ, ◌+◌, ◌-◌, ◌*◌, ◌/◌, ◌≤◌, ◌<◌, min}
use mathlib.Core.Path.{◌≡◌, refl, sym, ◌∙◌}
use mathlib.Core.Bool.{true, ◌&&◌}
use lib.Dec.{leb, ltb}
use native.Mathlib.Nat.{div-mul-le_self, le-div_iff_mul-le, le-min, min-le_left, min-le_right, mul-le-mul}
use native.Mathlib.Omega.{arith}
use borrow.Author.Tests.{lt-ltb, le-leb, ne_eqb, ltb-true, leb-true}
use Rattle.plans.specs.Plans.{half_of, keys_size, state_size}
use Rattle.plans.specs.Forms.{among, well_formed}
use Rattle.plans.specs.declared.plan.Plan.{Plan}
use Rattle.plans.proofs.FormFacts.{both, among_from, among_high}
use Rattle.states.specs.Doors.{can_hold}
use Rattle.states.proofs.DoorTests.{hold_if}
use Rattle.stacks.specs.Stacks.{StackFits}
use Rattle.stacks.specs.Doors.{stack_fits, fetches, has_top, top_of, places_in}
use Rattle.stacks.specs.declared.stack.Stack.{Stack}

module _ (p : Plan) (s : Stack) (work marks : ℕ) where
  pub stack_7 : keys_size p ≤ s.base → s.base < 16777216 → 1 ≤ s.places → s.places ≤ 64 → s.depth ≤ s.places →
      s.base + s.places * state_size p ≤ work → leb s.places marks ≡ stack_fits p s work marks
  unfolding stack_fits among
  stack_7 a b d e f g =
      rw (
        le-leb (keys_size p) s.base a,
        lt-ltb s.base 16777216 b,
        le-leb 1 s.places d,
        le-leb s.places 64 e,
        le-leb s.depth s.places f,
        le-leb (s.base + s.places * state_size p) work g,
      )
      refl

  pub stack_facts : stack_fits p s work marks ≡ true → StackFits p s work marks
  unfolding stack_fits
  stack_facts t =
      let past = leb (keys_size p) s.base in
      let near = ltb s.base 16777216 in
      let some = among 1 64 s.places in
      let deep = leb s.depth s.places in
      let room = leb (s.base + s.places * state_size p) work in
      let a5 = both (past && near && some && deep && room) (leb s.places marks) t in
      let a4 = both (past && near && some && deep) room a5.0 in
      let a3 = both (past && near && some) deep a4.0 in
      let a2 = both (past && near) some a3.0 in
      let a1 = both past near a2.0 in
      record {
        past_keys = leb-true (keys_size p) s.base a1.0;
        near = ltb-true s.base 16777216 a1.1;
        some = among_from 1 64 s.places a2.1;
        few = among_high 1 64 s.places a2.1;
        deep = leb-true s.depth s.places a3.1;
        in_work = leb-true (s.base + s.places * state_size p) work a4.1;
        in_marks = leb-true s.places marks a5.1;
      }

  pub stack_if : StackFits p s work marks → stack_fits p s work marks ≡ true
  stack_if f = sym (stack_7 f.past_keys f.near f.some f.few f.deep f.in_work) ∙ le-leb s.places marks f.in_marks

module _ (p : Plan) (s : Stack) (want spare work marks held : ℕ) where
  pub fetches_5 : can_hold p held ≡ true → stack_fits p s work marks ≡ true → want ≤ 1024 → spare ≤ 1024 →
      fetches p s want spare work marks held ≡ true
  unfolding fetches
  fetches_5 a b d e = rw (a, b, le-leb want 1024 d, le-leb spare 1024 e) refl

  -- a stack that has room, of a plan that can be followed, is fetched
  pub fetches_if : well_formed p ≡ true → half_of p + half_of p ≤ held → held ≤ 40000 → StackFits p s work marks → want ≤ 1024 →
      spare ≤ 1024 → fetches p s want spare work marks held ≡ true
  fetches_if w a b f l k = fetches_5 (hold_if p held w a b) (stack_if p s work marks f) l k

-- ---- its top

module _ (p : Plan) (s : Stack) where
  pub top_4 : well_formed p ≡ true → s.depth ≤ 64 → s.base < 16777216 → s.base + (s.depth - 1) * state_size p ≡ top_of p s
  unfolding top_of has_top
  top_4 a b d = rw (a, le-leb s.depth 64 b, lt-ltb s.base 16777216 d) refl

-- ---- its places

-- where one state finds room, so many do
pub places_facts : (room size : ℕ) → 1 ≤ size → size ≤ room →
    (1 ≤ places_in room size) × (places_in room size ≤ 64) × (places_in room size * size ≤ room)
unfolding places_in
places_facts room size h l =
    let some : 1 ≤ room / size = (le-div_iff_mul-le h).1 (omega (arith, l)) in
    let all = mul-le-mul {n₁ = min (room / size) 64} {m₁ = size} {n₂ = room / size} {m₂ = size} (min-le_left (room / size) 64) (omega arith) in
    rw (ne_eqb size 0 (λ e. omega (arith, h, e)))
    (le-min some (omega arith), min-le_right (room / size) 64, omega (arith, all, div-mul-le_self room size))
