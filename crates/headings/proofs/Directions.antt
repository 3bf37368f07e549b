-- The usable directions by their index in the table, and that a path crosses a pixel exactly if there is one: refusal 12 by numbers alone.
use Prim.Native.Nat.{ℕ, ◌*◌, ◌%◌, ◌^◌, ◌≤◌, ◌<◌, min}
use mathlib.Core.Path.{◌≡◌, refl, sym, ap, subst, ◌∙◌}
use mathlib.Core.Bool.{Bool, true, false, true≢false, cond, ◌&&◌, ◌||◌}
use mathlib.Core.List.{Memᴰ}
use mathlib.Core.Logic.{⊎_elim}
use native.Mathlib.Omega.{arith}
use lib.Dec.{T, leb, ltb, leb→le}
use lib.ListN.{length}
use Rattle.std.specs.Prelude.{Option, Some, None, MatchOption}
use borrow.Author.Tests.{lt-ltb, le-leb, ltb-true}
use Rattle.basics.proofs.Numbers.{below_four}
use Rattle.basics.proofs.Tests.{true_T, T_true, and_both, true_or_false}
use Rattle.basics.proofs.Lists.{keep_find, keep-keep, one_of_three}
use Rattle.plate.specs.Directions.{table, member, chosen}
use Rattle.plate.specs.Paths.{crossed, span}
use Rattle.plate.specs.Refusals.{bad_size}
use Rattle.plate.specs.Sizes.{GoodSize, span_of}
use Rattle.plate.proofs.Spans.{span_good}
use Rattle.plate.specs.declared.setting.Setting.{Setting}
use Rattle.theory.proofs.Ranks.{bits, bit_listed}
use Rattle.theory.proofs.Span.{chosen_bits, crossed_spans, spans_crossed}
use Rattle.headings.specs.Usable.{bit_at, usable, FirstUsable}

-- ---- the bit of a direction

-- a one that is moved up by the index, or by that of the last direction, loses no bit
pub bit_shifted : (index n : ℕ) → n ≡ min index 3 → ((1 * 2 ^ n) % 2 ^ 64 ≡ bit_at index) × (1 ≤ (1 * 2 ^ n) % 2 ^ 64)
unfolding bit_at
bit_shifted index n e = subst (λ (m : ℕ). ((1 * 2 ^ n) % 2 ^ 64 ≡ 2 ^ m) × (1 ≤ (1 * 2 ^ n) % 2 ^ 64)) e (below_four (λ (i : ℕ). ((1 * 2 ^ i) % 2 ^ 64 ≡ 2 ^ i) × (1 ≤ (1 * 2 ^ i) % 2 ^ 64)) (refl, omega arith) (refl, omega arith) (refl, omega arith) (refl, omega arith) n (omega arith))

pub bit_there : (index : ℕ) → index < 4 → bit_at index ≡ 2 ^ index
unfolding bit_at
bit_there index l = ap (λ (i : ℕ). 2 ^ i) (let e : min index 3 ≡ index = omega arith in e)

-- the index of a bit of the table
pub index_at : (bit : ℕ) → Memᴰ bit bits → (index : ℕ) × (index < 4) × (bit ≡ 2 ^ index)
unfolding table
index_at bit (Memᴰ.head e) = (0, omega arith, e)
index_at bit (Memᴰ.tail i) =
    one_of_three (λ (b : ℕ). (index : ℕ) × (index < 4) × (b ≡ 2 ^ index)) (1, omega arith, refl) (2, omega arith, refl) (3, omega arith, refl) i

-- ---- what it says

-- no refused size has longer paths
span_most : (W H index : ℕ) → span_of W H index ≤ span W H (2 ^ index)
unfolding span_of
span_most W H index = go (bad_size W H || leb (length table) index)
  where
    go : (b : Bool) → cond b 0 (span W H (2 ^ index)) ≤ span W H (2 ^ index)
    go true = omega arith
    go false = omega arith

module _ (W H : ℕ) (s : Setting) (index : ℕ) (l : index < 4) (u : usable W H s index ≡ true) where
  tests : T (member s.directions (2 ^ index)) × T (leb s.length (span_of W H index))
  unfolding usable
  tests =
      let a = and_both (ltb index 4 && member s.directions (2 ^ index)) (leb s.length (span_of W H index)) (true_T (usable W H s index) u) in
      ((and_both (ltb index 4) (member s.directions (2 ^ index)) a.0).1, a.1)

  pub usable_chosen : Memᴰ (2 ^ index) (chosen s.directions)
  unfolding chosen
  usable_chosen = keep-keep (member s.directions) (2 ^ index) (bit_listed index l) tests.0

  pub usable_long : s.length ≤ span W H (2 ^ index)
  usable_long = omega (arith, leb→le s.length (span_of W H index) tests.1, span_most W H index)

pub chosen_usable :
    (W H : ℕ) (s : Setting) (index : ℕ) → GoodSize W H → index < 4 → Memᴰ (2 ^ index) (chosen s.directions) → s.length ≤ span W H (2 ^ index) →
    usable W H s index ≡ true
unfolding usable chosen
chosen_usable W H s index size known c l =
    rw (
      lt-ltb index 4 known,
      T_true (member s.directions (2 ^ index)) (keep_find (member s.directions) (2 ^ index) bits c).1,
      le-leb s.length (span_of W H index) (rw (span_good size index known) l),
    )
    refl

-- a usable direction is one of the table
pub usable_listed : (W H : ℕ) (s : Setting) (index : ℕ) → usable W H s index ≡ true → index < 4
unfolding usable
usable_listed W H s index u =
    let a = and_both (ltb index 4 && member s.directions (2 ^ index)) (leb s.length (span_of W H index)) (true_T (usable W H s index) u) in
    ltb-true index 4 (T_true (ltb index 4) (and_both (ltb index 4) (member s.directions (2 ^ index)) a.0).0)

-- what a search over the table has found
pub first_told : (W H : ℕ) (s : Setting) (r : Option ℕ) →
    MatchOption r ((k : ℕ) → 0 ≤ k → k < 4 → usable W H s k ≡ false) (λ i. (0 ≤ i) × (i < 4) × (usable W H s i ≡ true) × ((k : ℕ) → 0 ≤ k → k < i → usable W H s k ≡ false)) →
    FirstUsable W H s r
first_told W H s (Some i) f = record { passes = f.2; none = λ k l u. true≢false (sym u ∙ f.3 k (omega arith) l) }
first_told W H s None f = λ k u. true≢false (sym u ∙ f k (omega arith) (usable_listed W H s k u))

-- ---- refusal 12

module _ (W H : ℕ) (s : Setting) (x : ℕ) (size : GoodSize W H) (on : x < W * H) (long : 1 ≤ s.length) where
  pub usable_crosses : (r : ℕ) → FirstUsable W H s (Some r) → crossed W H s.directions s.length x ≡ true
  usable_crosses r first =
      let u = first.passes in
      let l = usable_listed W H s r u in
      T_true (crossed W H s.directions s.length x)
      (spans_crossed W H s.directions s.length x on long
      (record { bit = 2 ^ r; in_set = usable_chosen W H s r l u; long = usable_long W H s r l u }))

  -- the direction of a path that crosses x would be usable
  none_crossing : FirstUsable W H s None → T (crossed W H s.directions s.length x) → ⊥
  none_crossing none c =
      let p = crossed_spans W H s.directions s.length x c in
      let i = index_at p.bit (chosen_bits s.directions p.bit p.in_set) in
      none i.0
      (chosen_usable W H s i.0 size i.1 (subst (λ (b : ℕ). Memᴰ b (chosen s.directions)) i.2 p.in_set)
      (subst (λ (b : ℕ). s.length ≤ span W H b) i.2 p.long))

  pub none_crosses : FirstUsable W H s None → crossed W H s.directions s.length x ≡ false
  none_crosses none =
      ⊎_elim (λ e. absurd (none_crossing none (true_T (crossed W H s.directions s.length x) e))) (λ e. e)
      (true_or_false (crossed W H s.directions s.length x))
