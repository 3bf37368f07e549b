-- From the directions to the whole plate: what a direction adds, and what all of them do, or as many as it takes for every level to reach the pixel's
-- own.
use Prim.Native.Nat.{ℕ, suc, ◌+◌, ◌-◌, ◌*◌, ◌^◌, ◌≤◌, ◌<◌, max}
use mathlib.Core.Path.{◌≡◌, refl, sym, ap, ◌∙◌}
use mathlib.Core.Bool.{Bool, true, false, cond, true≢false, ◌&&◌}
use mathlib.Core.List.{List, [], ◌∷◌, ◌++◌}
use mathlib.Core.Logic.{inl, inr, ⊎_elim}
use native.Mathlib.Numerals.{add-one}
use native.Mathlib.Omega.{arith}
use borrow.Author.Tests.{lt-ltb}
use lib.Dec.{ltb}
use lib.ListN.{length, take}
use lib.IntN.{ℤ}
use Rattle.basics.specs.Cases.{EitherBy}
use Rattle.basics.specs.Lists.{keep}
use Rattle.basics.proofs.Numbers.{le_or_lt, below_four}
use Rattle.basics.proofs.Tests.{true_or_false}
use Rattle.plate.specs.Directions.{table, member, chosen}
use Rattle.plate.specs.Paths.{span}
use Rattle.plate.specs.Opening.{level_at}
use Rattle.plate.specs.declared.setting.Setting.{Setting}
use Rattle.theory.proofs.Listed.{walk_started}
use Rattle.theory.proofs.Ranks.{bits, ranked, bit_listed}
use Rattle.theory.proofs.Span.{walk_fits}
use Rattle.theory.proofs.Terms.{across_none}
use Rattle.frames.specs.Keys.{key_by}
use Rattle.directions.specs.Gathering.{Raised, best_of}
use Rattle.directions.specs.Doors.{opens}
use Rattle.directions.proofs.DoorLaws.{opens_if}
use Rattle.engine.specs.Finishing.{Accepted, Complete, Gathered, best_in, best_if_chosen, best_of_all}
use Rattle.theory.specs.BestWalks.{best, gap_end}
use Rattle.theory.specs.Walks.{around}
use Rattle.engine.proofs.RaiseLaws.{raised_to_nothing, raised_twice, raised_by}

-- ---- a direction that is opened

pub chosen_best : (W H : ℕ) (s : Setting) (index : ℕ) (plate old new : List ℤ) → member s.directions (2 ^ index) ≡ true →
    Raised (best_of (gap_end s.ends) W H index s.mode (s.length - 1) s.gaps plate) old new 0 (W * H) →
    Raised (best_if_chosen W H s plate (2 ^ index)) old new 0 (W * H)
unfolding best_if_chosen best_of around
chosen_best W H s index plate old new e h =
    raised_by (best_of (gap_end s.ends) W H index s.mode (s.length - 1) s.gaps plate) (best_if_chosen W H s plate (2 ^ index)) old new 0 (W * H) h (λ x a b. rw e)

-- ---- a direction that adds nothing

pub not_chosen : (W H : ℕ) (s : Setting) (plate : List ℤ) (index : ℕ) (old : List ℤ) → member s.directions (2 ^ index) ≡ false →
    Raised (best_if_chosen W H s plate (2 ^ index)) old old 0 (W * H)
unfolding best_if_chosen
not_chosen W H s plate index old out =
    raised_to_nothing (best_if_chosen W H s plate (2 ^ index)) old 0 (W * H) (λ x a b. rw out)

-- the setting chooses the directions of its set, as far as the table goes
pub chooses_member : (s : Setting) (index : ℕ) → index < 4 → (r : Bool) → r ≡ (ltb index 4 && member s.directions (2 ^ index)) →
    member s.directions (2 ^ index) ≡ r
chooses_member s index known r e = sym (rw (lt-ltb index 4 known) at e)

module _ (W H : ℕ) (s : Setting) (plate : List ℤ) (index : ℕ) (known : index < 4) (short : span W H (2 ^ index) < s.length) where
  no_path : (x : ℕ) → x < W * H → best_in W H s plate (2 ^ index) x ≡ 0
  no_path x on =
      across_none (gap_end s.ends) W H (2 ^ index) (s.length - 1) s.gaps (λ p. key_by s.mode (level_at plate p)) x
      (λ p ps w i.
      omega (
        arith,
        walk_fits W H (2 ^ index) (ranked W H (2 ^ index) (bit_listed index known)) (walk_started W H (2 ^ index) w i on) w,
      ))

  pub too_short : (old : List ℤ) → Raised (best_if_chosen W H s plate (2 ^ index)) old old 0 (W * H)
  unfolding best_if_chosen
  too_short old =
      raised_to_nothing (best_if_chosen W H s plate (2 ^ index)) old 0 (W * H)
      (λ x a b. ⊎_elim (λ e. rw e (no_path x b)) (λ e. rw e) (true_or_false (member s.directions (2 ^ index))))

-- ---- a chosen direction: it is opened unless its paths are too short

too_long : (W H : ℕ) (s : Setting) (index plate result work : ℕ) → Accepted W H s plate result work → index < 4 →
    false ≡ opens W H s index plate result work → span W H (2 ^ index) < s.length
too_long W H s index plate result work p known e =
    elim (le_or_lt s.length (span W H (2 ^ index))) [
      | inl h ↦ absurd (true≢false (sym (opens_if W H s index plate result work (record {
        fitting = record { size = p.size; known = known; some = p.long; few = p.short; few_gaps = p.few_gaps; long = h };
        plate_size = p.plate_size;
        result_size = p.result_size;
        work_size = p.work_size;
      })) ∙ sym e))
      | inr h ↦ h
    ]

pub chosen_opened :
    (W H : ℕ) (s : Setting) (index : ℕ) (plate old new : List ℤ) (work work' : List ℕ) (r : Bool) →
    Accepted W H s (length plate) (length old) (length work) → index < 4 → member s.directions (2 ^ index) ≡ true →
    r ≡ opens W H s index (length plate) (length old) (length work) →
    EitherBy r (Raised (best_of (gap_end s.ends) W H index s.mode (s.length - 1) s.gaps plate) old new 0 (W * H)) ((new ≡ old) × (work' ≡ work)) →
    Raised (best_if_chosen W H s plate (2 ^ index)) old new 0 (W * H)
chosen_opened W H s index plate old new work work' true p known is_chosen e h = chosen_best W H s index plate old new is_chosen h
chosen_opened W H s index plate old new work work' false p known is_chosen e h =
    rw h.0 (too_short W H s plate index known (too_long W H s index (length plate) (length old) (length work) p known e) old)

-- ---- the directions one after the other, as far as an index of the table

best_more : (f : ℕ → ℕ) (test : ℕ → Bool) (xs : List ℕ) (y : ℕ) → best f (keep test (xs ++ (y ∷ []))) ≡ max (cond (test y) (f y) 0) (best f (keep test xs))
unfolding best keep
best_more f test [] y = ⊎_elim (λ e. rw e) (λ e. rw e) (true_or_false (test y))
best_more f test (x ∷ xs) y =
    ⊎_elim (λ e. rw e (omega (arith, best_more f test xs y))) (λ e. rw e (best_more f test xs y)) (true_or_false (test x))

bits_more : (index : ℕ) → index < 4 → take (suc index) bits ≡ take index bits ++ (2 ^ index ∷ [])
unfolding table
bits_more index h = below_four (λ (i : ℕ). take (suc i) bits ≡ take i bits ++ (2 ^ i ∷ [])) refl refl refl refl index h

module _ (W H : ℕ) (s : Setting) (plate : List ℤ) where
  -- the best paths in the chosen directions before this index
  unfoldable pub best_before : ℕ → ℕ → ℕ
  best_before index x = best (λ bit. best_in W H s plate bit x) (keep (member s.directions) (take index bits))

  pub before_none : (old : List ℤ) → Raised (best_before 0) old old 0 (W * H)
  unfolding best_before best keep
  before_none old = raised_to_nothing (best_before 0) old 0 (W * H) (λ x a b. refl)

  one_more : (index x : ℕ) → index < 4 → best_before (index + 1) x ≡ max (best_if_chosen W H s plate (2 ^ index) x) (best_before index x)
  unfolding best_before best_if_chosen
  one_more index x h =
      rw (add-one index, bits_more index h) (best_more (λ bit. best_in W H s plate bit x) (member s.directions) (take index bits) (2 ^ index))

  pub before_more : (old mid new : List ℤ) (index : ℕ) → index < 4 → Raised (best_before index) old mid 0 (W * H) →
      Raised (best_if_chosen W H s plate (2 ^ index)) mid new 0 (W * H) → Raised (best_before (index + 1)) old new 0 (W * H)
  before_more old mid new index h a b =
      raised_twice (best_before index) (best_if_chosen W H s plate (2 ^ index)) (best_before (index + 1)) old mid new 0 (W * H) a b
      (λ x u v. one_more index x h)

  pub before_all : (old new : List ℤ) (index : ℕ) → index ≡ 4 → Raised (best_before index) old new 0 (W * H) → Raised (best_of_all W H s plate) old new 0 (W * H)
  unfolding best_before best_of_all chosen table
  before_all old new index e r =
      raised_by (best_before index) (best_of_all W H s plate) old new 0 (W * H) r (λ x a b. rw e)

  -- no direction takes anything away
  before_grows : (index x : ℕ) → index ≤ 4 → best_before index x ≤ best_before 4 x
  before_grows index x h =
      let a : best_before 1 x ≡ max (best_if_chosen W H s plate (2 ^ 0) x) (best_before 0 x) = one_more 0 x (omega arith) in
      let b : best_before 2 x ≡ max (best_if_chosen W H s plate (2 ^ 1) x) (best_before 1 x) = one_more 1 x (omega arith) in
      let c : best_before 3 x ≡ max (best_if_chosen W H s plate (2 ^ 2) x) (best_before 2 x) = one_more 2 x (omega arith) in
      let d : best_before 4 x ≡ max (best_if_chosen W H s plate (2 ^ 3) x) (best_before 3 x) = one_more 3 x (omega arith) in
      ⊎_elim (λ e. let z : index ≡ 4 = omega arith in omega (arith, ap (λ (i : ℕ). best_before i x) z))
      (λ l. below_four (λ (i : ℕ). best_before i x ≤ best_before 4 x) (omega arith) (omega arith) (omega arith) (omega arith) index l)
      (le_or_lt 4 index)

  all_is : (x : ℕ) → best_of_all W H s plate x ≡ best_before 4 x
  unfolding best_before best_of_all chosen table
  all_is x = refl

  -- all directions; or some, after which every level has reached the pixel's own
  pub gathered_all : (old new : List ℤ) (index : ℕ) → index ≡ 4 → Raised (best_before index) old new 0 (W * H) →
      Gathered s.mode plate (best_of_all W H s plate) old new (W * H)
  gathered_all old new index e r =
      record { is = λ x h. omega (arith, (before_all old new index e r).inside x (omega arith) h); len = r.len }

  pub gathered_early : (old new : List ℤ) (index : ℕ) → index ≤ 4 → length plate ≡ W * H → Raised (best_before index) old new 0 (W * H) →
      Complete s.mode plate new → Gathered s.mode plate (best_of_all W H s plate) old new (W * H)
  gathered_early old new index l size r full =
      record {
        is = λ x h. omega (arith, r.inside x (omega arith) h, full.reached x (omega arith), before_grows index x l, all_is x);
        len = r.len;
      }

-- the lent buffers keep their lengths
pub accepted_still : (W H : ℕ) (s : Setting) (plate result work result₁ work₁ : ℕ) → result₁ ≡ result → work₁ ≡ work → Accepted W H s plate result work →
    Accepted W H s plate result₁ work₁
accepted_still W H s plate result work result₁ work₁ er ew a = rw (er, ew) a
