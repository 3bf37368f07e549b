-- Laws of rows: what the planes that a loop has written say of a row that is put, held, stored, started, blended or joined.
use Prim.Native.Nat.{ℕ, zero, suc, ◌+◌, ◌-◌, ◌*◌, ◌≤◌, ◌<◌, max}
use mathlib.Core.Path.{◌≡◌, refl, sym, ap, ◌∙◌, subst}
use mathlib.Core.Bool.{Bool, true, false, ◌&&◌}
use mathlib.Core.Logic.{◌⊎◌, inl, inr}
use mathlib.Core.List.{List}
use native.Mathlib.Omega.{arith}
use borrow.Author.Tests.{le-leb, lt-leb, eq-eqb, ne_eqb}
use lib.Dec.{leb, eqb}
use lib.ListN.{get_or}
use Rattle.basics.proofs.Numbers.{le_or_lt}
use Rattle.states.specs.Runs.{Between}
use Rattle.plans.specs.Plans.{pitch_of, block_of, starts_at}
use Rattle.states.specs.Rows.{gate, in_row, RowPut, RowHeld, RowStored, Started, In, Planes}
use Rattle.plans.specs.declared.plan.Plan.{Plan}
use Rattle.theory.specs.BestWalks.{alone}
use Rattle.plans.proofs.PlanSizes.{plane_fits}
use Rattle.states.proofs.PlaneLaws.{Either, planes_none, planes_more, plane_run, copied_more}

-- ---- a row by its places

pub in_row_before : (lo hi : ℕ) (f : ℕ → ℕ) (X : ℕ) → X ≤ lo → in_row lo hi f X ≡ 0
unfolding in_row
in_row_before lo hi f X l = rw (lt-leb (lo + 1) X (omega arith))

pub in_row_after : (lo hi : ℕ) (f : ℕ → ℕ) (X : ℕ) → hi < X → in_row lo hi f X ≡ 0
unfolding in_row
in_row_after lo hi f X l = rw (lt-leb X hi l) (shut (leb (lo + 1) X))
  where
    shut : (b : Bool) → gate b 0 ≡ 0
    shut true = refl
    shut false = refl

pub in_row_at : (lo hi : ℕ) (f : ℕ → ℕ) (X : ℕ) → lo < X → X ≤ hi → in_row lo hi f X ≡ f (X - 1)
unfolding in_row
in_row_at lo hi f X l m = rw (le-leb (lo + 1) X (omega arith), le-leb X hi m)

-- the numbers of a row and a zero on either side are a held row
pub row_held :
    (held : List ℕ) (slot planes pitch lo hi : ℕ) (f : ℕ → ℕ → ℕ) →
    RowPut held slot planes pitch lo hi f →
    ((j : ℕ) → j < planes → get_or held (slot + (j * pitch + lo)) 0 ≡ 0) →
    ((j : ℕ) → j < planes → get_or held (slot + (j * pitch + (hi + 1))) 0 ≡ 0) →
    RowHeld held slot planes pitch lo hi f
row_held held slot planes pitch lo hi f put first last =
    record {
      is = λ j X l a b.
          elim (le_or_lt X lo) [
            | inl m ↦ subst (λ (Y : ℕ). get_or held (slot + (j * pitch + Y)) 0 ≡ 0) (let e : lo ≡ X = omega arith in e) (first j l)
                ∙ sym (in_row_before lo hi (f j) X m)
            | inr m ↦ elim (le_or_lt X hi) [
              | inl n ↦ subst (λ (Y : ℕ). get_or held (slot + (j * pitch + Y)) 0 ≡ f j (X - 1)) (let e : X - 1 + 1 ≡ X = omega arith in e)
                  (put.is j (X - 1) l (omega arith) (omega arith))
                  ∙ sym (in_row_at lo hi (f j) X m n)
              | inr n ↦ subst (λ (Y : ℕ). get_or held (slot + (j * pitch + Y)) 0 ≡ 0) (let e : hi + 1 ≡ X = omega arith in e) (last j l)
                  ∙ sym (in_row_after lo hi (f j) X n)
            ]
          ];
    }

-- ---- guards

-- zeros before and after the pixels of a row that is put make it a held one
pub guarded :
    (old new : List ℕ) (slot planes pitch lo hi : ℕ) →
    hi + 1 < pitch →
    Planes (Either lo (hi + 1)) (λ j X. 0) old new slot pitch planes →
    (f : ℕ → ℕ → ℕ) → RowPut old slot planes pitch lo hi f → RowHeld new slot planes pitch lo hi f
guarded old new slot planes pitch lo hi narrow s f put =
    row_held new slot planes pitch lo hi f
    record {
      is = λ j x l a b.
          s.outside j (x + 1) (omega arith) (λ o. elim o [ inl e ↦ omega arith | inr e ↦ omega arith ]) ∙ put.is j x l a b;
    }
    (λ j l. s.inside j lo l (inl refl))
    (λ j l. s.inside j (hi + 1) l (inr refl))

-- ---- rows copied

-- planes that hold the numbers of a row, and maybe more
pub row_put :
    (f : ℕ → ℕ → ℕ) (old new : List ℕ) (slot planes pitch lo hi past : ℕ) →
    Planes (In (lo + 1) (past + 1)) (λ j X. f j (X - 1)) old new slot pitch planes →
    hi ≤ past →
    RowPut new slot planes pitch lo hi f
row_put f old new slot planes pitch lo hi past s fits =
    record {
      is = λ j x l a b. s.inside j (x + 1) l (omega arith, omega arith) ∙ ap (f j) (let e : x + 1 - 1 ≡ x = omega arith in e);
    }

-- the held row that has come to a state
pub row_stored :
    (held old new : List ℕ) (slot planes pitch at across lo hi : ℕ) →
    Planes (In lo hi) (λ j x. get_or held (slot + (j * pitch + (x + 1))) 0) old new at across planes →
    (f : ℕ → ℕ → ℕ) → RowHeld held slot planes pitch lo hi f → RowStored new at planes across lo hi f
row_stored held old new slot planes pitch at across lo hi s f h =
    record {
      is = λ j x l a b.
          s.inside j x l (a, b) ∙ h.is j (x + 1) l (omega arith) (omega arith) ∙ in_row_at lo hi (f j) (x + 1) (omega arith) (omega arith)
          ∙ ap (f j) (let e : x + 1 - 1 ≡ x = omega arith in e);
    }

-- ---- rows that start

-- the highest key of a walk of no steps: the pixel's own, and not below the slack where it may be a gap
alone_first : (slack a : ℕ) → a ≡ alone slack a 0
unfolding alone
alone_first slack a = refl

alone_later : (slack a j : ℕ) → 1 ≤ j → max a slack ≡ alone slack a j
unfolding alone
alone_later slack a zero l = absurd (omega arith)
alone_later slack a (suc j) l = refl

-- the planes below `count` of a slot hold the walks of no steps at the pixels from first below past
abbrev pub StartedBelow : Plan → (ℕ → ℕ) → ℕ → ℕ → ℕ → List ℕ → List ℕ → ℕ → Type 0
StartedBelow p key slot first past old new count =
    Planes (In (first + 1) (past + 1)) (λ (j X : ℕ). alone p.slack (key (X - 1)) j) old new slot (pitch_of p) count

module _ (p : Plan) (keys : List ℕ) (slot at first past : ℕ) (fits : past ≤ p.across) where
  -- plane 0 is their keys
  pub started_first :
      (old new : List ℕ) (low n start : ℕ) →
      Between (λ k. get_or keys (start + (k - low)) 0) old new low (low + n) →
      low ≡ slot + 1 + first →
      start ≡ at + first →
      first + n ≡ past →
      StartedBelow p (λ x. get_or keys (at + x) 0) slot first past old new 1
  started_first old new low n start b el es en =
      copied_more keys _ old old new slot (pitch_of p) 0 (first + 1) (past + 1) low n start (planes_none _ _ old slot (pitch_of p)) b
      (omega arith) (omega arith) (omega arith)
      (λ X l m. ap (λ (k : ℕ). get_or keys k 0) (let e : start + (X - (first + 1)) ≡ at + (X - 1) = omega arith in e)
      ∙ alone_first p.slack (get_or keys (at + (X - 1)) 0))

  -- a plane more is their keys raised to the slack
  pub started_later :
      (old mid new : List ℕ) (j low n start v : ℕ) →
      StartedBelow p (λ x. get_or keys (at + x) 0) slot first past old mid j →
      Between (λ k. max (get_or keys (start + (k - low)) 0) v) mid new low (low + n) →
      v ≡ p.slack →
      1 ≤ j →
      low ≡ slot + 1 + first + j * pitch_of p →
      start ≡ at + first →
      first + n ≡ past →
      StartedBelow p (λ x. get_or keys (at + x) 0) slot first past old new (j + 1)
  started_later old mid new j low n start v s b ev l el es en =
      planes_more _ _ old mid new slot (pitch_of p) j (λ X i. omega (arith, i)) s
      (plane_run _ _ mid new slot (j * pitch_of p) (pitch_of p) (first + 1) (past + 1) low (low + n) b (omega arith) (omega arith) (omega arith)
      (λ X a o. ap (λ (k : ℕ). max (get_or keys k 0) v) (let e : start + (slot + (j * pitch_of p + X) - low) ≡ at + (X - 1) = omega arith in e)
      ∙ ap (max (get_or keys (at + (X - 1)) 0)) ev ∙ alone_later p.slack (get_or keys (at + (X - 1)) 0) j l))

pub row_started :
    (old new : List ℕ) (key : ℕ → ℕ) (slot : ℕ) (p : Plan) (first past : ℕ) →
    past ≤ p.across →
    StartedBelow p key slot first past old new p.planes →
    Started old new key slot p first past
row_started old new key slot p first past fits s =
    record {
      inside = λ j x l a b.
          s.inside j (x + 1) l (omega arith, omega arith) ∙ ap (λ (y : ℕ). alone p.slack (key y) j) (let e : x + 1 - 1 ≡ x = omega arith in e);
      outside = λ j X l m o. s.outside j X m (λ i. elim o [ inl u ↦ omega (arith, i) | inr u ↦ omega (arith, i) ]);
      apart = s.apart;
    }

-- a slot of zeros, in which the walks start at the pixels from first below past alone
module _ (old zeros : List ℕ) (slot : ℕ) (p : Plan) (lo hi : ℕ) (f : ℕ → ℕ → ℕ)
    (ordered : lo ≤ hi)
    (wide : hi ≤ p.across)
    (z : Between (λ k. 0) old zeros slot (slot + block_of p)) where
  zero_at : (j X : ℕ) → j < p.planes → X < pitch_of p → get_or zeros (slot + (j * pitch_of p + X)) 0 ≡ 0
  zero_at j X l m = z.inside (slot + (j * pitch_of p + X)) (omega arith) (omega (arith, plane_fits p j (omega arith)))

  pub zeros_held : ((j x : ℕ) → lo ≤ x → x < hi → 0 ≡ f j x) → RowHeld zeros slot p.planes (pitch_of p) lo hi f
  zeros_held none =
      row_held zeros slot p.planes (pitch_of p) lo hi f
      record { is = λ j x l a b. zero_at j (x + 1) l (omega arith) ∙ none j x a b }
      (λ j l. zero_at j lo l (omega arith))
      (λ j l. zero_at j (hi + 1) l (omega arith))

  pub started_held :
      (new : List ℕ) (key : ℕ → ℕ) (first past : ℕ) →
      Started zeros new key slot p first past →
      lo ≤ first →
      past ≤ hi →
      ((j x : ℕ) → first ≤ x → x < past → alone p.slack (key x) j ≡ f j x) →
      ((j x : ℕ) → lo ≤ x → x < hi → (x < first) ⊎ (past ≤ x) → 0 ≡ f j x) →
      RowHeld new slot p.planes (pitch_of p) lo hi f
  started_held new key first past s after before some none =
      row_held new slot p.planes (pitch_of p) lo hi f
      record {
        is = λ j x l a b.
            elim (le_or_lt first x) [
              | inr u ↦ s.outside j (x + 1) l (omega arith) (inl (omega arith)) ∙ zero_at j (x + 1) l (omega arith) ∙ none j x a b (inl u)
              | inl u ↦ elim (le_or_lt past x) [
                | inl o ↦ s.outside j (x + 1) l (omega arith) (inr (omega arith)) ∙ zero_at j (x + 1) l (omega arith) ∙ none j x a b (inr o)
                | inr o ↦ s.inside j x l u o ∙ some j x u o
              ]
            ];
      }
      (λ j l. s.outside j lo l (omega arith) (inl (omega arith)) ∙ zero_at j lo l (omega arith))
      (λ j l. s.outside j (hi + 1) l (omega arith) (inr (omega arith)) ∙ zero_at j (hi + 1) l (omega arith))

-- where a walk may start: nowhere in the rows past the first and at one pixel of that, where walks start at one pixel alone, and else everywhere
module _ (p : Plan) (m x v : ℕ) where
  pub starts_not_in : p.lone ≡ true → 0 < m → 0 ≡ gate (starts_at p m x) v
  unfolding starts_at
  starts_not_in e l = rw (e, ne_eqb m 0 (λ z. omega arith))

  pub starts_not_at : p.lone ≡ true → (x ≡ p.pixel → ⊥) → 0 ≡ gate (starts_at p m x) v
  unfolding starts_at
  starts_not_at e n = rw (e, ne_eqb x p.pixel n) (shut (eqb m 0))
    where
      shut : (b : Bool) → 0 ≡ gate (b && false) v
      shut true = refl
      shut false = refl

  pub starts_at_lem : p.lone ≡ true → m ≡ 0 → x ≡ p.pixel → v ≡ gate (starts_at p m x) v
  unfolding starts_at
  starts_at_lem e em ex = rw (e, eq-eqb m 0 em, eq-eqb x p.pixel ex)

  pub starts_anywhere : p.lone ≡ false → v ≡ gate (starts_at p m x) v
  unfolding starts_at
  starts_anywhere e = rw e
