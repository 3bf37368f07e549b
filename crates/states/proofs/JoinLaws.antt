-- Laws of two rows joined. The best of a row's pixels rises to the lower of two numbers, plane by plane: the planes of the held row from the first
-- on, those of the other from the last down. So many turns are t planes of each.
use Prim.Native.Nat.{ℕ, ◌+◌, ◌-◌, ◌*◌, ◌≤◌, ◌<◌, min, max}
use mathlib.Core.Path.{◌≡◌, refl, sym, ap, ◌∙◌, subst}
use mathlib.Core.Logic.{inl, inr}
use mathlib.Core.List.{List}
use native.Mathlib.Omega.{arith}
use lib.ListN.{length, get_or}
use Rattle.basics.proofs.Numbers.{le_or_lt}
use Rattle.states.specs.Runs.{Between}
use Rattle.states.specs.Rows.{RowHeld, RowStored, RowJoined}
use Rattle.states.proofs.RowLaws.{in_row_at}

-- ---- a row that rises

-- at the pixels from lo below hi new has risen to m j x for each j below turns
pub record Folded (m : ℕ → ℕ → ℕ) (old new : List ℕ) (at turns lo hi : ℕ) : Type 0 where
  pub grown : (q : ℕ) → get_or old q 0 ≤ get_or new q 0
  pub reached : (j x : ℕ) → j < turns → lo ≤ x → x < hi → m j x ≤ get_or new (at + x) 0
  pub bounded : (b : ℕ → ℕ) → ((j x : ℕ) → j < turns → lo ≤ x → x < hi → m j x ≤ b (at + x)) → (q : ℕ) → get_or new q 0 ≤ max (get_or old q 0) (b q)
  pub len : length new ≡ length old

pub folded_none : (m : ℕ → ℕ → ℕ) (old : List ℕ) (at lo hi : ℕ) → Folded m old old at 0 lo hi
folded_none m old at lo hi =
    record { grown = λ q. omega arith; reached = λ j x l a b. absurd (omega arith); bounded = λ b h q. omega arith; len = refl }

-- a run more
module _ (m : ℕ → ℕ → ℕ) (g : ℕ → ℕ) (old mid new : List ℕ) (at turns lo hi low high : ℕ)
    (s : Folded m old mid at turns lo hi)
    (b : Between (λ k. max (get_or mid k 0) (g k)) mid new low high)
    (is-low : low ≡ at + lo)
    (is-high : high ≡ at + hi)
    (rule : (x : ℕ) → lo ≤ x → x < hi → g (at + x) ≡ m turns x) where
  rises : (q : ℕ) → get_or mid q 0 ≤ get_or new q 0
  rises q =
      elim (le_or_lt low q) [
        | inr u ↦ omega (arith, b.under q u)
        | inl u ↦ elim (le_or_lt high q) [
          | inl o ↦ omega (arith, b.over q o)
          | inr o ↦ omega (arith, b.inside q u o)
        ]
      ]

  newly : (x : ℕ) → lo ≤ x → x < hi → get_or new (at + x) 0 ≡ max (get_or mid (at + x) 0) (m turns x)
  newly x p q = b.inside (at + x) (omega arith) (omega arith) ∙ ap (max (get_or mid (at + x) 0)) (rule x p q)

  -- not above a bound of all turns
  within : (c : ℕ → ℕ) → ((j x : ℕ) → j < turns + 1 → lo ≤ x → x < hi → m j x ≤ c (at + x)) → (q : ℕ) → get_or new q 0 ≤ max (get_or mid q 0) (c q)
  within c h q =
      elim (le_or_lt low q) [
        | inr u ↦ omega (arith, b.under q u)
        | inl u ↦ elim (le_or_lt high q) [
          | inl o ↦ omega (arith, b.over q o)
          | inr o ↦ subst (λ (k : ℕ). get_or new k 0 ≤ max (get_or mid k 0) (c k)) (let e : at + (q - at) ≡ q = omega arith in e)
              (omega (arith, newly (q - at) (omega arith) (omega arith), h turns (q - at) (omega arith) (omega arith) (omega arith)))
        ]
      ]

  pub folded_more : Folded m old new at (turns + 1) lo hi
  folded_more =
      record {
        grown = λ q. omega (arith, s.grown q, rises q);
        reached = λ j x l p q.
            elim (le_or_lt turns j) [
              | inr k ↦ omega (arith, s.reached j x k p q, rises (at + x))
              | inl k ↦ subst (λ (i : ℕ). m i x ≤ get_or new (at + x) 0) (let e : turns ≡ j = omega arith in e) (omega (arith, newly x p q))
            ];
        bounded = λ c h q. omega (arith, within c h q, s.bounded c (λ j x l p r. h j x (omega arith) p r) q);
        len = b.len ∙ s.len;
      }

-- ---- two rows

module _ (held work : List ℕ) (slot at planes pitch across : ℕ) where
  -- the lower of the two numbers at pixel x in turn j
  abbrev pub lower : ℕ → ℕ → ℕ
  lower j x = min (get_or held (slot + (j * pitch + (x + 1))) 0) (get_or work (at + ((planes - 1 - j) * across + x)) 0)

  -- a turn more
  pub joined_more :
      (old mid new : List ℕ) (row turns lo hi to h w n : ℕ) →
      Folded lower old mid row turns lo hi →
      Between (λ k. max (get_or mid k 0) (min (get_or held (h + (k - to)) 0) (get_or work (w + (k - to)) 0))) mid new to (to + n) →
      to ≡ row + lo →
      lo + n ≡ hi →
      h ≡ slot + turns * pitch + 1 + lo →
      w ≡ at + (planes - 1 - turns) * across + lo →
      Folded lower old new row (turns + 1) lo hi
  joined_more old mid new row turns lo hi to h w n s b et en eh ew =
      folded_more lower _ old mid new row turns lo hi to (to + n) s b et (omega arith)
      (λ x p q.
      let ej : h + (row + x - to) ≡ slot + (turns * pitch + (x + 1)) = omega arith in
      let ek : w + (row + x - to) ≡ at + ((planes - 1 - turns) * across + x) = omega arith in
      rw (ej, ek))

  -- after a turn for each plane
  pub row_joined :
      (old new : List ℕ) (row lo hi : ℕ) →
      Folded lower old new row planes lo hi →
      (f g : ℕ → ℕ → ℕ) → RowHeld held slot planes pitch lo hi f → RowStored work at planes across lo hi g → RowJoined old new row planes lo hi f g
  row_joined old new row lo hi s f g hold store =
      record {
        grown = s.grown;
        reached = λ j x l a b. subst (λ (v : ℕ). v ≤ get_or new (row + x) 0) (is j x l a b) (s.reached j x l a b);
        bounded = λ c k. s.bounded c (λ j x l a b. subst (λ (v : ℕ). v ≤ c (row + x)) (sym (is j x l a b)) (k j x l a b));
        len = s.len;
      }
    where
      is : (j x : ℕ) → j < planes → lo ≤ x → x < hi → lower j x ≡ min (f j x) (g (planes - 1 - j) x)
      is j x l a b =
          let e : x + 1 - 1 ≡ x = omega arith in
          rw (
            hold.is j (x + 1) l (omega arith) (omega arith),
            in_row_at lo hi (f j) (x + 1) (omega arith) (omega arith),
            store.is (planes - 1 - j) x (omega arith) a b,
            e,
          )
