-- A trail that is written from its far end inwards. While n steps are left, the pixels more than n steps from the picked one are written, each a step
-- from the one before it, and the first of them is a step from the pixel that comes next; their low pixels and the gaps left are together no more than
-- the gaps. With no steps left the pixel that comes next is the picked one, and the trail is whole. Its far end is written first, and stays.
use Prim.Native.Nat.{ℕ, zero, suc, ◌+◌, ◌-◌, ◌≤◌, ◌<◌}
use mathlib.Core.Path.{◌≡◌, refl, sym, ap, subst, ◌∙◌}
use mathlib.Core.Bool.{Bool, true, false}
use mathlib.Core.List.{List, Memᴰ}
use mathlib.Core.Logic.{⊎_elim}
use native.Mathlib.Omega.{arith}
use lib.ListN.{length, get_or, set, length-set}
use lib.Seq.{get_or-set_same, get_or-set_other}
use Rattle.basics.proofs.Numbers.{le_or_lt}
use Rattle.theory.proofs.LevelSets.{under_high}
use Rattle.theory.proofs.Recorded.{low_last, low_same}
use Rattle.headings.specs.Trails.{index_after, Within, Behind, Trail}
use Rattle.tracing.specs.Following.{low_along}
use Rattle.theory.specs.BestWalks.{under, low_from, ended}
use Rattle.theory.specs.Walks.{around}
use Rattle.headings.proofs.Trails.{index_first, index_within, within_less, behind_other}

-- the low pixels more than n steps from the first one, up to m steps
abbrev pub low_beyond : Bool → (ℕ → ℕ) → ℕ → List ℕ → ℕ → ℕ → ℕ → ℕ
low_beyond true g t path start m n = low_from g t path (start - m) (m - n)
low_beyond false g t path start m n = low_from g t path (start + (n + 1)) (m - n)

beyond_none : (b : Bool) (g : ℕ → ℕ) (t : ℕ) (path : List ℕ) (start m : ℕ) → low_beyond b g t path start m m ≡ 0
unfolding low_from
beyond_none true g t path start m = let e : m - m ≡ 0 = omega arith in rw e
beyond_none false g t path start m = let e : m - m ≡ 0 = omega arith in rw e

-- one pixel more, which is n steps from the first one
beyond_more :
    (b : Bool) (g : ℕ → ℕ) (t : ℕ) (path : List ℕ) (size start m n : ℕ) → Within b size start m → suc n ≤ m →
    low_beyond b g t path start m n ≡ low_beyond b g t path start m (suc n) + under t (g (get_or path (index_after b start (suc n)) 0))
unfolding low_from
beyond_more true g t path size start m n w h =
    let e : m - n ≡ m - suc n + 1 = omega arith in
    let f : start - m + (m - suc n) ≡ start - suc n = omega arith in
    rw e (low_last g t path (start - m) (m - suc n) ∙ rw f)
beyond_more false g t path size start m n w h =
    let e : m - n ≡ suc (m - suc n) = omega arith in
    let f : start + (n + 1) ≡ start + suc n = omega arith in
    let k : suc (start + suc n) ≡ start + (suc n + 1) = omega arith in
    rw (e, f, k) (omega arith)

-- a store at the pixel that comes next
beyond_same :
    (b : Bool) (g : ℕ → ℕ) (t : ℕ) (path : List ℕ) (size start m n q : ℕ) → Within b size start m → n ≤ m →
    low_beyond b g t (set path (index_after b start n) q) start m n ≡ low_beyond b g t path start m n
beyond_same true g t path size start m n q w h =
    low_same g t (set path (start - n) q) path (start - m) (m - n) (λ i l u. get_or-set_other path (start - n) i q 0 (λ e. omega arith))
beyond_same false g t path size start m n q w h =
    low_same g t (set path (start + n) q) path (start + (n + 1)) (m - n) (λ i l u. get_or-set_other path (start + n) i q 0 (λ e. omega arith))

-- and with the first one they are all
beyond_all :
    (b : Bool) (g : ℕ → ℕ) (t : ℕ) (path : List ℕ) (size start m : ℕ) → Within b size start m →
    low_along b g t path start (m + 1) ≡ low_beyond b g t path start m 0 + under t (g (get_or path start 0))
unfolding low_from
beyond_all true g t path size start m w =
    let e : start + 1 - (m + 1) ≡ start - m = omega arith in
    let f : start - m + m ≡ start = omega arith in
    let z : m - 0 ≡ m = omega arith in
    rw (e, z) (low_last g t path (start - m) m ∙ rw f)
beyond_all false g t path size start m w =
    let e : m + 1 ≡ suc m = omega arith in
    let f : start + (0 + 1) ≡ suc start = omega arith in
    let z : m - 0 ≡ m = omega arith in
    rw (e, f, z) (omega arith)

-- a further index is another one
index_beyond : (b : Bool) (size start m n i : ℕ) → Within b size start m → n < i → i ≤ m → index_after b start i ≡ index_after b start n → ⊥
index_beyond true size start m n i w h l e = omega arith
index_beyond false size start m n i w h l e = omega arith

module _ (slack W H bit : ℕ) (b : Bool) (g : ℕ → ℕ) (t : ℕ) (old : List ℕ) (start m gaps : ℕ) where
  pub record Inward (path : List ℕ) (n here left : ℕ) : Type 0 where
    pub step : (i : ℕ) → n < i → i < m →
        Memᴰ (get_or path (index_after b start (i + 1)) 0) (around b W H bit (get_or path (index_after b start i) 0))
    pub next : n < m → Memᴰ (get_or path (index_after b start (n + 1)) 0) (around b W H bit here)
    pub kept : (q : ℕ) → Behind b start q → get_or path q 0 ≡ get_or old q 0
    pub len : length path ≡ length old
    pub few : low_beyond b g t path start m n + left ≤ gaps
    -- the far end, once it is written, and before
    pub far : n < m → t ≤ ended slack (g (get_or path (index_after b start m) 0))
    pub first : n ≡ m → t ≤ ended slack (g here)

  pub inward_far : (here left : ℕ) → left ≤ gaps → t ≤ ended slack (g here) → Inward old m here left
  inward_far here left h end =
      record {
        step = λ i l u. absurd (omega arith);
        next = λ l. absurd (omega arith);
        kept = λ q h. refl;
        len = refl;
        few = omega (arith, beyond_none b g t old start m);
        far = λ l. absurd (omega arith);
        first = λ e. end;
      }

  module _ (within : Within b (length old) start m) where
    -- the pixel that comes next is written, and another one comes next, of which it is a neighbour
    pub inward_nearer :
        (path : List ℕ) (n here left here' left' : ℕ) → suc n ≤ m → Inward path (suc n) here left →
        Memᴰ here (around b W H bit here') → left' + under t (g here) ≤ left →
        Inward (set path (index_after b start (suc n)) here) n here' left'
    inward_nearer path n here left here' left' h d near spent =
        let i0 : ℕ = index_after b start (suc n) in
        let inside = index_within b (length old) start (suc n) (within_less b (length old) start m (suc n) within h) in
        let written : get_or (set path i0 here) i0 0 ≡ here = get_or-set_same path i0 here 0 (omega (arith, d.len, inside)) in
        let more : n + 1 ≡ suc n = omega arith in
        let same : (i : ℕ) → suc n < i → i ≤ m → get_or (set path i0 here) (index_after b start i) 0 ≡ get_or path (index_after b start i) 0 =
        λ i l u. get_or-set_other path i0 (index_after b start i) here 0 (λ e. index_beyond b (length old) start m (suc n) i within l u e) in
        record {
          step = λ i l u.
              ⊎_elim
              (λ a. let e : i ≡ suc n = omega arith in
              rw (e, written, same (suc n + 1) (omega arith) (omega arith)) (d.next (omega arith)))
              (λ a. rw (same i a (omega arith), same (i + 1) (omega arith) (omega arith)) (d.step i a u))
              (le_or_lt i (suc n));
          next = λ l. rw (more, written) near;
          kept = λ q k.
              get_or-set_other path i0 q here 0
              (λ e. behind_other b (length old) start (suc n) q (within_less b (length old) start m (suc n) within h) (omega arith) k e)
              ∙ d.kept q k;
          len = length-set path i0 here ∙ d.len;
          few =
              omega (
                arith,
                d.few,
                beyond_more b g t (set path i0 here) (length old) start m n within h,
                beyond_same b g t path (length old) start m (suc n) here within h,
                ap (λ (q : ℕ). under t (g q)) written,
              );
          far = λ l.
              ⊎_elim
              (λ a. let e : suc n ≡ m = omega arith in
              let at-end : get_or (set path i0 here) (index_after b start m) 0 ≡ here = subst (λ (k : ℕ). get_or (set path i0 here) (index_after b start k) 0 ≡ here) e written in
              rw at-end (d.first e))
              (λ a. rw (same m a (omega arith)) (d.far a))
              (le_or_lt m (suc n));
          first = λ e. absurd (omega arith);
        }

    -- the picked pixel comes next
    module _ (path : List ℕ) (here left : ℕ) (d : Inward path 0 here left) (picked : here ≡ get_or old start 0) where
      first_kept : get_or path (index_after b start 0) 0 ≡ here
      first_kept = ap (λ (i : ℕ). get_or path i 0) (index_first b start) ∙ d.kept start (behind_start b start) ∙ sym picked
        where
          behind_start : (b : Bool) (start : ℕ) → Behind b start start
          behind_start true start = omega arith
          behind_start false start = omega arith

      pub inward_trail : Trail W H bit b old path start m
      inward_trail =
          record {
            step = λ i l.
                ⊎_elim (λ a. let e : i ≡ 0 = omega arith in rw (e, first_kept) (d.next (omega arith))) (λ a. d.step i a l) (le_or_lt i 0);
            kept = d.kept;
            len = d.len;
          }

      pub inward_end : t ≤ ended slack (g (get_or path (index_after b start m) 0))
      inward_end =
          ⊎_elim (λ a. d.far a)
          (λ a. let e : 0 ≡ m = omega arith in
          subst (λ (k : ℕ). t ≤ ended slack (g (get_or path (index_after b start k) 0))) e (rw first_kept (d.first e)))
          (le_or_lt 1 m)

      pub inward_few : under t (g here) ≤ left → low_along b g t path start (m + 1) ≤ gaps
      inward_few h =
          let there : get_or path start 0 ≡ here = sym (ap (λ (i : ℕ). get_or path i 0) (index_first b start)) ∙ first_kept in
          omega (arith, d.few, beyond_all b g t path (length old) start m within, ap (λ (q : ℕ). under t (g q)) there)

-- ---- at the lowest key no pixel is low

low_from_zero : (g : ℕ → ℕ) (path : List ℕ) (a n : ℕ) → low_from g 0 path a n ≡ 0
unfolding low_from
low_from_zero g path a zero = refl
low_from_zero g path a (suc n) = omega (arith, under_high 0 (g (get_or path a 0)) (omega arith), low_from_zero g path (suc a) n)

pub low_along_zero : (b : Bool) (g : ℕ → ℕ) (path : List ℕ) (start n : ℕ) → low_along b g 0 path start n ≡ 0
low_along_zero true g path start n = low_from_zero g path (start + 1 - n) n
low_along_zero false g path start n = low_from_zero g path start n
