-- Laws of a row that is made of held ones, eight pixels at a time in all planes. What is read lies wholly apart from the slot that is written, so that
-- it is still as it was at the beginning. A run may be longer than the row: what it makes past it is free.
use Prim.Native.Nat.{ℕ, zero, suc, ◌+◌, ◌-◌, ◌*◌, ◌≤◌, ◌<◌, min, max}
use mathlib.Core.Path.{◌≡◌, refl, sym, ap, ◌∙◌, subst}
use mathlib.Core.Logic.{◌⊎◌, inl, inr}
use mathlib.Core.List.{List}
use native.Mathlib.Omega.{arith}
use lib.ListN.{get_or}
use Rattle.basics.proofs.Numbers.{le_or_lt, rows_fit}
use Rattle.states.specs.Runs.{Between, Apart, greatest_at}
use Rattle.states.specs.Rows.{In, RowPut, TapsOf, BlendFits, Blent, layer_ahead, blended}
use Rattle.states.proofs.PlaneLaws.{apart_then, plane_run, planes_more, planes_ends}
use Rattle.states.proofs.RowLaws.{row_put}

-- ---- what fits

pub fits_before :
    (planes pitch x y t0 t1 t2 to size now : ℕ) → BlendFits planes pitch x t0 t1 t2 to size → y ≤ x → now ≡ size →
    BlendFits planes pitch y t0 t1 t2 to now
fits_before planes pitch x y t0 t1 t2 to size now f l e =
    subst (λ (n : ℕ). BlendFits planes pitch y t0 t1 t2 to n) (sym e)
    (record { few = f.few; narrow = f.narrow; room = omega (arith, f.room); taps = f.taps; small = f.small })

module _ (planes pitch t0 t1 t2 to size : ℕ) (taps : TapsOf (planes * pitch) t0 t1 t2 to size) where
  in_block : (j : ℕ) → j < planes → j * pitch + pitch ≤ planes * pitch
  in_block j l = omega (arith, rows_fit j 1 planes pitch (omega arith))

  -- ---- what is read is as it was

  module _ (old new : List ℕ) (apart : Apart old new (to - 1) (to - 1 + planes * pitch)) where
    tap_same :
        (t j y : ℕ) → (t + planes * pitch ≤ to + 1) ⊎ (to + planes * pitch ≤ t + 1) → j < planes → y + 3 ≤ pitch →
        get_or new (t + j * pitch + y) 0 ≡ get_or old (t + j * pitch + y) 0
    tap_same t j y o l n =
        elim o [
          | inl u ↦ apart.under (t + j * pitch + y) (omega (arith, in_block j l))
          | inr u ↦ apart.over (t + j * pitch + y) (omega (arith, taps.some))
        ]

    layer_same : (j y : ℕ) → j ≤ planes → y + 3 ≤ pitch → layer_ahead new pitch t0 t1 t2 j y ≡ layer_ahead old pitch t0 t1 t2 j y
    unfolding layer_ahead
    layer_same zero y l n = refl
    layer_same (suc j) y l n =
        rw (
          tap_same t0 j y taps.clear0 (omega arith) n,
          tap_same t1 j y taps.clear1 (omega arith) n,
          tap_same t2 j y taps.clear2 (omega arith) n,
        )

    blended_same :
        (key : ℕ → ℕ) (j y : ℕ) → j < planes → y + 3 ≤ pitch → blended new pitch t0 t1 t2 key j y ≡ blended old pitch t0 t1 t2 key j y
    blended_same key j y l n = rw (layer_same (suc j) y (omega arith) n, layer_same j y (omega arith) n)

    -- the greatest of the three, o further on, is the layer of a plane
    pub layer_read :
        (j x o i : ℕ) → o ≡ x + j * pitch → j < planes → x + i + 3 ≤ pitch →
        greatest_at new t0 t1 t2 (o + i) ≡ layer_ahead old pitch t0 t1 t2 (suc j) (x + i)
    unfolding layer_ahead
    layer_read j x o i e l n =
        rw (
          at t0 ∙ tap_same t0 j (x + i) taps.clear0 l n,
          at t1 ∙ tap_same t1 j (x + i) taps.clear1 l n,
          at t2 ∙ tap_same t2 j (x + i) taps.clear2 l n,
        )
      where
        at : (t : ℕ) → get_or new (t + (o + i)) 0 ≡ get_or new (t + j * pitch + (x + i)) 0
        at t = ap (λ (k : ℕ). get_or new k 0) (let h : t + (o + i) ≡ t + j * pitch + (x + i) = omega arith in h)

  -- ---- a plane more of eight pixels

  module _ (x : ℕ) (room : x + 10 ≤ pitch) (key : ℕ → ℕ) (old mid new : List ℕ) where
    pub plane_put :
        (v : ℕ → ℕ) (past at : ℕ) → past < planes →
        Blent old mid key past pitch t0 t1 t2 to x (x + 8) →
        Between (λ k. v (k - at)) mid new at (at + 8) → at ≡ to + (x + past * pitch) →
        ((i : ℕ) → i < 8 → v i ≡ blended old pitch t0 t1 t2 key past (x + i)) →
        Blent old new key (past + 1) pitch t0 t1 t2 to x (x + 8)
    plane_put v past at l s b e rule =
        planes_more (In (x + 1) (x + 8 + 1)) _ old mid new (to - 1) pitch past (λ X p. omega (arith, p)) s
        (plane_run _ (λ X. blended old pitch t0 t1 t2 key past (X - 1)) mid new (to - 1) (past * pitch) pitch (x + 1) (x + 8 + 1) at (at + 8) b
        (omega (arith, taps.some)) (omega (arith, taps.some)) (omega arith) here)
      where
        here : (X : ℕ) → x + 1 ≤ X → X < x + 8 + 1 → v (to - 1 + (past * pitch + X) - at) ≡ blended old pitch t0 t1 t2 key past (X - 1)
        here X p q =
            let i : ℕ = X - 1 - x in
            let d : to - 1 + (past * pitch + X) - at ≡ i = omega (arith, taps.some) in
            let f : x + i ≡ X - 1 = omega arith in
            ap v d ∙ rule i (omega arith) ∙ ap (blended old pitch t0 t1 t2 key past) f

    -- ---- eight pixels more of all planes

    pub columns_more :
        (lo : ℕ) → lo ≤ x →
        Blent old mid key planes pitch t0 t1 t2 to lo x →
        Blent mid new key planes pitch t0 t1 t2 to x (x + 8) →
        Blent old new key planes pitch t0 t1 t2 to lo (x + 8)
    columns_more lo o s t =
        record {
          inside = λ j X l p.
              elim (le_or_lt (x + 1) X) [
                | inl k ↦ t.inside j X l (k, omega (arith, p)) ∙ blended_same old mid s.apart key j (X - 1) l (omega (arith, p))
                | inr k ↦ t.outside j X (omega (arith, p)) (λ q. omega (arith, q)) ∙ s.inside j X l (p.0, k)
              ];
          outside = λ j X l n.
              t.outside j X l (λ q. n (omega (arith, q), omega (arith, q))) ∙ s.outside j X l (λ q. n (q.0, omega (arith, q)));
          apart = apart_then old mid new (to - 1) (to - 1 + planes * pitch) s.apart t.apart;
        }

  -- ---- no pixel, and no plane

  pub columns_none : (key : ℕ → ℕ) (old : List ℕ) (lo : ℕ) → Blent old old key planes pitch t0 t1 t2 to lo lo
  columns_none key old lo =
      record {
        inside = λ j X l p. absurd (omega (arith, p));
        outside = λ j X l n. refl;
        apart = record { under = λ k l. refl; over = λ k l. refl; len = refl };
      }

-- ---- numbers of one pixel

pub layer_none : (held : List ℕ) (pitch t0 t1 t2 x : ℕ) → 0 ≡ layer_ahead held pitch t0 t1 t2 0 x
unfolding layer_ahead
layer_none held pitch t0 t1 t2 x = refl

-- the lowest plane, below which there is nothing
pub blended_lowest :
    (held : List ℕ) (pitch t0 t1 t2 : ℕ) (key : ℕ → ℕ) (x v k g : ℕ) →
    v ≡ min k g → k ≡ key x → g ≡ layer_ahead held pitch t0 t1 t2 1 x → v ≡ blended held pitch t0 t1 t2 key 0 x
unfolding layer_ahead
blended_lowest held pitch t0 t1 t2 key x v k g ev ek eg = ev ∙ rw (ek, eg) (omega arith)

-- a plane's number, by that of the plane below
pub blended_next :
    (held : List ℕ) (pitch t0 t1 t2 : ℕ) (key : ℕ → ℕ) (j x v w k g b : ℕ) →
    v ≡ max w b → w ≡ min k g → k ≡ key x → g ≡ layer_ahead held pitch t0 t1 t2 (suc j) x → b ≡ layer_ahead held pitch t0 t1 t2 j x →
    v ≡ blended held pitch t0 t1 t2 key j x
blended_next held pitch t0 t1 t2 key j x v w k g b ev ew ek eg eb = ev ∙ rw (ew, ek, eg, eb)

-- ---- the row, by whichever way it was made

pub row_made :
    (old new : List ℕ) (key : ℕ → ℕ) (pitch t0 t1 t2 to lo hi past n planes : ℕ) →
    Blent old new key n pitch t0 t1 t2 to lo past →
    n ≡ planes →
    hi ≤ past →
    RowPut new (to - 1) planes pitch lo hi (blended old pitch t0 t1 t2 key) × Apart old new (to - 1) (to - 1 + planes * pitch)
row_made old new key pitch t0 t1 t2 to lo hi past n planes s e l =
    let t = planes_ends _ _ _ _ _ _ _ _ s e in (row_put (blended old pitch t0 t1 t2 key) old new (to - 1) planes pitch lo hi past t l, t.apart)
