-- The held rows while row m of one state is made. A row is known by its numbers at its own pixels. Row m of the last state is held beside the place of
-- the new row; so each of the three steps reads the number that it leads on, and the row made of them is row m.
use Prim.Native.Nat.{ℕ, zero, suc, ◌+◌, ◌-◌, ◌*◌, ◌≤◌, ◌<◌}
use mathlib.Core.Path.{◌≡◌, refl, sym, ap, ◌∙◌, subst}
use mathlib.Core.Bool.{Bool, true, false}
use mathlib.Core.Logic.{◌⊎◌, inl, inr, ⊎_elim}
use mathlib.Core.List.{List}
use native.Mathlib.Omega.{arith}
use lib.Dec.{leb}
use lib.ListN.{length, get_or}
use borrow.Author.Tests.{leb-true}
use Rattle.basics.proofs.Numbers.{rows_fit}
use Rattle.states.specs.Runs.{Between, Apart}
use Rattle.plans.specs.Plans.{Sound, Readable, rows_in, row_lo, row_hi, row_at, row_size, seen_lo, seen_hi, pitch_of, block_of, half_of, starts, starts_at}
use Rattle.states.specs.Rows.{gate, in_row, RowHeld, TapsOf, layer_ahead, blended}
use Rattle.states.specs.States.{row_before, last_before, seen, ahead, Grown}
use Rattle.states.specs.Holding.{Slotted, tap_of, LastHeld, Ready, LastRow, MadeRow}
use Rattle.plans.specs.declared.plan.Plan.{Plan}
use Rattle.states.specs.declared.state.Slots.{Slots}
use Rattle.theory.specs.BestWalks.{alone}
use Rattle.states.proofs.SizeLaws.{row_before_lem, in_block, half_linked, half_room}

pub in_row_same : (lo hi X : ℕ) (f g : ℕ → ℕ) → ((x : ℕ) → lo ≤ x → x < hi → f x ≡ g x) → in_row lo hi f X ≡ in_row lo hi g X
unfolding in_row
in_row_same lo hi X f g same = go (leb (lo + 1) X) (leb X hi) refl refl where
  go : (a b : Bool) → leb (lo + 1) X ≡ a → leb X hi ≡ b → gate a (gate b (f (X - 1))) ≡ gate a (gate b (g (X - 1)))
  go false b ea eb = refl
  go true false ea eb = refl
  go true true ea eb = same (X - 1) (omega (arith, leb-true (lo + 1) X ea)) (omega (arith, leb-true (lo + 1) X ea, leb-true X hi eb))

-- a row is held by any rule that gives its numbers
pub held_by : (held : List ℕ) (slot planes pitch lo hi lo₁ hi₁ : ℕ) (f g : ℕ → ℕ → ℕ) → RowHeld held slot planes pitch lo hi f → lo ≡ lo₁ → hi ≡ hi₁ →
    ((j x : ℕ) → j < planes → lo₁ ≤ x → x < hi₁ → f j x ≡ g j x) → RowHeld held slot planes pitch lo₁ hi₁ g
held_by held slot planes pitch lo hi lo₁ hi₁ f g h el eh same =
    record {
      is = λ j X hj l k.
          subst (λ (a : ℕ). get_or held (slot + (j * pitch + X)) 0 ≡ in_row a hi₁ (f j) X) el
          (subst (λ (b : ℕ). get_or held (slot + (j * pitch + X)) 0 ≡ in_row lo b (f j) X) eh (h.is j X hj (omega arith) (omega arith)))
          ∙ in_row_same lo₁ hi₁ X (f j) (g j) (λ x a b. same j x hj a b);
    }

pub apart_of : (old new : List ℕ) (lo n n₁ : ℕ) → n₁ ≡ n → Apart old new lo (lo + n) → Apart old new lo (lo + n₁)
apart_of old new lo n n₁ e a = subst (λ (q : ℕ). Apart old new lo (lo + q)) (sym e) a

-- ---- row m of the last state

module _ (p : Plan) (e m : ℕ) (work : List ℕ) (from : ℕ) (held : List ℕ) (slot : ℕ) where
  -- none is asked for
  pub last_unlinked : p.linked ≡ false → LastRow p e m work from held slot
  last_unlinked u = record { is = λ last linked from-m. absurd (let z : ◌≡◌ {A = ℕ} 0 1 = cc in omega arith) }

  -- there is none
  pub last_none : (old : List ℕ) (past : ℕ) → Between (λ (k : ℕ). 0) old held slot past → past ≡ slot + block_of p → e ≡ 0 →
      LastRow p e m work from held slot
  last_none old past b ep z =
      record {
        is = λ last linked from-m.
            record {
              none = λ y j X hj hX.
                  let in-it : j * pitch_of p + X < block_of p = in_block j p.planes (pitch_of p) X hj (omega arith) in
                  b.inside (slot + (j * pitch_of p + X)) (omega arith) (omega arith);
              some = λ d y. absurd (omega arith);
            };
      }

  -- it has come from the work buffer
  pub last_some : Sound p → (lo hi at d : ℕ) → e ≡ suc d → m < rows_in p e → lo ≡ row_lo p d m → hi ≡ row_hi p d m → at ≡ from + m * row_size p →
      RowHeld held slot p.planes (pitch_of p) lo hi (λ (j x : ℕ). get_or work (at + (j * p.across + x)) 0) → LastRow p e m work from held slot
  unfolding row_before seen_lo seen_hi
  last_some sound lo hi at d ed hm el eh ea h =
      record {
        is = λ last linked from-m.
            record {
              none = λ y. absurd (omega arith);
              some = λ d₁ ed₁ j X hj l k.
                  let same : d ≡ d₁ = omega arith in
                  let more = row_before_lem p e d₁ m sound ed₁ hm in
                  (held_by held slot p.planes (pitch_of p) lo hi (row_lo p d₁ m) (row_hi p d₁ m) _ (last m) h
                  (el ∙ ap (λ (q : ℕ). row_lo p q m) same)
                  (eh ∙ ap (λ (q : ℕ). row_hi p q m) same)
                  (λ i x hi₁ a b. ap (λ (q : ℕ). get_or work q 0) (omega arith) ∙ from-m.is d₁ linked ed₁ m i x (omega arith) more hi₁ a b)
                  ).is j X hj l k;
            };
      }

-- ---- what is held while row m is made

-- a row of the last state stays held where other places change
last_held_over : (p : Plan) (e m : ℕ) (old new : List ℕ) (slot lo hi : ℕ) (last : ℕ → ℕ → ℕ → ℕ) → Apart old new lo hi → hi ≤ slot →
    LastHeld p e m old slot last → LastHeld p e m new slot last
last_held_over p e m old new slot lo hi last a l h =
    record {
      none = λ z j X hj hX. a.over (slot + (j * pitch_of p + X)) (omega arith) ∙ h.none z j X hj hX;
      some = λ d ed j X hj l₁ k. a.over (slot + (j * pitch_of p + X)) (omega arith) ∙ h.some d ed j X hj l₁ k;
    }

module _ (p : Plan) (e m : ℕ) (work : List ℕ) (s : Slots) (old : List ℕ) where
  -- row m is held at the place of this number
  pub made_of : (new : List ℕ) → Apart old new s.now (s.now + block_of p) →
      ((last this : ℕ → ℕ → ℕ → ℕ) → (p.linked ≡ true → LastHeld p e (suc m) old (s.now + block_of p) last) →
      Grown p e (λ q. get_or work q 0) last this → Ready p e m old s.was last this →
      RowHeld new s.now p.planes (pitch_of p) (row_lo p e m) (row_hi p e m) (this m)) → MadeRow p e m work s old new
  unfolding row_before seen_lo seen_hi
  made_of new a row =
      record {
        is = λ last this beside grown ready.
            record {
              own = λ j X hj l k. (row last this beside grown ready).is j X hj l k;
              other = λ linked.
                  last_held_over p e (suc m) old new (s.now + block_of p) s.now (s.now + block_of p) last a (omega arith) (beside linked);
            };
        apart = a;
      }

  -- a row of walks of no steps
  pub made_started : (new : List ℕ) → Apart old new s.now (s.now + block_of p) → m < rows_in p e →
      starts p e m ≡ true → (lo hi at : ℕ) → lo ≡ row_lo p e m → hi ≡ row_hi p e m → at ≡ row_at p e m →
      RowHeld new s.now p.planes (pitch_of p) lo hi (λ (j x : ℕ). gate (starts_at p m x) (alone p.slack (get_or work (at + x) 0) j)) →
      MadeRow p e m work s old new
  made_started new a hm st lo hi at el eh ea h =
      made_of new a
      (λ last this beside grown ready.
      held_by new s.now p.planes (pitch_of p) lo hi (row_lo p e m) (row_hi p e m) _ (this m) h el eh
      (λ j x hj l k. ap (λ (q : ℕ). gate (starts_at p m x) (alone p.slack (get_or work (q + x) 0) j)) ea ∙ sym (grown.first m j x hm hj l k st)))

-- ---- where a step's row begins

pub tap_own : (p : Plan) (s : Slots) (y : ℕ) → y ≡ 0 → tap_of p s y ≡ s.was
unfolding tap_of
tap_own p s y e = rw e

pub tap_before : (p : Plan) (s : Slots) (y : ℕ) → y ≡ 1 → tap_of p s y ≡ s.was + block_of p
unfolding tap_of
tap_before p s y e = rw e

pub tap_beside : (p : Plan) (s : Slots) (y : ℕ) → (y ≡ 0 → ⊥) → (y ≡ 1 → ⊥) → tap_of p s y ≡ s.now + block_of p
unfolding tap_of
tap_beside p s zero n0 n1 = absurd (n0 refl)
tap_beside p s (suc zero) n0 n1 = absurd (n1 refl)
tap_beside p s (suc (suc y)) n0 n1 = refl

-- ---- the three steps

-- where they find the numbers of pixel 0
pub record TapsAt (p : Plan) (s : Slots) (t0 t1 t2 : ℕ) : Type 0 where
  pub first : t0 ≡ tap_of p s p.reach.y0 + p.reach.x0
  pub second : t1 ≡ tap_of p s p.reach.y1 + p.reach.x1
  pub third : t2 ≡ tap_of p s p.reach.y2 + p.reach.x2

-- the halves are told by the length of the held rows
pub slotted_same : (p : Plan) (s : Slots) (size size₁ : ℕ) → Slotted p s size → size₁ ≡ size → Slotted p s size₁
slotted_same p s size size₁ h e = subst (λ (n : ℕ). Slotted p s n) (sym e) h

-- they lie within the held rows
pub slots_within : (p : Plan) (s : Slots) (size : ℕ) → Sound p → Slotted p s size → (s.was < 40000) × (s.now < 40000) × (s.now + half_of p ≤ size)
slots_within p s size sound h =
    let some = rows_fit 0 1 p.planes (pitch_of p) (omega (arith, sound.some_planes)) in
    omega (arith, half_room p, h.was_fits, h.now_fits, h.small)

-- a step that reads the last state has one to read
linked_reach : (p : Plan) (e m y x : ℕ) → Readable p e m (suc y) x → p.linked ≡ true
linked_reach p e m y x r = go p.linked refl where
  go : (b : Bool) → p.linked ≡ b → b ≡ true
  go true h = refl
  go false h = absurd (omega (arith, r.unlinked h))

-- what is read of a held row of the last state, which is zeros where there is none
last_reads : (p : Plan) (e n : ℕ) (held : List ℕ) (slot : ℕ) (last : ℕ → ℕ → ℕ → ℕ) (j X : ℕ) → LastHeld p e n held slot last → j < p.planes →
    X ≤ p.across + 1 → ((d : ℕ) → e ≡ suc d → (seen_lo p d n ≤ X) × (X ≤ seen_hi p d n)) →
    get_or held (slot + (j * pitch_of p + X)) 0 ≡ last_before p e last n j X
unfolding last_before
last_reads p zero n held slot last j X h hj hX inside = h.none refl j X hj hX
last_reads p (suc d) n held slot last j X h hj hX inside = h.some d refl j X hj (inside d refl).0 (inside d refl).1

module _ (p : Plan) (e m : ℕ) (s : Slots) (size : ℕ) (slotted : Slotted p s size) where
  -- a step that reads the half of the number before reads beside the place of the row that is made, within the held rows
  was_clear : (t o x : ℕ) → t ≡ s.was + o → o + block_of p ≤ half_of p → x ≤ 2 →
      ((t + x + block_of p ≤ s.now + 2) ⊎ (s.now + block_of p ≤ t + x)) × (t + x + block_of p ≤ size + 2)
  was_clear t o x et room near = (
    ⊎_elim (λ w. inl (omega arith)) (λ w. inr (omega (arith, half_room p))) slotted.either,
    omega (arith, slotted.was_fits),
  )

  -- and so does any step
  pub tap_clear : (y x : ℕ) → Readable p e m y x →
      ((tap_of p s y + x + block_of p ≤ s.now + 2) ⊎ (s.now + block_of p ≤ tap_of p s y + x)) × (tap_of p s y + x + block_of p ≤ size + 2)
  unfolding tap_of
  tap_clear zero x r = was_clear s.was 0 x (omega arith) (omega (arith, half_room p)) r.near
  tap_clear (suc zero) x r =
      let half = half_linked p (linked_reach p e m 0 x r) in
      was_clear (s.was + block_of p) (block_of p) x refl (omega arith) r.near
  tap_clear (suc (suc y)) x r =
      let half = half_linked p (linked_reach p e m (suc y) x r) in
      (inr (omega arith), omega (arith, r.near, slotted.now_fits))

  module _ (held : List ℕ) (last this : ℕ → ℕ → ℕ → ℕ) (beside : p.linked ≡ true → LastHeld p e (suc m) held (s.now + block_of p) last)
      (ready : Ready p e m held s.was last this) (c : ℕ) (lower : row_lo p e m ≤ c) (upper : c < row_hi p e m) (wide : row_hi p e m ≤ p.across) where
    -- a step reads what it leads on
    tap_reads : (y x j : ℕ) → Readable p e m y x → j < p.planes →
        get_or held (tap_of p s y + x + j * pitch_of p + c) 0 ≡ seen p e last this y m j (c + x)
    unfolding tap_of seen last_before
    tap_reads zero x j r hj =
        let reads = r.own refl c lower upper in
        ap (λ (q : ℕ). get_or held q 0) (omega arith) ∙ ready.own j (c + x) hj reads.0 reads.1
    tap_reads (suc zero) x j r hj =
        let linked = linked_reach p e m 0 x r in
        ap (λ (q : ℕ). get_or held q 0) (omega arith)
        ∙ last_reads p e m held (s.was + block_of p) last j (c + x) (ready.other linked) hj (omega (arith, r.near))
        (λ d ed. r.before refl d ed c lower upper)
    tap_reads (suc (suc zero)) x j r hj =
        let linked = linked_reach p e m 1 x r in
        ap (λ (q : ℕ). get_or held q 0) (omega arith)
        ∙ last_reads p e (suc m) held (s.now + block_of p) last j (c + x) (beside linked) hj (omega (arith, r.near))
        (λ d ed. r.beside refl d ed c lower upper)
    tap_reads (suc (suc (suc y))) x j r hj = absurd (omega (arith, r.few))

    -- so the greatest of three held numbers is the one that the three steps lead on
    pub layer_reads : (t0 t1 t2 : ℕ) → TapsAt p s t0 t1 t2 → Sound p → e < 65536 → m < rows_in p e → (j : ℕ) → j ≤ p.planes →
        layer_ahead held (pitch_of p) t0 t1 t2 j c ≡ ahead p e last this j m c
    unfolding layer_ahead ahead
    layer_reads t0 t1 t2 taps sound he hm zero hj = refl
    layer_reads t0 t1 t2 taps sound he hm (suc j) hj =
        rw (
          taps.first,
          taps.second,
          taps.third,
          tap_reads p.reach.y0 p.reach.x0 j (sound.first e m hm he) (omega arith),
          tap_reads p.reach.y1 p.reach.x1 j (sound.second e m hm he) (omega arith),
          tap_reads p.reach.y2 p.reach.x2 j (sound.third e m hm he) (omega arith),
        )

-- the steps may be taken
pub taps_fit : (p : Plan) (e m : ℕ) (s : Slots) (size t0 t1 t2 : ℕ) → Sound p → Slotted p s size → e < 65536 → m < rows_in p e →
    TapsAt p s t0 t1 t2 → TapsOf (block_of p) t0 t1 t2 (s.now + 1) size
taps_fit p e m s size t0 t1 t2 sound slotted he hm taps =
    let c0 = tap_clear p e m s size slotted _ _ (sound.first e m hm he) in
    let c1 = tap_clear p e m s size slotted _ _ (sound.second e m hm he) in
    let c2 = tap_clear p e m s size slotted _ _ (sound.third e m hm he) in
    let within = slots_within p s size sound slotted in
    record {
      clear0 = ⊎_elim (λ w. inl (omega arith)) (λ w. inr (omega arith)) c0.0;
      clear1 = ⊎_elim (λ w. inl (omega arith)) (λ w. inr (omega arith)) c1.0;
      clear2 = ⊎_elim (λ w. inl (omega arith)) (λ w. inr (omega arith)) c2.0;
      in0 = omega arith;
      in1 = omega arith;
      in2 = omega arith;
      some = omega arith;
      in_to = omega (arith, half_room p);
    }

-- a row made of held ones
pub made_blended : (p : Plan) (e m : ℕ) (work : List ℕ) (s : Slots) (old new : List ℕ) → Sound p → Slotted p s (length old) →
    e < 65536 → m < rows_in p e → starts p e m ≡ false → (lo hi at t0 t1 t2 slot : ℕ) →
    lo ≡ row_lo p e m → hi ≡ row_hi p e m → at ≡ row_at p e m → TapsAt p s t0 t1 t2 → slot ≡ s.now →
    RowHeld new slot p.planes (pitch_of p) lo hi (blended old (pitch_of p) t0 t1 t2 (λ (x : ℕ). get_or work (at + x) 0)) →
    Apart old new slot (slot + block_of p) → MadeRow p e m work s old new
made_blended p e m work s old new sound slotted he hm st lo hi at t0 t1 t2 slot el eh ea taps es h a =
    made_of p e m work s old new (subst (λ (q : ℕ). Apart old new q (q + block_of p)) es a)
    (λ last this beside grown ready.
    subst (λ (q : ℕ). RowHeld new q p.planes (pitch_of p) (row_lo p e m) (row_hi p e m) (this m)) es
    (held_by new slot p.planes (pitch_of p) lo hi (row_lo p e m) (row_hi p e m) _ (this m) h el eh
    (λ j x hj l k.
    let wide = (sound.fits e m hm he).wide in
    let reads = layer_reads p e m s (length old) slotted old last this beside ready x l k wide t0 t1 t2 taps sound he hm in
    rw (reads (suc j) (omega arith), reads j (omega arith), ea) (sym (grown.later m j x hm hj l k st)))))
