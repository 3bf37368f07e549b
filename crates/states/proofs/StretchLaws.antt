-- Row m of several states. In a half the row of each state has that of the state before beside it, so a row that has been made is what the next state
-- asks for; the rows of the number before lie in the other half, and the rows of the states before are further on, so both stay as they are.
use Prim.Native.Nat.{ℕ, zero, suc, ◌+◌, ◌-◌, ◌*◌, ◌≤◌, ◌<◌}
use mathlib.Core.Path.{◌≡◌, refl, sym, ap, ◌∙◌, subst}
use mathlib.Core.Bool.{true}
use mathlib.Core.Logic.{◌⊎◌, inl, inr, ⊎_elim}
use mathlib.Core.List.{List}
use native.Mathlib.Nat.{add-mul}
use native.Mathlib.Omega.{arith}
use lib.ListN.{get_or}
use Rattle.basics.proofs.Numbers.{le_or_lt, rows_fit}
use Rattle.states.specs.Runs.{Apart}
use Rattle.plans.specs.Plans.{Sound, rows_in, seen_hi, pitch_of, block_of, half_of, half_with}
use Rattle.states.specs.States.{row_before, Chain}
use Rattle.states.specs.Holding.{Slotted, Halves, LastHeld, LastRow, Ready, AllReady, MadeRow, NextRows, AllRows}
use Rattle.plans.specs.declared.plan.Plan.{Plan}
use Rattle.states.specs.declared.state.Slots.{Slots}
use Rattle.states.proofs.SizeLaws.{in_block, half_linked, half_room, half_most, half_further, row_earlier}

-- ---- the slots of one state

pub halves_room : (p : Plan) (b more : ℕ) (s : Slots) (size : ℕ) → Halves p more s size → b ≤ more →
    (s.was + b * block_of p + half_of p ≤ size) × (s.now + b * block_of p + half_of p ≤ size) × (size ≤ 40000)
halves_room p b more s size h l =
    let room = half_further p b more l in
    ⊎_elim (λ w. omega (arith, h.fits, h.small)) (λ w. omega (arith, h.fits, h.small)) h.either

pub slotted_at : (p : Plan) (b more : ℕ) (s t : Slots) (size : ℕ) → Halves p more s size → b ≤ more → t.was ≡ s.was + b * block_of p →
    t.now ≡ s.now + b * block_of p → Slotted p t size
slotted_at p b more s t size h l ew en =
    let room = halves_room p b more s size h l in
    record {
      either = ⊎_elim (λ w. inl (omega arith)) (λ w. inr (omega arith)) h.either;
      was_fits = omega arith;
      now_fits = omega arith;
      small = h.small;
    }

-- and so has the row of the state before the first
pub last_room : (p : Plan) (more : ℕ) (s : Slots) (size half : ℕ) → Halves p more s size → half ≡ half_with p more →
    (s.now + (half - block_of p) + (half_of p - block_of p) ≤ size) × (size ≤ 40000)
last_room p more s size half h eh =
    let room = half_further p 0 more (omega arith) in
    ⊎_elim (λ w. omega (arith, h.fits, h.small, half_room p, half_most p)) (λ w. omega (arith, h.fits, h.small, half_room p, half_most p)) h.either

-- the next state's are one row nearer
pub one_nearer : (past d w : ℕ) → d < past → (past - d) * w ≡ (past - 1 - d) * w + w
one_nearer past d w l = ap (λ (q : ℕ). q * w) (let e : past - d ≡ past - 1 - d + 1 = omega arith in e) ∙ omega (arith, add-mul (past - 1 - d) 1 w)

-- ---- rows that stay

seen_wide : (p : Plan) (e m : ℕ) → Sound p → e < 65536 → m ≤ rows_in p e → seen_hi p e m ≤ p.across + 1
unfolding seen_hi
seen_wide p e zero sound he hm = omega arith
seen_wide p e (suc m) sound he hm = omega (arith, (sound.fits e m (omega arith) he).wide)

-- the rows of a state stay where other places change
ready_apart : (p : Plan) (e m : ℕ) (old new : List ℕ) (half lo hi : ℕ) (last this : ℕ → ℕ → ℕ → ℕ) → Sound p → e < 65536 → m ≤ rows_in p e →
    Apart old new lo hi → (half + half_of p ≤ lo) ⊎ (hi ≤ half) → Ready p e m old half last this → Ready p e m new half last this
ready_apart p e m old new half lo hi last this sound he hm a side ready =
    record {
      own = λ j X hj l k.
          let in-it = in_block j p.planes (pitch_of p) X hj (omega (arith, seen_wide p e m sound he hm)) in
          same (half + (j * pitch_of p + X)) (omega arith) (omega (arith, half_room p)) ∙ ready.own j X hj l k;
      other = λ linked.
          let two = half_linked p linked in
          record {
            none = λ z j X hj k.
                let in-it = in_block j p.planes (pitch_of p) X hj (omega arith) in
                same (half + block_of p + (j * pitch_of p + X)) (omega arith) (omega arith) ∙ (ready.other linked).none z j X hj k;
            some = λ d ed j X hj l k.
                let wide = seen_wide p d m sound (omega arith) (omega (arith, sound.more d, ap (rows_in p) ed)) in
                let in-it = in_block j p.planes (pitch_of p) X hj (omega arith) in
                same (half + block_of p + (j * pitch_of p + X)) (omega arith) (omega arith) ∙ (ready.other linked).some d ed j X hj l k;
          };
    }
  where
    same : (q : ℕ) → half ≤ q → q < half + half_of p → get_or new q 0 ≡ get_or old q 0
    same q l h = ⊎_elim (λ w. a.under q (omega arith)) (λ w. a.over q (omega arith)) side

-- a state's row is the last one for the next state
last_of : (p : Plan) (d n m : ℕ) (held : List ℕ) (slot slot₁ : ℕ) (f : ℕ → ℕ → ℕ → ℕ → ℕ) → n ≡ d + 1 → slot₁ ≡ slot →
    Ready p d m held slot (f (d - 1)) (f d) → LastHeld p n m held slot₁ (f (n - 1))
last_of p d n m held slot slot₁ f en es ready =
    record {
      none = λ z. absurd (omega arith);
      some = λ k ek j X hj lo hi.
          let here = subst (λ (i : ℕ). Ready p i m held slot (f (i - 1)) (f i)) (let w : d ≡ k = omega arith in w) ready in
          ap (λ (q : ℕ). get_or held (q + (j * pitch_of p + X)) 0) es
          ∙ here.own j X hj lo hi
          ∙ ap (λ (i : ℕ). row_before p k (f i) m j X) (let w : k ≡ n - 1 = omega arith in w);
    }

-- ---- state after state

-- row m of the states below d has been made, and that of the state before d is held beside the place of its row
pub record RowsTo (p : Plan) (first past m d : ℕ) (work : List ℕ) (s : Slots) (old new : List ℕ) : Type 0 where
  pub is : (f : ℕ → ℕ → ℕ → ℕ → ℕ) → (p.linked ≡ true → LastHeld p first (suc m) old (s.now + (past - first) * block_of p) (f (first - 1))) →
      Chain p first past (λ q. get_or work q 0) f → AllReady p first past m old s.was f →
      ((c : ℕ) → first ≤ c → c < d → Ready p c (suc m) new (s.now + (past - 1 - c) * block_of p) (f (c - 1)) (f c))
      × (p.linked ≡ true → LastHeld p d (suc m) new (s.now + (past - d) * block_of p) (f (d - 1)))
  pub apart : Apart old new s.now (s.now + half_with p (past - 1 - first))

module _ (p : Plan) (first past m : ℕ) (work : List ℕ) (s : Slots) (old : List ℕ) where
  pub rows_none : RowsTo p first past m first work s old old
  rows_none =
      record {
        is = λ f last chain ready. (λ c a b. absurd (omega arith), last);
        apart = record { under = λ k h. refl; over = λ k h. refl; len = refl };
      }

  -- one state more
  pub rows_more : (d n : ℕ) (mid new : List ℕ) (t : Slots) (size : ℕ) → Sound p → first ≤ d → d < past → past ≤ 65536 → m < rows_in p (past - 1) → n ≡ d + 1 →
      Halves p (past - 1 - first) s size → t.was ≡ s.was + (past - 1 - d) * block_of p → t.now ≡ s.now + (past - 1 - d) * block_of p →
      RowsTo p first past m d work s old mid → MadeRow p d m work t mid new → RowsTo p first past m n work s old new
  rows_more d n mid new t size sound lo hi few hm en halves ew et to made =
      let near = one_nearer past d (block_of p) hi in
      let room = half_further p (past - 1 - d) (past - 1 - first) (omega arith) in
      let apart-was : (t.was + half_of p ≤ s.now) ⊎ (s.now + half_with p (past - 1 - first) ≤ t.was) =
      ⊎_elim (λ w. inl (omega arith)) (λ w. inr (omega arith)) halves.either in
      record {
        is = λ f last chain ready.
            let before = to.is f last chain ready in
            let was : Ready p d m mid t.was (f (d - 1)) (f d) =
            ready_apart p d m old mid t.was s.now (s.now + half_with p (past - 1 - first)) (f (d - 1)) (f d) sound (omega arith)
            (omega (arith, row_earlier p (past - 1) d m sound (omega arith) hm)) to.apart apart-was
            (subst (λ (q : ℕ). Ready p d m old q (f (d - 1)) (f d)) (sym ew) (ready.is d lo hi)) in
            let here : Ready p d (suc m) new t.now (f (d - 1)) (f d) =
            made.is (f (d - 1)) (f d)
            (λ linked. subst (λ (q : ℕ). LastHeld p d (suc m) mid q (f (d - 1))) (let w : s.now + (past - d) * block_of p ≡ t.now + block_of p = omega arith in w) (before.1 linked))
            (chain.grown d lo hi) was in (
              λ c l h.
                  elim (le_or_lt d c) [
                    | inl k ↦
                        subst (λ (i : ℕ). Ready p i (suc m) new (s.now + (past - 1 - i) * block_of p) (f (i - 1)) (f i)) (let w : d ≡ c = omega arith in w)
                        (subst (λ (q : ℕ). Ready p d (suc m) new q (f (d - 1)) (f d)) et here)
                    | inr k ↦
                        let further = one_nearer past c (block_of p) (omega arith) in
                        let over = rows_fit (past - 1 - d) 1 (past - 1 - c) (block_of p) (omega arith) in
                        ready_apart p c (suc m) mid new (s.now + (past - 1 - c) * block_of p) t.now (t.now + block_of p) (f (c - 1)) (f c) sound (omega arith)
                        (omega (arith, row_earlier p (past - 1) c m sound (omega arith) hm)) made.apart (inr (omega arith)) (before.0 c l k)
                  ],
              λ linked. last_of p d n (suc m) new t.now (s.now + (past - n) * block_of p) f en
                  (ap (λ (q : ℕ). s.now + q * block_of p) (let w : past - n ≡ past - 1 - d = omega arith in w) ∙ sym et) here,
            );
        apart =
            record {
              under = λ k h. made.apart.under k (omega arith) ∙ to.apart.under k h;
              over = λ k h. made.apart.over k (omega (arith, half_room p)) ∙ to.apart.over k h;
              len = made.apart.len ∙ to.apart.len;
            };
      }

  pub rows_all : (d : ℕ) (new : List ℕ) → past ≤ d → RowsTo p first past m d work s old new → NextRows p first past m work s old new
  rows_all d new l to =
      record {
        is = λ f last chain ready. record { is = λ c a b. (to.is f last chain ready).0 c a (omega arith) };
        len = to.apart.len;
      }

  -- a state by itself
  pub rows_one : (new : List ℕ) (size : ℕ) → Sound p → past ≡ first + 1 → past ≤ 65536 → m < rows_in p (past - 1) → Halves p (past - 1 - first) s size →
      MadeRow p (past - 1) m work s old new → NextRows p first past m work s old new
  rows_one new size sound one few hm halves made =
      let none : (h : ℕ) → h ≡ h + (past - 1 - (past - 1)) * block_of p =
      λ h. omega arith ∙ ap (λ (q : ℕ). h + q * block_of p) (let w : 0 ≡ past - 1 - (past - 1) = omega arith in w) in
      rows_all past new (omega arith)
      (rows_more (past - 1) past old new s size sound (omega arith) (omega arith) few hm (omega arith) halves (none s.was) (none s.now)
      (subst (λ (d : ℕ). RowsTo p first past m d work s old old) (let w : first ≡ past - 1 = omega arith in w) rows_none) made)

  pub rows_same : (new now : List ℕ) → NextRows p first past m work s old new → now ≡ new → NextRows p first past m work s old now
  rows_same new now next same = subst (λ (l : List ℕ). NextRows p first past m work s old l) (sym same) next

-- ---- a turn

-- it comes beside the place of the first one's row, and the rows of the number before stay
pub turn : (p : Plan) (first past m : ℕ) (work : List ℕ) (from : ℕ) (s : Slots) (old mid new : List ℕ) (half slot size : ℕ) → Sound p → first < past →
    past ≤ 65536 → m < rows_in p (past - 1) → Halves p (past - 1 - first) s size → half ≡ half_with p (past - 1 - first) → slot ≡ s.now + (half - block_of p) →
    LastRow p first m work from mid slot → Apart old mid slot (slot + (half_of p - block_of p)) → NextRows p first past m work s mid new →
    AllRows p first past m work from s old new
turn p first past m work from s old mid new half slot size sound l few hm halves eh es row a next =
    record {
      is = λ f stands chain ready.
          next.is f
          (λ linked.
          subst (λ (q : ℕ). LastHeld p first (suc m) mid q (f (first - 1)))
          (let w : slot ≡ s.now + (past - first) * block_of p = omega (arith, half_linked p linked, one_nearer past first (block_of p) l) in w)
          (row.is (f (first - 1)) linked stands))
          chain
          record {
            is = λ d lo hi.
                let room = half_further p (past - 1 - d) (past - 1 - first) (omega arith) in
                ready_apart p d m old mid (s.was + (past - 1 - d) * block_of p) slot (slot + (half_of p - block_of p)) (f (d - 1)) (f d) sound (omega arith)
                (omega (arith, row_earlier p (past - 1) d m sound (omega arith) hm)) a
                (⊎_elim (λ w. inl (omega (arith, half_room p))) (λ w. inr (omega (arith, half_room p, half_most p))) halves.either) (ready.is d lo hi);
          };
      len = next.len ∙ a.len;
    }
