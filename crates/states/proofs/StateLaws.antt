-- States row after row. What the held rows are after m rows is told for every state that the work buffer held when the first row was made: the keys
-- and the rows that are still to be read stand there all the time. The last state's rows are stored over the old ones, or joined with those of another.
use Prim.Native.Nat.{ℕ, suc, ◌+◌, ◌-◌, ◌*◌, ◌≤◌, ◌<◌, min, max}
use mathlib.Core.Path.{◌≡◌, refl, sym, ap, ◌∙◌, subst}
use mathlib.Core.Bool.{true}
use mathlib.Core.Logic.{◌⊎◌, inl, inr, ⊎_elim}
use mathlib.Core.List.{List}
use native.Mathlib.Nat.{add-mul}
use native.Mathlib.Omega.{arith}
use lib.ListN.{length, get_or}
use Rattle.basics.proofs.Numbers.{le_or_lt, rows_fit}
use Rattle.states.specs.Runs.{Between, Apart}
use Rattle.plans.specs.Plans.{Sound, rows_in, row_lo, row_hi, row_at, starts_at, seen_lo, seen_hi}
use Rattle.plans.specs.Plans.{row_size, state_size, keys_size, pitch_of, block_of, half_of, half_with}
use Rattle.states.specs.Rows.{gate, RowHeld, RowStored, RowJoined}
use Rattle.states.specs.States.{row_before, ahead, Grown, Chain, LastHolds, Advanced, StateJoined, OtherHolds, Joined}
use Rattle.states.specs.Holding.{Halves, LastFrom, AllReady, AllRows}
use Rattle.plans.specs.declared.plan.Plan.{Plan}
use Rattle.states.specs.declared.state.Slots.{Slots}
use Rattle.theory.specs.BestWalks.{alone}
use Rattle.plans.proofs.PlanSizes.{rows_few}
use Rattle.states.proofs.SizeLaws.{in_block, half_linked, half_room, half_further, row_within}
use Rattle.states.proofs.HoldingLaws.{held_by}

-- ---- what is read of the work buffer

-- a state is made of its keys
pub grown_keys : (p : Plan) (e : ℕ) (keys keys₁ : ℕ → ℕ) (last this : ℕ → ℕ → ℕ → ℕ) → Sound p → e < 65536 →
    ((q : ℕ) → q < keys_size p → keys₁ q ≡ keys q) → Grown p e keys last this → Grown p e keys₁ last this
grown_keys p e keys keys₁ last this sound he same g =
    record {
      first = λ m j x hm hj l k st. g.first m j x hm hj l k st ∙ ap (λ (v : ℕ). gate (starts_at p m x) (alone p.slack v j)) (sym (key m x hm k));
      later = λ m j x hm hj l k st. g.later m j x hm hj l k st
          ∙ ap (λ (v : ℕ). max (min v (ahead p e last this (suc j) m x)) (ahead p e last this j m x)) (sym (key m x hm k));
    }
  where
    key : (m x : ℕ) → m < rows_in p e → x < row_hi p e m → keys₁ (row_at p e m + x) ≡ keys (row_at p e m + x)
    key m x hm k = let fits = sound.fits e m hm he in same (row_at p e m + x) (omega (arith, fits.keyed, fits.wide))

pub chain_keys : (p : Plan) (first past : ℕ) (keys keys₁ : ℕ → ℕ) (f : ℕ → ℕ → ℕ → ℕ → ℕ) → Sound p → past ≤ 65536 →
    ((q : ℕ) → q < keys_size p → keys₁ q ≡ keys q) → Chain p first past keys f → Chain p first past keys₁ f
chain_keys p first past keys keys₁ f sound few same c =
    record { grown = λ e l h. grown_keys p e keys keys₁ (f (e - 1)) (f e) sound (omega arith) same (c.grown e l h) }

-- the keys stand as they did, and so do the rows from m on of the state at `from`
pub record Kept (p : Plan) (m : ℕ) (old work : List ℕ) (from : ℕ) : Type 0 where
  pub keys : (q : ℕ) → q < keys_size p → get_or work q 0 ≡ get_or old q 0
  pub rows : (i : ℕ) → m * row_size p ≤ i → i < state_size p → get_or work (from + i) 0 ≡ get_or old (from + i) 0

pub kept_all : (p : Plan) (m : ℕ) (work : List ℕ) (from : ℕ) → Kept p m work work from
kept_all p m work from = record { keys = λ q h. refl; rows = λ i l h. refl }

-- where only the rows before m of the state at `to` have changed
pub kept_apart : (p : Plan) (m : ℕ) (old work : List ℕ) (from to : ℕ) → keys_size p ≤ to →
    ((from ≡ to) ⊎ ((from + state_size p ≤ to) ⊎ (to + state_size p ≤ from))) → Apart old work to (to + m * row_size p) → Kept p m old work from
kept_apart p m old work from to hk places a =
    record {
      keys = λ q h. a.under q (omega arith);
      rows = λ i l h.
          ⊎_elim
          (λ w. a.over (from + i) (omega arith))
          (⊎_elim (λ w. a.under (from + i) (omega arith)) (λ w. a.over (from + i) (omega arith)))
          places;
    }

last_stands : (p : Plan) (e m : ℕ) (old work : List ℕ) (from : ℕ) (last : ℕ → ℕ → ℕ → ℕ) → Sound p → e < 65536 → Kept p m old work from →
    LastHolds old from p e last → LastFrom p e m work from last
last_stands p e m old work from last sound he kept h =
    record {
      is = λ d linked ed n j x mn hn hj l k.
          let in_row = in_block j p.planes p.across x hj (omega (arith, (sound.fits d n hn (omega arith)).wide)) in
          kept.rows (n * row_size p + (j * p.across + x)) (omega (arith, rows_fit 0 m n (row_size p) (omega arith))) (omega (arith, row_within p d n hn))
          ∙ (h.is d linked ed).is n j x hn hj l k;
    }

-- ---- the held rows

-- the work buffer holds the state before some states, which are made of it and of the keys there
pub record Given (p : Plan) (first past : ℕ) (work : List ℕ) (from : ℕ) (f : ℕ → ℕ → ℕ → ℕ → ℕ) : Type 0 where
  pub last : LastHolds work from p first (f (first - 1))
  pub chain : Chain p first past (λ q. get_or work q 0) f

-- rows m − 1 of all states are held in a half, whatever states they are
pub record Making (p : Plan) (first past m : ℕ) (work : List ℕ) (from : ℕ) (held : List ℕ) (half : ℕ) : Type 0 where
  pub is : (f : ℕ → ℕ → ℕ → ℕ → ℕ) → Given p first past work from f → AllReady p first past m held half f

-- before row 0 all is zeros
pub making_none : (p : Plan) (first past : ℕ) (work : List ℕ) (from : ℕ) (old held : List ℕ) (half : ℕ) → Between (λ (k : ℕ). 0) old held 0 half →
    half ≡ half_with p (past - 1 - first) → Making p first past 0 work from held 0
unfolding row_before seen_lo seen_hi
making_none p first past work from old held half b eh =
    record {
      is = λ f g.
          record {
            is = λ d l h.
                let o = (past - 1 - d) * block_of p in
                let room = half_further p (past - 1 - d) (past - 1 - first) (omega arith) in
                record {
                  own = λ j X hj l k.
                      let in-it = in_block j p.planes (pitch_of p) X hj (omega arith) in
                      b.inside (0 + o + (j * pitch_of p + X)) (omega arith) (omega (arith, half_room p));
                  other = λ linked.
                      record {
                        none = λ z j X hj k. beside linked o room j X hj k;
                        some = λ d ed j X hj l k. beside linked o room j X hj k;
                      };
                };
          };
    }
  where
    beside : p.linked ≡ true → (o : ℕ) → o + half_of p ≤ half_with p (past - 1 - first) → (j X : ℕ) → j < p.planes → X ≤ p.across + 1 →
        get_or held (0 + o + block_of p + (j * pitch_of p + X)) 0 ≡ 0
    beside linked o room j X hj k =
        let in-it = in_block j p.planes (pitch_of p) X hj (omega arith) in
        b.inside (0 + o + block_of p + (j * pitch_of p + X)) (omega arith) (omega (arith, half_linked p linked))

-- one row more
pub making_more : (p : Plan) (first past m : ℕ) (old work : List ℕ) (from : ℕ) (s : Slots) (held new : List ℕ) → Sound p → first < past → past ≤ 65536 →
    Kept p m old work from → Making p first past m old from held s.was → AllRows p first past m work from s held new →
    Making p first past (suc m) old from new s.now
making_more p first past m old work from s held new sound l few kept making next =
    record {
      is = λ f g.
          next.is f (last_stands p first m old work from (f (first - 1)) sound (omega arith) kept g.last)
          (chain_keys p first past (λ q. get_or old q 0) (λ q. get_or work q 0) f sound few kept.keys g.chain)
          (making.is f g);
    }

-- the last state's row that has been made
pub made_row : (p : Plan) (first past m : ℕ) (work : List ℕ) (from : ℕ) (held : List ℕ) (half lo hi : ℕ) (f : ℕ → ℕ → ℕ → ℕ → ℕ) → first < past →
    Making p first past (suc m) work from held half → lo ≡ row_lo p (past - 1) m → hi ≡ row_hi p (past - 1) m →
    Given p first past work from f → RowHeld held half p.planes (pitch_of p) lo hi (f (past - 1) m)
unfolding row_before seen_lo seen_hi
made_row p first past m work from held half lo hi f l making el eh g =
    let here : half + (past - 1 - (past - 1)) * block_of p ≡ half =
    ap (λ (q : ℕ). half + q * block_of p) (let w : past - 1 - (past - 1) ≡ 0 = omega arith in w) ∙ omega arith in
    held_by held half p.planes (pitch_of p) (row_lo p (past - 1) m) (row_hi p (past - 1) m) lo hi (f (past - 1) m) (f (past - 1) m)
    (subst (λ (q : ℕ). RowHeld held q p.planes (pitch_of p) (row_lo p (past - 1) m) (row_hi p (past - 1) m) (f (past - 1) m)) here
    record { is = λ j X hj l₁ k. ((making.is f g).is (past - 1) (omega arith) (omega arith)).own j X hj l₁ k })
    (sym el) (sym eh) (λ j x hj l₁ k. refl)

-- the halves in their first order
pub halves_first : (p : Plan) (more : ℕ) (s : Slots) (size size₁ : ℕ) → s.was ≡ 0 → s.now ≡ half_with p more → half_with p more + half_with p more ≤ size →
    size ≤ 40000 → size₁ ≡ size → Halves p more s size₁
halves_first p more s size size₁ ew en fits small es = record { either = inl (ew, en); fits = omega arith; small = omega arith }

pub halves_same : (p : Plan) (more : ℕ) (s : Slots) (size size₁ : ℕ) → Halves p more s size → size₁ ≡ size → Halves p more s size₁
halves_same p more s size size₁ h es = subst (λ (n : ℕ). Halves p more s n) (sym es) h

-- they change their parts
pub halves_swapped : (p : Plan) (more : ℕ) (s t : Slots) (size size₁ : ℕ) → Halves p more s size → t.was ≡ s.now → t.now ≡ s.was → size₁ ≡ size →
    Halves p more t size₁
halves_swapped p more s t size size₁ h ew en es =
    record {
      either = ⊎_elim (λ w. inr (omega arith)) (λ w. inl (omega arith)) h.either;
      fits = omega (arith, h.fits);
      small = omega (arith, h.small);
    }

pub making_swapped : (p : Plan) (first past m n : ℕ) (work : List ℕ) (from : ℕ) (held : List ℕ) (half half₁ : ℕ) →
    Making p first past (suc m) work from held half → n ≡ m + 1 → half₁ ≡ half → Making p first past n work from held half₁
making_swapped p first past m n work from held half half₁ h en eh =
    subst (λ (q : ℕ). Making p first past q work from held half₁) (let e₁ : suc m ≡ n = omega arith in e₁)
    (subst (λ (q : ℕ). Making p first past (suc m) work from held q) (sym eh) h)

-- ---- rows stored

-- the rows before m of the last state stand at `to`, and nothing else has changed
pub record Stored (p : Plan) (first past m : ℕ) (old : List ℕ) (from : ℕ) (work : List ℕ) (to : ℕ) : Type 0 where
  pub is : (f : ℕ → ℕ → ℕ → ℕ → ℕ) → Given p first past old from f →
      (n j x : ℕ) → n < m → j < p.planes → row_lo p (past - 1) n ≤ x → x < row_hi p (past - 1) n →
      get_or work (to + (n * row_size p + (j * p.across + x))) 0 ≡ f (past - 1) n j x
  pub apart : Apart old work to (to + m * row_size p)

pub stored_none : (p : Plan) (first past : ℕ) (old : List ℕ) (from to : ℕ) → Stored p first past 0 old from old to
stored_none p first past old from to =
    record {
      is = λ f g n j x hn. absurd (omega arith);
      apart = record { under = λ k h. refl; over = λ k h. refl; len = refl };
    }

pub stored_more : (p : Plan) (first past m n : ℕ) (old : List ℕ) (from : ℕ) (work new : List ℕ) (to at : ℕ) (held : List ℕ) (slot lo hi : ℕ) →
    Sound p → first < past → past ≤ 65536 → m < rows_in p (past - 1) → n ≡ m + 1 → at ≡ to + m * row_size p →
    lo ≡ row_lo p (past - 1) m → hi ≡ row_hi p (past - 1) m →
    Stored p first past m old from work to → Making p first past (suc m) old from held slot →
    ((f : ℕ → ℕ → ℕ) → RowHeld held slot p.planes (pitch_of p) lo hi f → RowStored new at p.planes p.across lo hi f) →
    Apart work new at (at + row_size p) → Stored p first past n old from new to
stored_more p first past m n old from work new to at held slot lo hi sound first-in few hm en ea el eh stored making put a =
    let e = past - 1 in
    let more : n * row_size p ≡ m * row_size p + row_size p = ap (λ (q : ℕ). q * row_size p) en ∙ omega (arith, add-mul m 1 (row_size p)) in
    record {
      is = λ f g r j x hr hj l k.
          elim (le_or_lt m r) [
            | inr b ↦
                let in_row = in_block j p.planes p.across x hj (omega (arith, (sound.fits e r (omega arith) (omega arith)).wide)) in
                a.under (to + (r * row_size p + (j * p.across + x))) (omega (arith, rows_fit r 1 m (row_size p) (omega arith)))
                ∙ stored.is f g r j x b hj l k
            | inl b ↦
                let er : r ≡ m = omega arith in
                let placed = ap (λ (q : ℕ). q * row_size p) er in
                ap (λ (q : ℕ). get_or new q 0) (omega arith)
                ∙ (put (f e m) (made_row p first past m old from held slot lo hi f first-in making el eh g)).is j x hj
                (omega (arith, ap (row_lo p e) er)) (omega (arith, ap (row_hi p e) er))
                ∙ ap (λ (q : ℕ). f e q j x) (sym er)
          ];
      apart =
          record {
            under = λ k h. a.under k (omega arith) ∙ stored.apart.under k h;
            over = λ k h. a.over k (omega arith) ∙ stored.apart.over k (omega arith);
            len = a.len ∙ stored.apart.len;
          };
    }

pub stored_all : (p : Plan) (first past m : ℕ) (old : List ℕ) (from : ℕ) (work : List ℕ) (to : ℕ) → Stored p first past m old from work to →
    m ≡ rows_in p (past - 1) → Advanced p first past old work from to
stored_all p first past m old from work to s em =
    let room = rows_fit 0 m p.rows (row_size p) (omega (arith, rows_few p (past - 1))) in
    record {
      is = λ f last chain. record { is = λ n j x hn hj l k. s.is f (record { last = last; chain = chain }) n j x (omega arith) hj l k };
      apart = record { under = s.apart.under; over = λ k h. s.apart.over k (omega arith); len = s.apart.len };
    }

-- ---- rows joined

joined_none : (p : Plan) (e : ℕ) (old : List ℕ) (this other : ℕ → ℕ → ℕ → ℕ) → StateJoined p e old old this other 0
joined_none p e old this other =
    record {
      grown = λ q. omega arith;
      reached = λ m j x hm. absurd (omega arith);
      bounded = λ b h q. omega arith;
      len = refl;
    }

joined_more : (p : Plan) (e m n : ℕ) (old mid new : List ℕ) (at lo hi : ℕ) (this other : ℕ → ℕ → ℕ → ℕ) → n ≡ m + 1 →
    at ≡ row_at p e m → lo ≡ row_lo p e m → hi ≡ row_hi p e m → StateJoined p e old mid this other m →
    RowJoined mid new at p.planes lo hi (this m) (other (p.rows - 1 - m)) → StateJoined p e old new this other n
joined_more p e m n old mid new at lo hi this other en ea el eh s r =
    record {
      grown = λ q. omega (arith, s.grown q, r.grown q);
      reached = λ k j x hk hj l u.
          elim (le_or_lt m k) [
            | inr b ↦ omega (arith, s.reached k j x b hj l u, r.grown (row_at p e k + x))
            | inl b ↦
                let ek : m ≡ k = omega arith in
                subst (λ (i : ℕ). min (this i j x) (other (p.rows - 1 - i) (p.planes - 1 - j) x) ≤ get_or new (row_at p e i + x) 0) ek
                (subst (λ (i : ℕ). min (this m j x) (other (p.rows - 1 - m) (p.planes - 1 - j) x) ≤ get_or new (i + x) 0) ea
                (r.reached j x hj (omega (arith, ap (row_lo p e) ek)) (omega (arith, ap (row_hi p e) ek))))
          ];
      bounded = λ b h q.
          omega (
            arith,
            s.bounded b (λ k j x hk. h k j x (omega arith)) q,
            r.bounded b (λ j x hj l u. subst (λ (i : ℕ). min (this m j x) (other (p.rows - 1 - m) (p.planes - 1 - j) x) ≤ b (i + x)) (sym ea)
                (h m j x (omega arith) hj (omega arith) (omega arith))) q,
          );
      len = r.len ∙ s.len;
    }

-- the rows before m of the last state have been joined with those of the state at `ends`
pub record Joining (p : Plan) (first past m : ℕ) (work : List ℕ) (from ends : ℕ) (old new : List ℕ) : Type 0 where
  pub is : (f : ℕ → ℕ → ℕ → ℕ → ℕ) (other : ℕ → ℕ → ℕ → ℕ) → Given p first past work from f →
      OtherHolds work ends p (past - 1) other → StateJoined p (past - 1) old new (f (past - 1)) other m
  pub len : length new ≡ length old

pub joining_none : (p : Plan) (first past : ℕ) (work : List ℕ) (from ends : ℕ) (old : List ℕ) → Joining p first past 0 work from ends old old
joining_none p first past work from ends old = record { is = λ f other g oh. joined_none p (past - 1) old (f (past - 1)) other; len = refl }

pub joining_more : (p : Plan) (first past m n : ℕ) (work : List ℕ) (from ends : ℕ) (old mid new held : List ℕ) (slot place at lo hi : ℕ) →
    first < past → m < p.rows → n ≡ m + 1 → place ≡ ends + (p.rows - n) * row_size p →
    at ≡ row_at p (past - 1) m → lo ≡ row_lo p (past - 1) m → hi ≡ row_hi p (past - 1) m →
    Joining p first past m work from ends old mid → Making p first past (suc m) work from held slot →
    ((f g : ℕ → ℕ → ℕ) → RowHeld held slot p.planes (pitch_of p) lo hi f → RowStored work place p.planes p.across lo hi g →
    RowJoined mid new at p.planes lo hi f g) →
    length new ≡ length mid → Joining p first past n work from ends old new
joining_more p first past m n work from ends old mid new held slot place at lo hi first-in hm en ep ea el eh joining making put len =
    let row : p.rows - n ≡ p.rows - 1 - m = omega arith in
    let placed = ap (λ (q : ℕ). q * row_size p) row in
    record {
      is = λ f other g oh.
          joined_more p (past - 1) m n old mid new at lo hi (f (past - 1)) other en ea el eh (joining.is f other g oh)
          (put (f (past - 1) m) (other (p.rows - 1 - m)) (made_row p first past m work from held slot lo hi f first-in making el eh g)
          record {
            is = λ j x hj l k. ap (λ (q : ℕ). get_or work q 0) (omega arith) ∙ oh.is m j x hm hj (omega arith) (omega arith);
          });
      len = len ∙ joining.len;
    }

pub joining_all : (p : Plan) (first past m : ℕ) (work : List ℕ) (from ends : ℕ) (old new : List ℕ) → Joining p first past m work from ends old new →
    m ≡ p.rows → Joined p first past work old new from ends
joining_all p first past m work from ends old new j em =
    record {
      is = λ f other last chain oh.
          subst (λ (q : ℕ). StateJoined p (past - 1) old new (f (past - 1)) other q) em (j.is f other (record { last = last; chain = chain }) oh);
    }
