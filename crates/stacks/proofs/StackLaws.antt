-- The stack of states. A state's numbers lie within its size, and its keys below the keys' size, so that it stays as it is where only other places
-- change, and is made of the keys that stand in the work buffer. States lie one after the other, each of one size: a new one leaves those before it
-- as they are. It is made of the last, or of none where it is the first.
use Prim.Native.Nat.{ℕ, zero, suc, ◌+◌, ◌-◌, ◌*◌, ◌/◌, ◌≤◌, ◌<◌}
use mathlib.Core.Path.{◌≡◌, refl, sym, ap, ◌∙◌, subst}
use mathlib.Core.Bool.{true}
use mathlib.Core.Logic.{◌⊎◌, inl, inr, ⊎_elim}
use mathlib.Core.List.{List}
use native.Mathlib.Nat.{add-mul, mul-le-mul, le-div_iff_mul-le, div-mul-le_self}
use native.Mathlib.Omega.{arith}
use lib.ListN.{length, get_or, set, length-set}
use lib.Seq.{get_or-set_same, get_or-set_other}
use Rattle.basics.proofs.Numbers.{le_or_lt, rows_fit}
use Rattle.states.specs.Runs.{Apart}
use Rattle.plans.specs.Plans.{Sound, rows_in, row_hi, row_size, state_size, keys_size, block_of, half_of, half_with}
use Rattle.states.specs.States.{Grown, Chain, Holds, LastHolds, Advanced}
use Rattle.stacks.specs.Stacks.{KeysAre, Sequence, Stacked, RunOn, Pushed, Fetched, last_mark}
use Rattle.plans.specs.declared.plan.Plan.{Plan}
use Rattle.stacks.specs.declared.stack.Stack.{Stack}
use Rattle.plans.proofs.PlanSizes.{rows_few}
use Rattle.states.proofs.SizeLaws.{row_small, half_linked}
use Rattle.states.proofs.PlaneLaws.{apart_then, apart_wider}
use Rattle.states.proofs.StateLaws.{grown_keys}

-- ---- the places

-- where two states find room there are two places
pub two_places : (length size : ℕ) → 1 ≤ size → 2 * size ≤ length → 2 ≤ length / size
two_places length size h l = (le-div_iff_mul-le h).1 l

-- as many states as a number below the places find room, and one more
pub places_fit : (length size n : ℕ) → n < length / size → n * size + size ≤ length
places_fit length size n h = omega (arith, rows_fit n 1 (length / size) size (omega arith), div-mul-le_self length size)

-- ---- the rows held of several states

-- fewer states take no more
pub half_fewer : (p : Plan) (a b held : ℕ) → a ≤ b → half_with p b + half_with p b ≤ held → half_with p a + half_with p a ≤ held
half_fewer p a b held l h = omega (arith, rows_fit a 0 b (block_of p) (omega arith))

-- one state by itself
pub half_one : (p : Plan) (e held : ℕ) → half_of p + half_of p ≤ held → half_with p (e + 1 - 1 - e) + half_with p (e + 1 - 1 - e) ≤ held
half_one p e held h = half_fewer p (e + 1 - 1 - e) 0 held (omega arith) (omega arith)

-- as many as find room
pub half_many : (p : Plan) (held n : ℕ) → p.linked ≡ true → 1 ≤ n → n < held / 2 / block_of p → half_with p (n - 1) + half_with p (n - 1) ≤ held
half_many p held n linked some few =
    let room = places_fit (held / 2) (block_of p) n few in
    let again : (n - 1) * block_of p + block_of p ≡ n * block_of p =
    omega (arith, add-mul (n - 1) 1 (block_of p)) ∙ ap (λ (q : ℕ). q * block_of p) (let w : n - 1 + 1 ≡ n = omega arith in w) in
    omega (arith, half_linked p linked, div-mul-le_self held 2)

-- ---- the last mark

pub last_none : (marks : List ℕ) → last_mark marks 0 ≡ 0
unfolding last_mark
last_none marks = refl

pub last_of : (marks : List ℕ) (d : ℕ) → 1 ≤ d → last_mark marks d ≡ get_or marks (d - 1) 0
unfolding last_mark
last_of marks zero h = absurd (omega arith)
last_of marks (suc d) h = ap (λ (n : ℕ). get_or marks n 0) (let e : d ≡ suc d - 1 = omega arith in e)

pub last_pushed : (marks : List ℕ) (d m : ℕ) → d < length marks → last_mark (set marks d m) (d + 1) ≡ m
unfolding last_mark
last_pushed marks d m h = ap (last_mark (set marks d m)) (let e : d + 1 ≡ suc d = omega arith in e) ∙ get_or-set_same marks d m 0 h

pub some_state : (marks : List ℕ) (d : ℕ) → 1 ≤ last_mark marks d → 1 ≤ d
some_state marks zero h = absurd (omega (arith, last_none marks))
some_state marks (suc d) h = omega arith

-- ---- a state and the place of the one before, the same or one further back

pub from_fits : (from to z k n : ℕ) → k ≤ from → to + z ≤ n → (from ≡ to) ⊎ (from + z ≤ to) → (k ≤ to) × (from + z ≤ n)
from_fits from to z k n l h side = ⊎_elim (λ s. (omega arith, omega arith)) (λ s. (omega arith, omega arith)) side

pub from_clear : (from to z : ℕ) → (from ≡ to) ⊎ (from + z ≤ to) → (from ≡ to) ⊎ ((from + z ≤ to) ⊎ (to + z ≤ from))
from_clear from to z side = ⊎_elim (λ s. inl s) (λ s. inr (inl s)) side

-- the next place of a stack, and its last one
pub next_place : (base depth z : ℕ) → (base + (depth - 1) * z ≡ base + depth * z) ⊎ (base + (depth - 1) * z + z ≤ base + depth * z)
next_place base depth z = elim (le_or_lt 1 depth) [
  | inl h ↦ inr (omega (arith, rows_fit (depth - 1) 1 depth z (omega arith)))
  | inr h ↦ inl (ap (λ (n : ℕ). base + n * z) (let e : depth - 1 ≡ depth = omega arith in e))
]

pub place_fits : (depth places z base n : ℕ) → depth < places → base + places * z ≤ n → base + depth * z + z ≤ n
place_fits depth places z base n l h = omega (arith, rows_fit depth 1 places z (omega arith))

-- ---- the sizes of a plan

-- no product wraps
pub row_below : (p : Plan) → Sound p → row_size p ≤ 9216
row_below p s = row_small p.planes p.across s.few_planes s.few_across

pub state_below : (p : Plan) → Sound p → state_size p ≤ 9437184
state_below p s = mul-le-mul {n₁ = p.rows} {m₁ = row_size p} {n₂ = 1024} {m₂ = 9216} s.few_rows (row_below p s)

pub states_below : (p : Plan) (n : ℕ) → Sound p → n ≤ 64 → n * state_size p ≤ 603979776
states_below p n s h = mul-le-mul {n₁ = n} {m₁ = state_size p} {n₂ = 64} {m₂ = 9437184} h (state_below p s)

-- how far a run of states from first has come: nothing is made yet, or the states below e are, the last of them at `to`; the one before e stands at
-- `before`
abbrev pub Running : (p : Plan) (first e : ℕ) (old new : List ℕ) (from to before : ℕ) → Type 0
Running p first e old new from to before =
    ((e ≡ first) × (new ≡ old) × (before ≡ from)) ⊎ ((before ≡ to) × RunOn p first e old new from to)

-- a stack on the way to the one whose last state is the wanted one
pub record Fetching (p : Plan) (s : Stack) (depth want : ℕ) (old marks new marks' : List ℕ) : Type 0 where
  pub is : (keys : ℕ → ℕ) (f : ℕ → ℕ → ℕ → ℕ → ℕ) → KeysAre old p keys → Sequence p keys want f → Stacked old marks s.base p f s.depth →
      Stacked new marks' s.base p f depth
  pub apart : Apart old new s.base (s.base + s.places * state_size p)
  pub len : length marks' ≡ length marks

-- ---- a state by its numbers and by its keys

module _ (p : Plan) (sound : Sound p) where
  abbrev z : ℕ
  z = state_size p

  pub cell_within : (e m j x : ℕ) → e < 65536 → m < rows_in p e → j < p.planes → x < row_hi p e m → m * row_size p + (j * p.across + x) < state_size p
  cell_within e m j x l hm hj hx =
      omega (
        arith,
        (sound.fits e m hm l).wide,
        rows_few p e,
        rows_fit j 1 p.planes p.across (omega arith),
        rows_fit m 1 p.rows (row_size p) (omega (arith, rows_few p e)),
      )

  pub holds_same : (old new : List ℕ) (at e : ℕ) (f : ℕ → ℕ → ℕ → ℕ) → e < 65536 → ((i : ℕ) → i < z → get_or new (at + i) 0 ≡ get_or old (at + i) 0) →
      Holds old at p e f → Holds new at p e f
  holds_same old new at e f l same h =
      record { is = λ m j x hm hj lo hi. same (m * row_size p + (j * p.across + x)) (cell_within e m j x l hm hj hi) ∙ h.is m j x hm hj lo hi }

  -- other places change, those after it or those before it
  pub holds_apart : (old new : List ℕ) (at e lo hi : ℕ) (f : ℕ → ℕ → ℕ → ℕ) → e < 65536 → Apart old new lo hi → (at + z ≤ lo) ⊎ (hi ≤ at) →
      Holds old at p e f → Holds new at p e f
  holds_apart old new at e lo hi f l a side h =
      holds_same old new at e f l
      (λ i k. ⊎_elim (λ s. a.under (at + i) (omega arith)) (λ s. a.over (at + i) (omega arith)) side) h

  -- the state just made is the last one of the next
  pub last_made : (work : List ℕ) (at e : ℕ) (f : ℕ → ℕ → ℕ → ℕ → ℕ) → Holds work at p e (f e) → LastHolds work at p (e + 1) (f (e + 1 - 1))
  last_made work at e f h =
      record {
        is = λ d k q.
            subst (λ (n : ℕ). Holds work at p d (f n)) (let w : d ≡ e + 1 - 1 = omega arith in w)
            (subst (λ (n : ℕ). Holds work at p n (f n)) (let w : e ≡ d = omega arith in w) h);
      }

  -- the next state of a sweep, by the keys in the work buffer
  pub grown_here : (work : List ℕ) (keys : ℕ → ℕ) (states e : ℕ) (f : ℕ → ℕ → ℕ → ℕ → ℕ) → e < 65536 → e < states → KeysAre work p keys →
      Sequence p keys states f → Grown p e (λ q. get_or work q 0) (f (e - 1)) (f e)
  grown_here work keys states e f l h k s = grown_keys p e keys (λ q. get_or work q 0) (f (e - 1)) (f e) sound l k.is (s.grown e h)

  -- the same of some states
  pub chain_here : (work : List ℕ) (keys : ℕ → ℕ) (states first past : ℕ) (f : ℕ → ℕ → ℕ → ℕ → ℕ) → past ≤ 65536 → past ≤ states → KeysAre work p keys →
      Sequence p keys states f → Chain p first past (λ q. get_or work q 0) f
  chain_here work keys states first past f few l k s =
      record { grown = λ e lo hi. grown_here work keys states e f (omega arith) (omega arith) k s }

  -- the last of them, where the one before stands
  pub made_all : (old new : List ℕ) (keys : ℕ → ℕ) (states first past from to : ℕ) (f : ℕ → ℕ → ℕ → ℕ → ℕ) → past ≤ 65536 → past ≤ states →
      Advanced p first past old new from to → KeysAre old p keys → Sequence p keys states f → LastHolds old from p first (f (first - 1)) →
      Holds new to p (past - 1) (f (past - 1))
  made_all old new keys states first past from to f few l a k s last = a.is f last (chain_here old keys states first past f few l k s)

  -- the state before the next one
  last_stands : (work : List ℕ) (at e : ℕ) (f : ℕ → ℕ → ℕ → ℕ → ℕ) → Holds work at p (e - 1) (f (e - 1)) → LastHolds work at p e (f (e - 1))
  last_stands work at e f h =
      record { is = λ d k q. subst (λ (n : ℕ). Holds work at p n (f (e - 1))) (let w : e - 1 ≡ d = omega arith in w) h }

  -- ---- a run of states

  pub keys_apart : (old new : List ℕ) (keys : ℕ → ℕ) (lo hi : ℕ) → Apart old new lo hi → keys_size p ≤ lo → KeysAre old p keys → KeysAre new p keys
  keys_apart old new keys lo hi a l k = record { is = λ q h. a.under q (omega arith) ∙ k.is q h }

  pub fewer : (keys : ℕ → ℕ) (states n : ℕ) (f : ℕ → ℕ → ℕ → ℕ → ℕ) → n ≤ states → Sequence p keys states f → Sequence p keys n f
  fewer keys states n f l s = record { grown = λ e h. s.grown e (omega arith) }

  -- the state that is made, where the last one stands
  pub made : (old new : List ℕ) (keys : ℕ → ℕ) (states e from to : ℕ) (f : ℕ → ℕ → ℕ → ℕ → ℕ) → e < 65536 → e < states →
      Advanced p e (e + 1) old new from to → KeysAre old p keys → Sequence p keys states f → LastHolds old from p e (f (e - 1)) → Holds new to p e (f e)
  made old new keys states e from to f l h a k s last =
      subst (λ (n : ℕ). Holds new to p n (f n)) (let w : e + 1 - 1 ≡ e = omega arith in w)
      (made_all old new keys states e (e + 1) from to f (omega arith) (omega arith) a k s last)

  run_first : (first n from to : ℕ) (old new : List ℕ) → n ≤ 65536 → Advanced p first n old new from to → RunOn p first n old new from to
  run_first first n from to old new l a =
      record { is = λ keys f k s last. made_all old new keys n first n from to f l (omega arith) a k s last; apart = a.apart }

  run_next : (first e n from to : ℕ) (old mid new : List ℕ) → e ≤ n → n ≤ 65536 → keys_size p ≤ to → RunOn p first e old mid from to →
      Advanced p e n mid new to to → RunOn p first n old new from to
  run_next first e n from to old mid new o l clear r a =
      record {
        is = λ keys f k s h.
            let before = r.is keys f k (fewer keys n e f (omega arith) s) h in
            made_all mid new keys n e n to to f l (omega arith) a (keys_apart old mid keys to (to + z) r.apart clear k) s (last_stands mid to e f before);
        apart = apart_then old mid new to (to + z) r.apart a.apart;
      }

  -- the next states of a run, of the one before them
  pub run_more : (first e n from to before : ℕ) (old mid new : List ℕ) → e ≤ n → n ≤ 65536 → keys_size p ≤ to →
      Running p first e old mid from to before → Advanced p e n mid new before to → RunOn p first n old new from to
  run_more first e n from to before old mid new o l clear r a =
      ⊎_elim (λ s. run_first first n from to old new l (rw (s.0, s.1, s.2) at a))
      (λ s. run_next first e n from to old mid new o l clear s.1 (rw s.0 at a)) r

  -- ---- the stack

  -- places after the stack's change
  pub stacked_apart : (old new marks : List ℕ) (base depth lo hi : ℕ) (f : ℕ → ℕ → ℕ → ℕ → ℕ) → Apart old new lo hi → base + depth * z ≤ lo →
      Stacked old marks base p f depth → Stacked new marks base p f depth
  stacked_apart old new marks base depth lo hi f a l h =
      record {
        marked = h.marked;
        few = h.few;
        holds = λ t k.
            holds_apart old new (base + t * z) (get_or marks t 0 - 1) lo hi (f (get_or marks t 0 - 1)) (omega (arith, h.few t k)) a
            (inl (omega (arith, rows_fit t 1 depth z (omega arith)))) (h.holds t k);
      }

  -- the last state of the stack is the one before that of the last mark
  pub top_holds : (work marks : List ℕ) (base depth m from : ℕ) (f : ℕ → ℕ → ℕ → ℕ → ℕ) → Stacked work marks base p f depth → m ≡ last_mark marks depth →
      from ≡ base + (depth - 1) * z → LastHolds work from p m (f (m - 1))
  top_holds work marks base depth m from f h is_m is_from =
      record {
        is = λ d k q.
            let some = some_state marks depth (omega arith) in
            let mark : get_or marks (depth - 1) 0 - 1 ≡ d = omega (arith, last_of marks depth some) in
            let here = h.holds (depth - 1) (omega arith) in
            subst (λ (n : ℕ). Holds work n p d (f (m - 1))) (sym is_from)
            (subst (λ (n : ℕ). Holds work (base + (depth - 1) * z) p d (f n)) (let w : d ≡ m - 1 = omega arith in w)
            (subst (λ (n : ℕ). Holds work (base + (depth - 1) * z) p n (f n)) mark here));
      }

  -- one state more
  pub stacked_more : (old new marks : List ℕ) (base d m : ℕ) (f : ℕ → ℕ → ℕ → ℕ → ℕ) → d < length marks → 1 ≤ m → m ≤ 1024 →
      Stacked old marks base p f d → Apart old new (base + d * z) (base + d * z + z) → Holds new (base + d * z) p (m - 1) (f (m - 1)) →
      Stacked new (set marks d m) base p f (d + 1)
  stacked_more old new marks base d m f l some few stack a h =
      let kept = stacked_apart old new marks base d (base + d * z) (base + d * z + z) f a (omega arith) stack in
      let P : ℕ → ℕ → Type 0 = λ t n. (1 ≤ n) × (n ≤ 1024) × Holds new (base + t * z) p (n - 1) (f (n - 1)) in
      let each : (t : ℕ) → t < d + 1 → P t (get_or (set marks d m) t 0) =
      λ t k.
      elim (le_or_lt d t) [
        | inl e ↦ subst (λ (t : ℕ). P t (get_or (set marks d m) t 0)) (let q : d ≡ t = omega arith in q)
            (subst (λ (n : ℕ). P d n) (sym (get_or-set_same marks d m 0 l)) (some, few, h))
        | inr e ↦ subst (λ (n : ℕ). P t n) (sym (get_or-set_other marks d t m 0 (λ q. omega arith)))
            (kept.marked t e, kept.few t e, kept.holds t e)
      ] in
      record { marked = λ t k. (each t k).0; few = λ t k. (each t k).1; holds = λ t k. (each t k).2 }

  pub pushed : (old new marks : List ℕ) (base d m first from : ℕ) → d < length marks → first ≡ last_mark marks d → first < m →
      m ≤ 1024 → from ≡ base + (d - 1) * z → RunOn p first m old new from (base + d * z) → Pushed p base d m old marks new (set marks d m)
  pushed old new marks base d m first from l is-first o few is_from r =
      record {
        is = λ keys f k s stack.
            stacked_more old new marks base d m f l (omega arith) (omega arith) stack r.apart
            (r.is keys f k s (top_holds old marks base d first from f stack is-first is_from));
        apart = apart_wider old new _ _ _ _ r.apart (omega arith) (omega (arith, add-mul d 1 z));
        len = length-set marks d m;
      }

  -- ---- on the way to the wanted state

  pub fetch_more : (s : Stack) (d want next : ℕ) (old marks mid marks₁ new marks₂ : List ℕ) → d < s.places → next ≤ want → keys_size p ≤ s.base →
      Fetching p s d want old marks mid marks₁ → Pushed p s.base d next mid marks₁ new marks₂ → Fetching p s (d + 1) want old marks new marks₂
  fetch_more s d want next old marks mid marks₁ new marks₂ l w clear h r =
      record {
        is = λ keys f k q stack. r.is keys f (keys_apart old mid keys _ _ h.apart clear k) (fewer keys want next f w q) (h.is keys f k q stack);
        apart = apart_then old mid new _ _ h.apart
            (apart_wider mid new _ _ _ _ r.apart (omega arith) (omega (arith, rows_fit (d + 1) 0 s.places z (omega arith))));
        len = r.len ∙ h.len;
      }

  pub fetched : (s : Stack) (d want spare : ℕ) (old marks new marks' : List ℕ) → Fetching p s d want old marks new marks' → last_mark marks' d ≤ want →
      want ≤ last_mark marks' d + spare → Fetched p s d want spare old marks new marks'
  fetched s d want spare old marks new marks' h e n = record { is = h.is; not_past = e; near = n; apart = h.apart; len = h.len }
