-- All states of both sides, joined. At each turn the other side's next state is made at `ends`, this side's state that meets it is made of the one
-- before it, and the two are joined, so that the states from some number on are joined, and after the last turn all of them. A maximum that has risen
-- to one state more is not below what meets there, and not above what bounds it and all that met before.
use Prim.Native.Nat.{ℕ, ◌+◌, ◌-◌, ◌*◌, ◌≤◌, ◌<◌}
use mathlib.Core.Path.{◌≡◌, refl, sym, ap, ◌∙◌, subst}
use mathlib.Core.Bool.{false}
use mathlib.Core.Logic.{inl, inr}
use mathlib.Core.List.{List}
use native.Mathlib.Nat.{mul-le-mul}
use native.Mathlib.Omega.{arith}
use lib.ListN.{get_or}
use Rattle.basics.proofs.Numbers.{le_or_lt, rows_fit}
use Rattle.states.specs.Runs.{Apart}
use Rattle.plans.specs.Plans.{Sound, rows_in, row_lo, row_hi, row_at, row_size, state_size, keys_size, half_of}
use Rattle.states.specs.States.{Holds, LastHolds, OtherHolds, Advanced, Joined, StateJoined}
use Rattle.stacks.specs.Stacks.{KeysAre, Sequence, Stacked, StackFits, Fetched, last_mark}
use Rattle.sweeps.specs.Sweeps.{Opposite, AllJoined, Swept, met}
use Rattle.plans.specs.declared.plan.Plan.{Plan}
use Rattle.stacks.specs.declared.stack.Stack.{Stack}
use Rattle.stacks.proofs.StackLaws.{holds_apart, last_made, chain_here, fewer, made, stacked_apart, top_holds}

-- ---- sizes: a state has some, and those of the two plans are the same

pub some_size : (p : Plan) → Sound p → 1 ≤ state_size p
some_size p s =
    let row : 1 * 1 ≤ p.planes * p.across = mul-le-mul s.some_planes s.some_across in
    let all : 1 * 1 ≤ p.rows * row_size p = mul-le-mul s.some_rows (let e : 1 ≤ row_size p = omega arith in e) in omega arith

module _ (p o : Plan) (states : ℕ) (opposite : Opposite p o states) where
  pub same_keys : keys_size o ≡ keys_size p
  same_keys = rw (opposite.same_lines, opposite.same_across) refl

  pub same_row : row_size o ≡ row_size p
  same_row = rw (opposite.same_planes, opposite.same_across) refl

  pub same_size : state_size o ≡ state_size p
  same_size = rw (opposite.same_rows, opposite.same_planes, opposite.same_across) refl

  pub same_half : half_of o ≡ half_of p
  unfolding half_of
  same_half = rw (opposite.same_links, opposite.same_planes, opposite.same_across) refl

  -- the last of the states below d + 1 has all rows
  pub full_last : (d : ℕ) → d < states → rows_in p (d + 1 - 1) ≡ p.rows
  full_last d l = ap (rows_in p) (let w : d + 1 - 1 ≡ d = omega arith in w) ∙ opposite.full d l

-- ---- one state more is joined

pub joined_none : (p : Plan) (states : ℕ) (f g : ℕ → ℕ → ℕ → ℕ → ℕ) (best : List ℕ) → AllJoined p states states f g best best
joined_none p states f g best =
    record {
      grown = λ q. omega arith;
      reached = λ e m j x a b. absurd (omega arith);
      bounded = λ b h q. omega arith;
      len = refl;
    }

pub joined_more : (p : Plan) (states d : ℕ) (f g : ℕ → ℕ → ℕ → ℕ → ℕ) (old mid new : List ℕ) → d < states → AllJoined p states (d + 1) f g old mid →
    StateJoined p d mid new (f d) (g (states - 1 - d)) p.rows → AllJoined p states d f g old new
joined_more p states d f g old mid new l a s =
    record {
      grown = λ q. omega (arith, a.grown q, s.grown q);
      reached = λ e m j x from to hm hj lo hi.
          elim (le_or_lt (d + 1) e) [
            | inl k ↦ omega (arith, a.reached e m j x k to hm hj lo hi, s.grown (row_at p e m + x))
            | inr k ↦
                let same : d ≡ e = omega arith in
                subst (λ (n : ℕ). row_lo p n m ≤ x → x < row_hi p n m → met p states f g n m j x ≤ get_or new (row_at p n m + x) 0) same
                (s.reached m j x hm hj) lo hi
          ];
      bounded = λ b h q.
          omega (
            arith,
            a.bounded b (λ e m j x from to. h e m j x (omega arith) to) q,
            s.bounded b (λ m j x hm hj lo hi. h d m j x (omega arith) l hm hj lo hi) q,
          );
      len = s.len ∙ a.len;
    }

-- ---- the sweep after e turns

pub record SweptTo (p o : Plan) (states e : ℕ) (work₀ best₀ work best : List ℕ) (ends : ℕ) : Type 0 where
  pub keys : (q : ℕ) → q < keys_size p → get_or work q 0 ≡ get_or work₀ q 0
  pub is : (keys : ℕ → ℕ) (f g : ℕ → ℕ → ℕ → ℕ → ℕ) → KeysAre work₀ p keys → Sequence p keys states f → Sequence o keys states g →
      AllJoined p states (states - e) f g best₀ best × LastHolds work ends o e (g (e - 1))

pub swept_none : (p o : Plan) (states ends : ℕ) (work best : List ℕ) → SweptTo p o states 0 work best work best ends
swept_none p o states ends work best =
    record {
      keys = λ q h. refl;
      is = λ keys f g k s t. (
        subst (λ (n : ℕ). AllJoined p states n f g best best) (let w : states ≡ states - 0 = omega arith in w) (joined_none p states f g best),
        record { is = λ d l e. absurd (omega arith) },
      );
    }

pub swept_all : (p o : Plan) (states e ends : ℕ) (work₀ best₀ work best : List ℕ) → states ≤ e → SweptTo p o states e work₀ best₀ work best ends →
    Swept p o states work₀ best₀ best
swept_all p o states e ends work₀ best₀ work best l s =
    record {
      is = λ keys f g k u v. subst (λ (n : ℕ). AllJoined p states n f g best₀ best) (let w : states - e ≡ 0 = omega arith in w) (s.is keys f g k u v).0;
    }

-- the stack of this side's states
pub record StackKept (p : Plan) (states : ℕ) (work₀ work marks : List ℕ) (base depth : ℕ) : Type 0 where
  pub is : (keys : ℕ → ℕ) (f : ℕ → ℕ → ℕ → ℕ → ℕ) → KeysAre work₀ p keys → Sequence p keys states f → Stacked work marks base p f depth

pub stack_none : (p : Plan) (states : ℕ) (work₀ work marks : List ℕ) (base : ℕ) → StackKept p states work₀ work marks base 0
stack_none p states work₀ work marks base =
    record {
      is = λ keys f k s.
          record { marked = λ t h. absurd (omega arith); few = λ t h. absurd (omega arith); holds = λ t h. absurd (omega arith) };
    }

-- where the stack stands, and its sizes
pub record StackAt (p : Plan) (places : ℕ) (k : Stack) : Type 0 where
  pub is_base : k.base ≡ keys_size p
  pub is_places : k.places ≡ places
  pub deep : k.depth ≤ places

module _ (p : Plan) (sound : Sound p) (places n : ℕ) (k : Stack) (some : 1 ≤ places) (few : places ≤ 64)
    (fits : keys_size p + places * state_size p + state_size p ≤ n) (at : StackAt p places k) where
  pub stack_fits_lem : StackFits p k n 64
  stack_fits_lem =
      record {
        past_keys = omega (arith, at.is_base);
        near = omega (arith, at.is_base, sound.few_pixels);
        some = omega (arith, at.is_places);
        few = omega (arith, at.is_places);
        deep = omega (arith, at.is_places, at.deep);
        in_work = omega (arith, at.is_base, rows_fit k.places 0 places (state_size p) (omega (arith, at.is_places)));
        in_marks = omega (arith, at.is_places);
      }

  pub top_fits : (from : ℕ) → from ≡ k.base + (k.depth - 1) * state_size p → (keys_size p ≤ from) × (from + state_size p ≤ n)
  top_fits from e = (
    omega (arith, at.is_base),
    omega (arith, at.is_base, rows_fit (k.depth - 1) 0 places (state_size p) (omega (arith, at.deep))),
  )

-- ---- one turn

-- what is known where this side's state is made: the last one of it stands at `from`
pub record LastAt (p : Plan) (states d : ℕ) (work₀ work : List ℕ) (from : ℕ) : Type 0 where
  pub is : (keys : ℕ → ℕ) (f : ℕ → ℕ → ℕ → ℕ → ℕ) → KeysAre work₀ p keys → Sequence p keys states f → LastHolds work from p d (f (d - 1))

-- where states are not linked there is nothing to know
pub unlinked : (p : Plan) (states d : ℕ) (work₀ work : List ℕ) (from : ℕ) → p.linked ≡ false → LastAt p states d work₀ work from
unlinked p states d work₀ work from e =
    record { is = λ keys f k s. record { is = λ n t q. absurd (let z : ◌≡◌ {A = ℕ} 0 1 = cc in omega arith) } }

module _ (p o : Plan) (states : ℕ) (sound : Sound p) (sound' : Sound o) (opposite : Opposite p o states) where
  -- the keys of this side are those of the other
  keys_other : (work : List ℕ) (keys : ℕ → ℕ) → KeysAre work p keys → KeysAre work o keys
  keys_other work keys k = record { is = λ q h. k.is q (omega (arith, same_keys p o states opposite)) }

  keys_then : (work₀ work : List ℕ) (keys : ℕ → ℕ) → ((q : ℕ) → q < keys_size p → get_or work q 0 ≡ get_or work₀ q 0) → KeysAre work₀ p keys → KeysAre work p keys
  keys_then work₀ work keys same k = record { is = λ q h. same q h ∙ k.is q h }

  -- the other side's state, by the pixels of this side's
  other_holds : (work : List ℕ) (ends d e : ℕ) (g : ℕ → ℕ → ℕ → ℕ → ℕ) → e < states → d ≡ states - 1 - e → Holds work ends o e (g e) →
      OtherHolds work ends p d (g (states - 1 - d))
  other_holds work ends d e g l is-d h =
      let there : e ≡ states - 1 - d = omega arith in
      let h' = subst (λ (n : ℕ). Holds work ends o n (g n)) there h in
      record {
        is = λ m j x hm hj lo hi.
            subst (λ (n : ℕ). get_or work (ends + ((p.rows - 1 - m) * (p.planes * n) + (j * n + x))) 0 ≡ g (states - 1 - d) (p.rows - 1 - m) j x) opposite.same_across
            (subst (λ (n : ℕ). get_or work (ends + ((p.rows - 1 - m) * (n * o.across) + (j * o.across + x))) 0 ≡ g (states - 1 - d) (p.rows - 1 - m) j x) opposite.same_planes
            (h'.is (p.rows - 1 - m) j x (omega (arith, opposite.full_other (states - 1 - d) (omega arith))) (omega (arith, opposite.same_planes))
            (omega (arith, opposite.same_lo d m (omega arith) hm)) (omega (arith, opposite.same_hi d m (omega arith) hm))));
      }

  module _ (e d ends : ℕ) (l : e < states) (is-d : d ≡ states - 1 - e) (work₀ best₀ work best work₁ work₂ best' : List ℕ) (lo hi from : ℕ)
      (clear : keys_size p ≤ ends) (past_keys : keys_size p ≤ lo) (below : hi ≤ ends)
      (s : SweptTo p o states e work₀ best₀ work best ends) (a : Advanced o e (e + 1) work work₁ ends ends) (c : Apart work₁ work₂ lo hi) where
    same₁ : (q : ℕ) → q < keys_size p → get_or work₁ q 0 ≡ get_or work₀ q 0
    same₁ q h = a.apart.under q (omega arith) ∙ s.keys q h

    same₂ : (q : ℕ) → q < keys_size p → get_or work₂ q 0 ≡ get_or work₀ q 0
    same₂ q h = c.under q (omega arith) ∙ same₁ q h

    -- the other side's state is made, and stays while this side's states are fetched
    other_made : (keys : ℕ → ℕ) (f g : ℕ → ℕ → ℕ → ℕ → ℕ) → KeysAre work₀ p keys → Sequence p keys states f → Sequence o keys states g → Holds work₂ ends o e (g e)
    other_made keys f g k u v =
        holds_apart o sound' work₁ work₂ ends e lo hi (g e) (omega (arith, opposite.few)) c (inr below)
        (made o sound' work work₁ keys states e ends ends g (omega (arith, opposite.few)) l a
        (keys_other work keys (keys_then work₀ work keys s.keys k)) v (s.is keys f g k u v).1)

    pub swept_more : (first : ℕ) → LastAt p states first work₀ work₂ from → Joined p first (d + 1) work₂ best best' from ends →
        SweptTo p o states (e + 1) work₀ best₀ work₂ best' ends
    swept_more first last j =
        record {
          keys = same₂;
          is = λ keys f g k u v.
              let there = other_made keys f g k u v in
              let before = subst (λ (n : ℕ). AllJoined p states n f g best₀ best) (let w : states - e ≡ d + 1 = omega arith in w) (s.is keys f g k u v).0 in
              let these = chain_here p sound work₂ keys states first (d + 1) f (omega (arith, opposite.few)) (omega arith) (keys_then work₀ work₂ keys same₂ k) u in
              let this : d + 1 - 1 ≡ d = omega arith in
              let joined = j.is f (g (states - 1 - d)) (last.is keys f k u) these
              (subst (λ (n : ℕ). OtherHolds work₂ ends p n (g (states - 1 - d))) (sym this) (other_holds work₂ ends d e g l is-d there)) in
              let more = joined_more p states d f g best₀ best best' (omega arith) before
              (subst (λ (n : ℕ). StateJoined p n best best' (f n) (g (states - 1 - d)) p.rows) this joined) in (
                subst (λ (n : ℕ). AllJoined p states n f g best₀ best') (let w : d ≡ states - (e + 1) = omega arith in w) more,
                last_made o sound' work₂ ends e g there,
              );
        }

    -- the stack, with the wanted state on its top or near
    stack_fetched : (marks marks' : List ℕ) (k : Stack) (depth spare : ℕ) → k.base + k.depth * state_size p ≤ ends →
        StackKept p states work₀ work marks k.base k.depth → Fetched p k depth d spare work₁ marks work₂ marks' →
        StackKept p states work₀ work₂ marks' k.base depth
    stack_fetched marks marks' k depth spare room h f =
        record {
          is = λ keys g q u.
              f.is keys g (keys_then work₀ work₁ keys same₁ q) (fewer p sound keys states d g (omega arith) u)
              (stacked_apart p sound work work₁ marks k.base k.depth ends (ends + state_size o) g a.apart room (h.is keys g q u));
        }

    top_at : (marks : List ℕ) (base depth first : ℕ) → StackKept p states work₀ work₂ marks base depth → first ≡ last_mark marks depth →
        from ≡ base + (depth - 1) * state_size p → LastAt p states first work₀ work₂ from
    top_at marks base depth first h is-first is_from =
        record { is = λ keys f k u. top_holds p sound work₂ marks base depth first from f (h.is keys f k u) is-first is_from }

  -- one turn of a sweep with a stack: the sweep is one state further, and the stack that came back is one of this side's states
  pub linked_turn : (e d places from first spare : ℕ) (k r : Stack) (work₀ best₀ work best work₁ work₂ best' marks marks' : List ℕ) → e < states → d ≡ states - 1 - e →
      StackAt p places k → r.base ≡ k.base → from ≡ r.base + (r.depth - 1) * state_size p → first ≡ last_mark marks' r.depth →
      SweptTo p o states e work₀ best₀ work best (keys_size p + places * state_size p) → StackKept p states work₀ work marks k.base k.depth →
      Advanced o e (e + 1) work work₁ (keys_size p + places * state_size p) (keys_size p + places * state_size p) →
      Fetched p k r.depth d spare work₁ marks work₂ marks' → Joined p first (d + 1) work₂ best best' from (keys_size p + places * state_size p) →
      SweptTo p o states (e + 1) work₀ best₀ work₂ best' (keys_size p + places * state_size p) × StackKept p states work₀ work₂ marks' r.base r.depth
  linked_turn e d places from first spare k r work₀ best₀ work best work₁ work₂ best' marks marks' l is-d at same is_from is-first s h a f j =
      let ends = keys_size p + places * state_size p in
      let top = k.base + k.places * state_size p in
      let clear : keys_size p ≤ ends = omega arith in
      let past_keys : keys_size p ≤ k.base = omega (arith, at.is_base) in
      let below : top ≤ ends = omega (arith, at.is_base, rows_fit k.places 0 places (state_size p) (omega (arith, at.is_places))) in
      let room : k.base + k.depth * state_size p ≤ ends = omega (arith, at.is_base, rows_fit k.depth 0 places (state_size p) (omega (arith, at.deep))) in
      let kept = subst (λ (n : ℕ). StackKept p states work₀ work₂ marks' n r.depth) (sym same)
      (stack_fetched e d ends l is-d work₀ best₀ work best work₁ work₂ best' k.base top from clear past_keys below s a f.apart
      marks marks' k r.depth spare room h f) in
      let last = top_at e d ends l is-d work₀ best₀ work best work₁ work₂ best' k.base top from clear past_keys below s a f.apart
      marks' r.base r.depth first kept is-first is_from in (
        swept_more e d ends l is-d work₀ best₀ work best work₁ work₂ best' k.base top from clear past_keys below s a f.apart first last j,
        kept,
      )
