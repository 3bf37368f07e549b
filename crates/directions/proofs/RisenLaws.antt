-- Levels that rise to the numbers kept for them, one number more at a time. The level at the number's place becomes the higher of both, and no other
-- changes: whatever was not below the old levels and not below the numbers so far is still not below the new ones.
use Prim.Native.Nat.{ℕ, ◌+◌, ◌≤◌, ◌<◌, max}
use mathlib.Core.Path.{◌≡◌, sym, ap, subst, ◌∙◌}
use mathlib.Core.Bool.{Bool}
use mathlib.Core.List.{List}
use mathlib.Core.Logic.{inl, inr}
use native.Mathlib.Omega.{arith}
use lib.ListN.{length, get_or, set, length-set}
use lib.Seq.{get_or-set_same, get_or-set_other}
use lib.IntN.{ℤ, pos}
use lib.Signed.{mag}
use mir.Syntax.{w16}
use mir.Val.{to_z, of_z}
use mir.Facts.{to_z-of_z}
use Rattle.basics.proofs.Numbers.{le_or_lt}
use Rattle.plate.specs.Levels.{lowest, key}
use Rattle.frames.proofs.KeyLaws.{level_read}
use Rattle.frames.specs.declared.frame.Frame.{Frame}
use Rattle.directions.specs.Numbers.{place_kept}
use Rattle.directions.specs.Gathering.{Risen}
use Rattle.theory.specs.BestWalks.{key_at}

-- a level that is stored and one that is read, by their keys
pub raised_level : (xs : List ℤ) (x : ℕ) (v : ℤ) (t : ℕ) → mag v < 32768 → mag (get_or xs x (pos 0)) < 32768 → x < length xs →
    key v ≡ max (key (to_z w16 (of_z w16 (get_or xs x (pos 0))))) t → key (to_z w16 (of_z w16 v)) ≡ max (key_at xs x) t
raised_level xs x v t fv fx on e =
    ap key (to_z-of_z {w = w16} {z = v} (record { sfits = fv })) ∙ level_read (λ u. max (key u) t) xs x (key v) fx on e

module _ (r : Frame) (ranked : Bool) (best : List ℕ) where
  -- one store more
  module _ (old new : List ℤ) (lo hi at : ℕ) (v : ℤ) (s : Risen r ranked best old new lo hi) (ordered : lo ≤ hi) (is_at : at ≡ place_kept r ranked hi)
      (on : at < length new) (is : key v ≡ max (key_at new at) (get_or best hi 0)) where
    here : key_at (set new at v) at ≡ max (key_at new at) (get_or best hi 0)
    here = ap key (get_or-set_same new at v lowest on) ∙ is

    other : (p : ℕ) → (p ≡ at → ⊥) → key_at (set new at v) p ≡ key_at new p
    other p n = ap key (get_or-set_other new at p v lowest n)

    -- what holds at the place and at every other one holds everywhere
    anywhere : (P : ℕ → Type 0) → P at → ((p : ℕ) → (p ≡ at → ⊥) → P p) → (p : ℕ) → P p
    anywhere P a b p = elim (le_or_lt at p) [
      | inl u ↦ elim (le_or_lt p at) [
        | inl w ↦ subst P (let e : at ≡ p = omega arith in e) a
        | inr w ↦ b p (λ e. omega arith)
      ]
      | inr u ↦ b p (λ e. omega arith)
    ]

    higher : (p : ℕ) → key_at new p ≤ key_at (set new at v) p
    higher = anywhere (λ (p : ℕ). key_at new p ≤ key_at (set new at v) p) (omega (arith, here)) (λ p n. omega (arith, other p n))

    pub risen_more : (n : ℕ) → n ≡ hi + 1 → Risen r ranked best old (set new at v) lo n
    risen_more n e =
        record {
          grown = λ p. omega (arith, s.grown p, higher p);
          reached = λ q l h. elim (le_or_lt hi q) [
            | inl a ↦ let same : hi ≡ q = omega arith in
                subst (λ (z : ℕ). get_or best z 0 ≤ key_at (set new at v) (place_kept r ranked z)) same
                (subst (λ (p : ℕ). get_or best hi 0 ≤ key_at (set new at v) p) is_at (omega (arith, here)))
            | inr a ↦ omega (arith, s.reached q l a, higher (place_kept r ranked q))
          ];
          bounded = λ b h.
              let own : get_or best hi 0 ≤ b at = subst (λ (p : ℕ). get_or best hi 0 ≤ b p) (sym is_at) (h hi ordered (omega arith)) in
              let past = s.bounded b (λ q l a. h q l (omega arith)) in
              anywhere (λ (p : ℕ). key_at (set new at v) p ≤ max (key_at old p) (b p)) (omega (arith, here, past at))
              (λ p m. omega (arith, other p m, past p));
          len = length-set new at v ∙ s.len;
        }

  -- one run of numbers after the other
  pub risen_join :
      (old mid new : List ℤ) (lo at hi n : ℕ) →
      Risen r ranked best old mid lo at → Risen r ranked best mid new at hi → lo ≤ at → at ≤ hi → hi ≡ n → Risen r ranked best old new lo n
  risen_join old mid new lo at hi n s t o p e =
      record {
        grown = λ q. omega (arith, s.grown q, t.grown q);
        reached = λ q l h. elim (le_or_lt at q) [
          | inl a ↦ t.reached q a (omega arith)
          | inr a ↦ omega (arith, s.reached q l a, t.grown (place_kept r ranked q))
        ];
        bounded = λ b h q.
            omega (arith, s.bounded b (λ k l a. h k l (omega arith)) q, t.bounded b (λ k l a. h k (omega arith) (omega arith)) q);
        len = t.len ∙ s.len;
      }
