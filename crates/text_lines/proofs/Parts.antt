-- Laws of a list of numbers that is read part by part: those that were read stand at the front of a buffer, and with the numbers of the parts that are
-- left they are the whole list.
use Prim.Native.Nat.{ℕ, suc, ◌+◌, ◌-◌, ◌≤◌, ◌<◌}
use mathlib.Core.Path.{◌≡◌, refl, ap, sym, ◌∙◌}
use mathlib.Core.Bool.{cond}
use mathlib.Core.List.{List, [], ◌∷◌, ◌++◌, append-nil}
use mathlib.Core.Option.{Option, none, some}
use native.Mathlib.Numerals.{add-one}
use native.Mathlib.Omega.{arith}
use lib.ListN.{length, get_or, take, drop, set, length-set, drop_of_length-le, take-append-drop}
use lib.Seq.{drop-cons, take_all, take-suc-set, drop-set-lt, append_snoc}
use Rattle.std.specs.List.{slice_split, onto_first}
use Rattle.text_lines.specs.Bytes.{comma}
use Rattle.text_lines.specs.Format.{◌>>=◌, is, number, lengthen, parts, numbers, list}
use Rattle.text_lines.specs.Answers.{filled_by}

-- ---- the parts are those that std cuts

lengthen_same : (b : ℕ) (ps : List (List ℕ)) → lengthen b ps ≡ onto_first b ps
lengthen_same b [] = refl
lengthen_same b (p ∷ ps) = refl

pub parts_split : (s : List ℕ) → slice_split (is comma) s ≡ parts s
unfolding parts
parts_split [] = refl
parts_split (b ∷ bs) =
    let e : slice_split (is comma) (b ∷ bs) ≡ cond (is comma b) ([] ∷ parts bs) (onto_first b (parts bs)) = rw (parts_split bs) refl in
    rw (e, lengthen_same b (parts bs)) refl

-- ---- the numbers that were read, and those of the rest

abbrev pub following : List ℕ → Option (List ℕ) → Option (List ℕ)
following vs none = none
following vs (some ws) = some (vs ++ ws)

following_more : (vs : List ℕ) (v : ℕ) (rest : Option (List ℕ)) → following vs (rest >>= λ ws. some (v ∷ ws)) ≡ following (vs ++ (v ∷ [])) rest
following_more vs v none = refl
following_more vs v (some ws) = ap some (sym (append_snoc vs v ws))

following_nothing : (rest : Option (List ℕ)) → rest ≡ following [] rest
following_nothing none = refl
following_nothing (some ws) = refl

-- k parts were read
pub record Filling (s start out : List ℕ) (k : ℕ) : Type 0 where
  pub few : k ≤ length start
  pub same : length out ≡ length start
  pub rest : list (length start) s ≡ following (take k out) (numbers (length start - k) (drop k (parts s)))
  pub filled : filled_by (parts s) start ≡ take k out ++ filled_by (drop k (parts s)) (drop k out)

pub filling_none : (s out : List ℕ) → Filling s out out 0
unfolding list
filling_none s out = let e : length out - 0 ≡ length out = omega arith in
    record { few = omega arith; same = refl; rest = rw e (following_nothing (numbers (length out) (parts s))); filled = refl }

module _ (s start out : List ℕ) (k : ℕ) (g : Filling s start out k) where
  -- the buffer is full, and no part is left
  pub filling_full : length start ≤ k → length (parts s) ≤ k → (some out ≡ list (length start) s) × (out ≡ filled_by (parts s) start)
  unfolding numbers filled_by
  filling_full h l =
      let e : length start - k ≡ 0 = omega arith in
      let n = drop_of_length-le (parts s) {i = k} l in
      let t = take_all k out (omega (arith, g.same)) in
      (sym (g.rest ∙ rw (e, n, t, append-nil out)), sym (g.filled ∙ rw (n, t, drop_of_length-le out {i = k} (omega (arith, g.same))) (append-nil out)))

  -- a part is left
  module _ (p : List ℕ) (l : (k < length (parts s)) × (p ≡ get_or (parts s) k p)) where
    cut : drop k (parts s) ≡ p ∷ drop (suc k) (parts s)
    cut = drop-cons (parts s) k p l.0 ∙ ap (λ (q : List ℕ). q ∷ drop (suc k) (parts s)) (sym l.1)

    pub filling_over : length start ≤ k → (none ≡ list (length start) s) × (out ≡ filled_by (parts s) start)
    unfolding numbers filled_by
    filling_over h =
        let e : length start - k ≡ 0 = omega arith in (
          sym (g.rest ∙ rw (e, cut)),
          sym (g.filled ∙ rw (drop_of_length-le out {i = k} (omega (arith, g.same)), cut, take_all k out (omega (arith, g.same))) (append-nil out)),
        )

  -- one number more is asked for
  module _ (h : k < length start) where
    asked : length start - k ≡ suc (length start - (k + 1))
    asked = omega arith

    -- and there is a place for it
    place : drop k out ≡ get_or out k 0 ∷ drop (suc k) out
    place = drop-cons out k 0 (omega (arith, g.same))

    -- no part is left
    pub filling_short : length (parts s) ≤ k → (none ≡ list (length start) s) × (out ≡ filled_by (parts s) start)
    unfolding numbers filled_by
    filling_short l =
        let n = drop_of_length-le (parts s) {i = k} l in
        (sym (g.rest ∙ rw (asked, n)), sym (g.filled ∙ rw n (take-append-drop k out)))

    module _ (p : List ℕ) (l : (k < length (parts s)) × (p ≡ get_or (parts s) k p)) where
      -- it is no number
      pub filling_bad : none ≡ number p → (none ≡ list (length start) s) × (out ≡ filled_by (parts s) start)
      unfolding numbers filled_by
      filling_bad e =
          (sym (g.rest ∙ rw (asked, cut p l, ← e)), sym (g.filled ∙ rw (place, cut p l, ← e, ← place) (take-append-drop k out)))

      -- it is the number v
      pub filling_more : (v : ℕ) → some v ≡ number p → Filling s start (set out k v) (k + 1)
      unfolding numbers filled_by
      filling_more v e =
          let stored : take (k + 1) (set out k v) ≡ take k out ++ (v ∷ []) = rw add-one (take-suc-set out k v (omega (arith, g.same))) in
          let behind : drop (suc k) out ≡ drop (k + 1) (set out k v) = rw add-one (sym (drop-set-lt (suc k) out k v (omega arith))) in
          let next : drop (suc k) (parts s) ≡ drop (k + 1) (parts s) = rw add-one in
          record {
            few = omega arith;
            same = length-set out k v ∙ g.same;
            rest = g.rest ∙ rw (asked, cut p l, ← e, next, stored) (following_more (take k out) v (numbers (length start - (k + 1)) (drop (k + 1) (parts s))));
            filled = g.filled ∙ rw (place, cut p l, ← e, behind, next, stored) (sym (append_snoc (take k out) v (filled_by (drop (k + 1) (parts s)) (drop (k + 1) (set out k v)))));
          }
