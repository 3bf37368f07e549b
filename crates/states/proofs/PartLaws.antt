-- Laws of a part of a list that is written by itself: the whole is as it was but for that run.
use Prim.Native.Nat.{ℕ, ◌+◌, ◌-◌, ◌≤◌, ◌<◌, min, max}
use mathlib.Core.Path.{◌≡◌, sym, ap, ◌∙◌, subst}
use mathlib.Core.List.{List}
use native.Mathlib.Omega.{arith}
use lib.ListN.{length, get_or, take, drop}
use borrow.Rule.Slice.PartMut.{put_mid}
use Rattle.std.proofs.Common.{rules}
use Rattle.std.proofs.lemmas.List.{places, map-append, take-map, drop-map, get_or-take, get_or-drop}
use Rattle.std.proofs.lemmas.Grind.{common_steps}
use Rattle.eights.specs.Turned.{turned, numbers}
use Rattle.eights.proofs.TurnedLaws.{numbers_length, numbers_at}
use Rattle.states.specs.Runs.{Between}

part_at : (old new : List ℕ) (at k q : ℕ) → at + k ≤ length old → length new ≡ k → at ≤ q → q < at + k → get_or (put_mid at k old new) q 0 ≡ get_or new (q - at) 0
part_at old new at k q l e a h = search (rules, places)

part_under : (old new : List ℕ) (at k q : ℕ) → at + k ≤ length old → length new ≡ k → q < at → get_or (put_mid at k old new) q 0 ≡ get_or old q 0
part_under old new at k q l e h = search (rules, places)

part_over : (old new : List ℕ) (at k q : ℕ) → at + k ≤ length old → length new ≡ k → at + k ≤ q → get_or (put_mid at k old new) q 0 ≡ get_or old q 0
part_over old new at k q l e h = search (rules, places)

pub part_length : (old new : List ℕ) (at k : ℕ) → at + k ≤ length old → length new ≡ k → length (put_mid at k old new) ≡ length old
part_length old new at k l e = grind (arith, common_steps)

-- the run that a part is, where the part is told place by place
pub part_between :
    (f : ℕ → ℕ) (old new : List ℕ) (at k n : ℕ) →
    at + k ≡ n → n ≤ length old → length new ≡ k → ((i : ℕ) → i < k → get_or new i 0 ≡ f (at + i)) →
    Between f old (put_mid at k old new) at n
part_between f old new at k n s l e t =
    record {
      inside = λ q a h. part_at old new at k q (omega arith) e a (omega arith) ∙ t (q - at) (omega arith) ∙ ap f (let w : at + (q - at) ≡ q = omega arith in w);
      under = λ q h. part_under old new at k q (omega arith) e h;
      over = λ q h. part_over old new at k q (omega arith) e (omega arith);
      len = part_length old new at k (omega arith) e;
    }

numbers_part : (old new : List ℕ) (at k : ℕ) → numbers (put_mid at k old new) ≡ put_mid at k (numbers old) (numbers new)
unfolding numbers
numbers_part old new at k = search (rules, map-append, take-map, drop-map)

-- the same where what is written is turned
pub part_numbers :
    (f : ℕ → ℕ) (old new : List ℕ) (at k n : ℕ) →
    at + k ≡ n → n ≤ length old → length new ≡ k → ((i : ℕ) → i < k → get_or (numbers new) i 0 ≡ f (at + i)) →
    Between f (numbers old) (numbers (put_mid at k old new)) at n
part_numbers f old new at k n s l e t =
    subst (λ (xs : List ℕ). Between f (numbers old) xs at n) (sym (numbers_part old new at k))
    (part_between f (numbers old) (numbers new) at k n s (omega (arith, numbers_length old)) (numbers_length new ∙ e) t)

-- ---- parts that are made of parts of other lists

part_of : (from : List ℕ) (start k i : ℕ) → i < k → get_or (take k (drop start from)) i 0 ≡ get_or from (start + i) 0
part_of from start k i h = get_or-take k (drop start from) i 0 h ∙ get_or-drop start from i 0

within : (from : List ℕ) (start k i : ℕ) → start + k ≤ length from → i < k → i < length (take k (drop start from))
within from start k i l h = grind (arith, common_steps)

-- `new` has been made of the m numbers from `start` on of another list, and has come to the k places from `at` on
module _ (from old new : List ℕ) (at start k m n : ℕ) (is-end : at + k ≡ n) (fits : n ≤ length old) (long : length new ≡ k) (same : m ≡ k) (reads : start + m ≤ length from) where
  read : (i : ℕ) → i < k → get_or (take m (drop start from)) i 0 ≡ get_or from (start + (at + i - at)) 0
  read i l = part_of from start m i (omega arith) ∙ ap (λ (q : ℕ). get_or from q 0) (let e : start + i ≡ start + (at + i - at) = omega arith in e)

  inside : (i : ℕ) → i < k → i < length (take m (drop start from))
  inside i l = within from start m i reads (omega arith)

  -- what was turned stands for the numbers
  pub part_held :
      ((i : ℕ) → i < length (take m (drop start from)) → turned (get_or new i 0) ≡ get_or (take m (drop start from)) i 0) →
      Between (λ q. get_or from (start + (q - at)) 0) (numbers old) (numbers (put_mid at k old new)) at n
  part_held t = part_numbers _ old new at k n is-end fits long (λ i l. numbers_at new i (omega arith) ∙ t i (inside i l) ∙ read i l)

  -- what was turned back is what the held part stands for
  pub part_stored :
      ((i : ℕ) → i < length (take m (drop start from)) → get_or new i 0 ≡ turned (get_or (take m (drop start from)) i 0)) →
      Between (λ q. get_or (numbers from) (start + (q - at)) 0) old (put_mid at k old new) at n
  part_stored t = part_between _ old new at k n is-end fits long (λ i l. t i (inside i l) ∙ ap turned (read i l) ∙ sym (numbers_at from (start + (at + i - at)) (omega arith)))

  -- what was raised to v, and turned
  pub part_raised :
      (v : ℕ) →
      ((i : ℕ) → i < length (take m (drop start from)) → turned (get_or new i 0) ≡ max (get_or (take m (drop start from)) i 0) v) →
      Between (λ q. max (get_or from (start + (q - at)) 0) v) (numbers old) (numbers (put_mid at k old new)) at n
  part_raised v t = part_numbers _ old new at k n is-end fits long (λ i l. numbers_at new i (omega arith) ∙ t i (inside i l) ∙ ap (λ (u : ℕ). max u v) (read i l))

-- a part that has risen to the lower of two others
pub part_folded :
    (held work old new : List ℕ) (at h w a b d n : ℕ) →
    at + a ≡ n → n ≤ length old → length new ≡ a → b ≡ a → d ≡ a → h + b ≤ length held → w + d ≤ length work →
    ((i : ℕ) → i < length (take a (drop at old)) →
    get_or new i 0 ≡ max (get_or (take a (drop at old)) i 0) (min (turned (get_or (take b (drop h held)) i 0)) (get_or (take d (drop w work)) i 0))) →
    Between (λ q. max (get_or old q 0) (min (get_or (numbers held) (h + (q - at)) 0) (get_or work (w + (q - at)) 0))) old (put_mid at a old new) at n
part_folded held work old new at h w a b d n e fits long sb sd fh fw t =
    part_between _ old new at a n e fits long
    (λ i l. t i (within old at a i (omega arith) l)
    ∙ rw (
      part_of old at a i l,
      part_of held h b i (omega arith),
      part_of work w d i (omega arith),
      numbers_at held (h + (at + i - at)) (omega arith),
      (let q : at + i - at ≡ i = omega arith in q),
    ))
