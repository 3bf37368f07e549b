-- What `keep` makes of a list: of one that goes on, of what was kept already, and how many elements it leaves.
use Prim.Native.Nat.{ℕ, suc, ◌+◌, ◌≤◌, ◌<◌}
use mathlib.Core.Path.{◌≡◌, refl, ap}
use mathlib.Core.Bool.{Bool, true, false, cond, not, ◌&&◌}
use mathlib.Core.List.{List, [], ◌∷◌, ◌++◌, append-nil}
use native.Mathlib.Numerals.{add-one}
use native.Mathlib.Omega.{arith}
use lib.ListN.{length, take, get_or}
use lib.Seq.{take-suc}
use Rattle.basics.specs.Lists.{any, keep}

-- ---- a list that goes on

pub keep_append : {A : Type 0} (test : A → Bool) (xs ys : List A) → keep test (xs ++ ys) ≡ keep test xs ++ keep test ys
unfolding keep
keep_append test [] ys = refl
keep_append {A} test (x ∷ xs) ys = go (test x) (keep_append test xs ys)
  where
    go : (b : Bool) → keep test (xs ++ ys) ≡ keep test xs ++ keep test ys →
        cond b (x ∷ keep test (xs ++ ys)) (keep test (xs ++ ys)) ≡ cond b (x ∷ keep test xs) (keep test xs) ++ keep test ys
    go true e = ap (λ (zs : List A). x ∷ zs) e
    go false e = e

-- one element further: it is kept, or it is not
pub kept_one : {A : Type 0} (test : A → Bool) (xs : List A) (i : ℕ) (d : A) → i < length xs → test (get_or xs i d) ≡ true →
    keep test (take (i + 1) xs) ≡ keep test (take i xs) ++ (get_or xs i d ∷ [])
unfolding keep
kept_one test xs i d h t = rw (add-one, take-suc xs i d h, keep_append test (take i xs) (get_or xs i d ∷ []), t)

pub dropped_one : {A : Type 0} (test : A → Bool) (xs : List A) (i : ℕ) (d : A) → i < length xs → test (get_or xs i d) ≡ false →
    keep test (take (i + 1) xs) ≡ keep test (take i xs)
unfolding keep
dropped_one test xs i d h t =
    rw (add-one, take-suc xs i d h, keep_append test (take i xs) (get_or xs i d ∷ []), t) (append-nil (keep test (take i xs)))

-- ---- another test

pub keep_same : {A : Type 0} (p q : A → Bool) → ((x : A) → p x ≡ q x) → (xs : List A) → keep p xs ≡ keep q xs
unfolding keep
keep_same p q h [] = refl
keep_same {A} p q h (x ∷ xs) = rw (h x) (ap (λ (ys : List A). cond (q x) (x ∷ ys) ys) (keep_same p q h xs))

pub keep_twice : {A : Type 0} (p q : A → Bool) (xs : List A) → keep p (keep q xs) ≡ keep (λ (x : A). q x && p x) xs
unfolding keep
keep_twice p q [] = refl
keep_twice {A} p q (x ∷ xs) = go (q x) (keep_twice p q xs)
  where
    go : (b : Bool) → keep p (keep q xs) ≡ keep (λ (y : A). q y && p y) xs →
        keep p (cond b (x ∷ keep q xs) (keep q xs)) ≡ cond (b && p x) (x ∷ keep (λ (y : A). q y && p y) xs) (keep (λ (y : A). q y && p y) xs)
    go true e = ap (λ (ys : List A). cond (p x) (x ∷ ys) ys) e
    go false e = e

pub keep_none : {A : Type 0} (test : A → Bool) → ((x : A) → test x ≡ false) → (xs : List A) → keep test xs ≡ []
unfolding keep
keep_none test h [] = refl
keep_none test h (x ∷ xs) = rw (h x) (keep_none test h xs)

-- ---- how many are left

pub keep_shorter : {A : Type 0} (test : A → Bool) (xs : List A) → length (keep test xs) ≤ length xs
unfolding keep
keep_shorter test [] = omega arith
keep_shorter test (x ∷ xs) = go (test x) (keep_shorter test xs)
  where
    go : (b : Bool) → length (keep test xs) ≤ length xs → length (cond b (x ∷ keep test xs) (keep test xs)) ≤ suc (length xs)
    go true h = omega arith
    go false h = omega arith

-- of the elements that fail a test: no element passes it and all are left, or one does and fewer are
pub data Left {A : Type 0} (test : A → Bool) (xs : List A) : Type 0 where
  all : any test xs ≡ false → length (keep (λ (x : A). not (test x)) xs) ≡ length xs → Left test xs
  fewer : any test xs ≡ true → length (keep (λ (x : A). not (test x)) xs) < length xs → Left test xs

pub left_of : {A : Type 0} (test : A → Bool) (xs : List A) → Left test xs
unfolding any keep
left_of test [] = all refl refl
left_of {A} test (x ∷ xs) = go (test x) refl (left_of test xs)
  where
    go : (b : Bool) → test x ≡ b → Left test xs → Left test (x ∷ xs)
    go true e c = fewer (rw e) (rw e (omega (arith, keep_shorter (λ (y : A). not (test y)) xs)))
    go false e (all n l) = all (rw e n) (rw e (ap suc l))
    go false e (fewer n l) = fewer (rw e n) (rw e (omega arith))
