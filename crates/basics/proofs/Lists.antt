-- General laws of lists: what is in them, and the functions of specs/Lists.antt. They come in pairs: `-find` says what a passed test or an element
-- of a made list comes from, `-keep` makes one.
use Prim.Native.Nat.{ℕ, zero, suc, ◌+◌, ◌-◌, ◌≤◌, ◌<◌}
use mathlib.Core.Path.{◌≡◌, refl, sym, ap, subst, ◌∙◌}
use mathlib.Core.Bool.{Bool, true, false}
use mathlib.Core.List.{List, [], ◌∷◌, ◌++◌, map, flat_map, zip_with, reverse_aux, append-nil, Memᴰ}
use mathlib.Core.Logic.{⊎_elim}
use native.Mathlib.Numerals.{add-one}
use native.Mathlib.Omega.{arith}
use lib.Dec.{T}
use lib.ListN.{length, get_or, take, drop, set, replicate, drop_of_length-le}
use lib.Seq.{drop-cons, take-suc, set_at, append_snoc, length-take-le, take_all, take-nil}
use Rattle.basics.specs.Lists.{any, keep, first_of, up_from}
use Rattle.basics.proofs.Numbers.{le_or_lt}
use Rattle.basics.proofs.Tests.{true_or_false, T_true, true_T, or_cases, or_left, or_right}

-- ---- any: some element passes

pub any_find : {A : Type 0} (test : A → Bool) (xs : List A) → T (any test xs) → (x : A) × Memᴰ x xs × T (test x)
unfolding any
any_find test [] h = absurd h
any_find test (x ∷ xs) h =
    ⊎_elim (λ a. (x, mathlib.Core.List.Memᴰ.head refl, a))
    (λ b. let r = any_find test xs b in (r.0, mathlib.Core.List.Memᴰ.tail r.1, r.2))
    (or_cases (test x) (any test xs) h)

pub any-keep : {A : Type 0} (test : A → Bool) (x : A) {xs : List A} → Memᴰ x xs → T (test x) → T (any test xs)
unfolding any
any-keep test x (mathlib.Core.List.Memᴰ.head {x = y} {xs} e) h = or_left (test y) (any test xs) (subst (λ z. T (test z)) e h)
any-keep test x (mathlib.Core.List.Memᴰ.tail {x = y} {xs} m) h = or_right (test y) (any test xs) (any-keep test x m h)

-- ---- keep: exactly the elements that pass

pub keep_find : {A : Type 0} (test : A → Bool) (x : A) (xs : List A) → Memᴰ x (keep test xs) → Memᴰ x xs × T (test x)
unfolding keep
keep_find test x [] i = absurd (mathlib.Core.List.Memᴰ.not-nil i)
keep_find test x (y ∷ ys) i =
    ⊎_elim
    (λ e. let j : Memᴰ x (y ∷ keep test ys) = rw e at i in
    ⊎_elim (λ h. (mathlib.Core.List.Memᴰ.head h, true_T (test x) (ap test h ∙ e)))
    (λ h. let r = keep_find test x ys h in (mathlib.Core.List.Memᴰ.tail r.0, r.1)) (mathlib.Core.List.Memᴰ.cases_cons j))
    (λ e. let j : Memᴰ x (keep test ys) = rw e at i in
    let r = keep_find test x ys j in (mathlib.Core.List.Memᴰ.tail r.0, r.1))
    (true_or_false (test y))

pub keep-keep : {A : Type 0} (test : A → Bool) (x : A) {xs : List A} → Memᴰ x xs → T (test x) → Memᴰ x (keep test xs)
unfolding keep
keep-keep test x (mathlib.Core.List.Memᴰ.head {x = y} {xs} e) h =
    let t : test y ≡ true = T_true (test y) (subst (λ z. T (test z)) e h) in rw t (mathlib.Core.List.Memᴰ.head e)
keep-keep test x (mathlib.Core.List.Memᴰ.tail {x = y} {xs} m) h =
    ⊎_elim (λ e. rw e (mathlib.Core.List.Memᴰ.tail (keep-keep test x m h))) (λ e. rw e (keep-keep test x m h)) (true_or_false (test y))

-- ---- flat_map: an element comes from one of the lists

pub flat_map_find : {A B : Type 0} (g : A → List B) (xs : List A) (y : B) → Memᴰ y (flat_map g xs) → (x : A) × Memᴰ x xs × Memᴰ y (g x)
unfolding flat_map
flat_map_find g [] y i = absurd (mathlib.Core.List.Memᴰ.not-nil i)
flat_map_find g (x ∷ xs) y i =
    ⊎_elim (λ a. (x, mathlib.Core.List.Memᴰ.head refl, a))
    (λ b. let r = flat_map_find g xs y b in (r.0, mathlib.Core.List.Memᴰ.tail r.1, r.2)) (mathlib.Core.List.Memᴰ.append_cases (g x) i)

pub flat_map-keep : {A B : Type 0} (g : A → List B) (y : B) {x : A} {xs : List A} → Memᴰ x xs → Memᴰ y (g x) → Memᴰ y (flat_map g xs)
unfolding flat_map
flat_map-keep g y (mathlib.Core.List.Memᴰ.head {x} {xs} e) i = mathlib.Core.List.Memᴰ.append_left (flat_map g xs) (subst (λ z. Memᴰ y (g z)) e i)
flat_map-keep g y (mathlib.Core.List.Memᴰ.tail {x} {xs} m) i = mathlib.Core.List.Memᴰ.append_right (g x) (flat_map-keep g y m i)

-- ---- map

pub map_find : {A B : Type 0} (f : A → B) (xs : List A) (y : B) → Memᴰ y (map f xs) → (x : A) × Memᴰ x xs × (y ≡ f x)
map_find f [] y i = absurd (mathlib.Core.List.Memᴰ.not-nil i)
map_find f (x ∷ xs) y i =
    ⊎_elim (λ e. (x, mathlib.Core.List.Memᴰ.head refl, e))
    (λ b. let r = map_find f xs y b in (r.0, mathlib.Core.List.Memᴰ.tail r.1, r.2)) (mathlib.Core.List.Memᴰ.cases_cons i)

pub map-keep : {A B : Type 0} (f : A → B) {x : A} {xs : List A} → Memᴰ x xs → Memᴰ (f x) (map f xs)
map-keep f (mathlib.Core.List.Memᴰ.head e) = mathlib.Core.List.Memᴰ.head (ap f e)
map-keep f (mathlib.Core.List.Memᴰ.tail i) = mathlib.Core.List.Memᴰ.tail (map-keep f i)

-- a function that undoes itself does so in a list
pub map_undone : {A : Type 0} (f : A → A) → ((x : A) → f (f x) ≡ x) → (xs : List A) → map f (map f xs) ≡ xs
map_undone f e [] = refl
map_undone f e (x ∷ xs) = rw (e x, map_undone f e xs)

-- within the list, map acts at each index, whatever stands for what is past the end
pub map_at : {A B : Type 0} (f : A → B) (xs : List A) (i : ℕ) (a : A) (b : B) → i < length xs → get_or (map f xs) i b ≡ f (get_or xs i a)
map_at f [] i a b h = absurd (omega arith)
map_at f (x ∷ xs) zero a b h = refl
map_at f (x ∷ xs) (suc i) a b h = map_at f xs i a b (omega arith)

-- ---- up_from: exactly the numbers a, a + 1, .., a + n - 1

pub up_from_find : (a n p : ℕ) → Memᴰ p (up_from a n) → (a ≤ p) × (p < a + n)
unfolding up_from
up_from_find a zero p i = absurd (mathlib.Core.List.Memᴰ.not-nil i)
up_from_find a (suc n) p i =
    ⊎_elim (λ e. (omega arith, omega arith)) (λ j. let r = up_from_find (suc a) n p j in (omega arith, omega arith)) (mathlib.Core.List.Memᴰ.cases_cons i)

pub up_from_has : (a n p : ℕ) → a ≤ p → p < a + n → Memᴰ p (up_from a n)
unfolding up_from
up_from_has a zero p l h = absurd (omega arith)
up_from_has a (suc n) p l h =
    ⊎_elim (λ u. mathlib.Core.List.Memᴰ.tail (up_from_has (suc a) n p u (omega arith)))
    (λ u. let e : p ≡ a = omega arith in mathlib.Core.List.Memᴰ.head e) (le_or_lt (suc a) p)

pub up_from-length : (a n : ℕ) → length (up_from a n) ≡ n
unfolding up_from
up_from-length a zero = refl
up_from-length a (suc n) = ap suc (up_from-length (suc a) n)

pub up_from_at : (a n i d : ℕ) → i < n → get_or (up_from a n) i d ≡ a + i
unfolding up_from
up_from_at a zero i d h = absurd (omega arith)
up_from_at a (suc n) zero d h = omega arith
up_from_at a (suc n) (suc i) d h = up_from_at (suc a) n i d (omega arith) ∙ (let e : suc a + i ≡ a + suc i = omega arith in e)

-- ---- first_of: a search that has passed i elements

abbrev pub Passed : {A : Type 0} → (A → Bool) → List A → ℕ → Type 0
Passed test s i = first_of test s ≡ i + first_of test (drop i s)

pub passed_none : {A : Type 0} (test : A → Bool) (s : List A) → Passed test s 0
passed_none test [] = omega arith
passed_none test (x ∷ s) = omega arith

pub passed_miss : {A : Type 0} (test : A → Bool) (s : List A) (i : ℕ) (d : A) → i < length s → test (get_or s i d) ≡ false → Passed test s i → Passed test s (i + 1)
unfolding first_of
passed_miss test s i d h e j =
    let k : first_of test (drop i s) ≡ suc (first_of test (drop (i + 1) s)) = rw (add-one, drop-cons s i d h, e) in
    omega arith

pub passed_hit : {A : Type 0} (test : A → Bool) (s : List A) (i : ℕ) (d : A) → i < length s → test (get_or s i d) ≡ true → Passed test s i → first_of test s ≡ i
unfolding first_of
passed_hit test s i d h e j =
    let k : first_of test (drop i s) ≡ 0 = rw (drop-cons s i d h, e) in omega arith

pub first_of_le : {A : Type 0} (test : A → Bool) (s : List A) → first_of test s ≤ length s
unfolding first_of
first_of_le test [] = omega arith
first_of_le test (x ∷ s) = ⊎_elim (λ e. rw e (omega arith)) (λ e. rw e (omega (arith, first_of_le test s))) (true_or_false (test x))

pub passed_end : {A : Type 0} (test : A → Bool) (s : List A) (i : ℕ) → length s ≤ i → Passed test s i → first_of test s ≡ i
passed_end test s i h j = omega (arith, first_of_le test s)

-- a search of two lists in a row: what the first has is found there, else the second is searched
pub found_before : {A : Type 0} (test : A → Bool) (s t : List A) → first_of test s < length s → first_of test (s ++ t) ≡ first_of test s
unfolding first_of
found_before test [] t h = absurd (omega arith)
found_before test (x ∷ s) t h =
    ⊎_elim (λ e. rw e) (λ e. let k = rw e at h in rw (e, found_before test s t (omega arith))) (true_or_false (test x))

pub found_after : {A : Type 0} (test : A → Bool) (s t : List A) → length s ≤ first_of test s → first_of test (s ++ t) ≡ length s + first_of test t
unfolding first_of
found_after test [] t h = omega arith
found_after test (x ∷ s) t h =
    ⊎_elim (λ e. absurd (omega (arith, rw e at h)))
    (λ e. let k = rw e at h in rw e (omega (arith, found_after test s t (omega arith)))) (true_or_false (test x))

-- where the search finds nothing, the test fails at each index
pub none_passes : {A : Type 0} (test : A → Bool) (s : List A) → length s ≤ first_of test s → (i : ℕ) (d : A) → i < length s → test (get_or s i d) ≡ false
unfolding first_of
none_passes test [] h i d l = absurd (omega arith)
none_passes test (x ∷ s) h zero d l = ⊎_elim (λ e. absurd (omega (arith, rw e at h))) (λ e. e) (true_or_false (test x))
none_passes test (x ∷ s) h (suc i) d l =
    ⊎_elim (λ e. absurd (omega (arith, rw e at h)))
    (λ e. let k = rw e at h in none_passes test s (omega arith) i d (omega arith)) (true_or_false (test x))

-- ---- a list that is filled from the front: one store more, and all

pub filled_more : {A : Type 0} (new old : List A) (i : ℕ) (d : A) → i < length new → i < length old →
    set (take i new ++ drop i old) i (get_or new i d) ≡ take (i + 1) new ++ drop (i + 1) old
filled_more new old i d h k =
    rw (add-one, drop-cons old i d k, take-suc new i d h)
    (set_at (take i new) _ _ _ i (length-take-le i new (omega arith)) ∙ sym (append_snoc (take i new) (get_or new i d) (drop (suc i) old)))

pub filled_all : {A : Type 0} (new old : List A) (i : ℕ) → length new ≤ i → length old ≤ i → take i new ++ drop i old ≡ new
filled_all new old i h k = rw (take_all i new h, drop_of_length-le old k) (append-nil new)

-- ---- zip_with of two lists of one length

pub zip_with-length : {A B C : Type 0} (f : A → B → C) (xs : List A) (ys : List B) → length xs ≡ length ys → length (zip_with f xs ys) ≡ length xs
unfolding zip_with
zip_with-length f [] ys e = refl
zip_with-length f (x ∷ xs) [] e = absurd (omega arith)
zip_with-length f (x ∷ xs) (y ∷ ys) e = ap suc (zip_with-length f xs ys (omega arith))

pub zip_with_at : {A B C : Type 0} (f : A → B → C) (xs : List A) (ys : List B) (i : ℕ) (a : A) (b : B) (c : C) → i < length xs → i < length ys → get_or (zip_with f xs ys) i c ≡ f (get_or xs i a) (get_or ys i b)
unfolding zip_with
zip_with_at f [] ys i a b c h k = absurd (omega arith)
zip_with_at f (x ∷ xs) [] i a b c h k = absurd (omega arith)
zip_with_at f (x ∷ xs) (y ∷ ys) zero a b c h k = refl
zip_with_at f (x ∷ xs) (y ∷ ys) (suc i) a b c h k = zip_with_at f xs ys i a b c (omega arith) (omega arith)

-- ---- reverse_aux: the first list in reverse, then the second, and no element lost

pub reverse_aux_right : {A : Type 0} {x : A} (xs : List A) {ys : List A} → Memᴰ x ys → Memᴰ x (reverse_aux xs ys)
reverse_aux_right [] i = i
reverse_aux_right (y ∷ xs) i = reverse_aux_right xs (mathlib.Core.List.Memᴰ.tail i)

pub reverse_aux_left : {A : Type 0} {x : A} {xs : List A} (ys : List A) → Memᴰ x xs → Memᴰ x (reverse_aux xs ys)
reverse_aux_left ys (mathlib.Core.List.Memᴰ.head {xs} e) = reverse_aux_right xs (mathlib.Core.List.Memᴰ.head e)
reverse_aux_left ys (mathlib.Core.List.Memᴰ.tail {x = y} i) = reverse_aux_left (y ∷ ys) i

-- an element of a list of three is one of them
pub one_of_three : {A : Type 0} (P : A → Type 0) {a b c x : A} → P a → P b → P c → Memᴰ x (a ∷ b ∷ c ∷ []) → P x
one_of_three P u v w (mathlib.Core.List.Memᴰ.head e) = rw e u
one_of_three P u v w (mathlib.Core.List.Memᴰ.tail (mathlib.Core.List.Memᴰ.head e)) = rw e v
one_of_three P u v w (mathlib.Core.List.Memᴰ.tail (mathlib.Core.List.Memᴰ.tail (mathlib.Core.List.Memᴰ.head e))) = rw e w
one_of_three P u v w (mathlib.Core.List.Memᴰ.tail (mathlib.Core.List.Memᴰ.tail (mathlib.Core.List.Memᴰ.tail i))) = absurd (mathlib.Core.List.Memᴰ.not-nil i)

-- ---- an element by its index

-- in the list it does not matter what is said to stand past its end
pub any_default : {A : Type 0} (xs : List A) (i : ℕ) (d e : A) → i < length xs → get_or xs i d ≡ get_or xs i e
any_default [] i d e h = absurd (omega arith)
any_default (x ∷ xs) zero d e h = refl
any_default (x ∷ xs) (suc i) d e h = any_default xs i d e (omega arith)

-- and it is one of the list's elements
pub get_or_in : {A : Type 0} (xs : List A) (i : ℕ) (d : A) → i < length xs → Memᴰ (get_or xs i d) xs
get_or_in [] i d h = absurd (omega arith)
get_or_in (x ∷ xs) zero d h = mathlib.Core.List.Memᴰ.head refl
get_or_in (x ∷ xs) (suc i) d h = mathlib.Core.List.Memᴰ.tail (get_or_in xs i d (omega arith))

-- copies of d, and d past them, are d everywhere
pub replicate_default : {A : Type 0} (n k : ℕ) (d : A) → get_or (replicate n d) k d ≡ d
replicate_default zero k d = refl
replicate_default (suc n) zero d = refl
replicate_default (suc n) (suc k) d = replicate_default n k d

-- ---- the rest of a front part is a front part of the rest

pub drop-take : {A : Type 0} (k n : ℕ) (l : List A) → drop k (take n l) ≡ take (n - k) (drop k l)
drop-take zero n l = let e : n - 0 ≡ n = omega arith in rw e
drop-take (suc k) zero l = let e : 0 - suc k ≡ 0 = omega arith in rw e
drop-take (suc k) (suc n) [] = sym (take-nil (suc n - suc k))
drop-take (suc k) (suc n) (x ∷ l) = let e : suc n - suc k ≡ n - k = omega arith in drop-take k n l ∙ rw e
