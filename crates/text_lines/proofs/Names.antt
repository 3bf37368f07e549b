-- What two searches of std answer, in the format's terms: for a byte, and for a name at the front of a line.
use Prim.Native.Nat.{ℕ, suc, ◌+◌}
use mathlib.Core.Path.{◌≡◌, refl, sym}
use mathlib.Core.Bool.{false}
use mathlib.Core.List.{List, [], ◌∷◌}
use mathlib.Core.Logic.{⊎_elim}
use native.Mathlib.Omega.{arith}
use lib.Dec.{eqb}
use lib.ListN.{length, take, drop}
use lib.Pointwise.{pointwise}
use borrow.Author.Tests.{eq-eqb, lt-ltb, le-ltb}
use Rattle.std.specs.Option.{unwrap_or}
use Rattle.std.specs.List.{position, position_or_len}
use Rattle.std.proofs.lemmas.Bool.{eqb-true}
use Rattle.std.proofs.lemmas.Bool.Decides.{nat_tests}
use Rattle.std.proofs.lemmas.List.Recursion.{is_position_or_len}
use Rattle.basics.specs.Lists.{first_of}
use Rattle.basics.proofs.Lists.{first_of_le}
use Rattle.basics.proofs.Numbers.{le_or_lt}
use Rattle.basics.proofs.Tests.{true_or_false}
use Rattle.text_lines.specs.Format.{is, after}
use Rattle.text_lines.specs.Answers.{whether}

-- the place of the first element that passes, or else the length
pub first_position : {A : Type 0} (test : A → _) (xs : List A) → unwrap_or (position test xs) (length xs) ≡ first_of test xs
unfolding first_of
first_position test xs =
    let e : first_of test xs ≡ position_or_len test xs = is_position_or_len (first_of test) test refl (λ x ys. let k : 1 + first_of test ys ≡ suc (first_of test ys) = omega arith in rw k refl) xs in
    ⊎_elim (λ l. rw (← e, le-ltb (first_of test xs) (length xs) l) (omega (arith, first_of_le test xs))) (λ l. rw (← e, lt-ltb (first_of test xs) (length xs) l)) (le_or_lt (length xs) (first_of test xs))

-- byte by byte, the name is the front of the line
pub after_pointwise : (name s : List ℕ) → whether (pointwise eqb name (take (length name) s)) (drop (length name) s) ≡ after name s
unfolding after is
after_pointwise [] s = refl
after_pointwise (c ∷ cs) [] = refl
after_pointwise (c ∷ cs) (b ∷ bs) =
    ⊎_elim (λ t. rw (eq-eqb c b (sym (eqb-true b c t)), t) (after_pointwise cs bs))
    (λ t. let e : eqb c b ≡ false = grind (arith, nat_tests) in
    let f : is c b ≡ false = t in rw (e, f))
    (true_or_false (eqb b c))
