-- Laws of the next line, for a reader that stands at a place of the text and has found how many bytes stand before the newline.
use Prim.Native.Nat.{ℕ, suc, ◌+◌, ◌-◌, ◌≤◌, ◌<◌}
use mathlib.Core.Path.{◌≡◌, sym, ◌∙◌}
use mathlib.Core.List.{List, [], ◌∷◌}
use mathlib.Core.Option.{Option, none, some}
use mathlib.Core.Logic.{⊎_elim}
use native.Mathlib.Omega.{arith}
use lib.ListN.{length, take, drop, length-drop, drop_of_length-le}
use lib.Seq.{drop-drop, length-take-le}
use borrow.Author.Tests.{lt-ltb, le-ltb}
use Rattle.basics.specs.Lists.{first_of}
use Rattle.basics.proofs.Lists.{drop-take}
use Rattle.basics.proofs.Tests.{true_or_false}
use Rattle.text_lines.specs.Bytes.{newline}
use Rattle.text_lines.specs.Format.{is, next_line, after, named}

-- a name that a line begins with is no longer than the line
pub after_fits : (name l v : List ℕ) → after name l ≡ some v → length name ≤ length l
unfolding after
after_fits [] l v e = omega arith
after_fits (c ∷ cs) [] v e = absurd (let z : ◌≡◌ {A = ℕ} 0 1 = cc in omega arith)
after_fits (c ∷ cs) (b ∷ bs) v e =
    ⊎_elim (λ t. omega (arith, after_fits cs bs v (rw t at e)))
    (λ t. let f : ◌≡◌ {A = Option (List ℕ)} none (some v) = rw t at e in absurd (let z : ◌≡◌ {A = ℕ} 0 1 = cc in omega arith))
    (true_or_false (is c b))

-- nothing is left
pub missing : (s name : List ℕ) (at : ℕ) → length s ≤ at → named name (drop at s) ≡ none
unfolding named next_line first_of
missing s name at h = rw (drop_of_length-le s h)

module _ (s name : List ℕ) (at n : ℕ) (found : n ≡ first_of (is newline) (drop at s)) where
  -- no newline is left
  pub no_line : length s ≤ at + n → named name (drop at s) ≡ none
  unfolding named next_line
  no_line h = rw (← found, le-ltb n (length (drop at s)) (simp length-drop (omega arith)))

  -- the line, as a part of the text
  line_part : take (at + n - at) (drop at s) ≡ take n (drop at s)
  line_part = let e : at + n - at ≡ n = omega arith in rw e

  pub other_name : at + n < length s → none ≡ after name (take (at + n - at) (drop at s)) → named name (drop at s) ≡ none
  unfolding named next_line
  other_name h e = rw (← found, lt-ltb n (length (drop at s)) (simp length-drop (omega arith)), ← line_part, ← e)

  -- the value stands behind the name, up to the newline
  pub the_value : at + n < length s → some (drop (length name) (take (at + n - at) (drop at s))) ≡ after name (take (at + n - at) (drop at s))
      → named name (drop at s) ≡ some (take (at + n - (at + length name)) (drop (at + length name) s), drop (at + n + 1) s)
  unfolding named next_line
  the_value h e =
      let k : n - length name ≡ at + n - (at + length name) = omega arith in
      let j : at + suc n ≡ at + n + 1 = omega arith in
      let v : drop (length name) (take n (drop at s)) ≡ take (at + n - (at + length name)) (drop (at + length name) s) =
      drop-take (length name) n (drop at s) ∙ rw (k, drop-drop (length name) at s) in
      let f : after name (take n (drop at s)) ≡ some (drop (length name) (take n (drop at s))) = rw line_part at (sym e) in
      rw (← found, lt-ltb n (length (drop at s)) (simp length-drop (omega arith)), f, v, drop-drop (suc n) at s, j)

  pub name_fits : at + n < length s → some (drop (length name) (take (at + n - at) (drop at s))) ≡ after name (take (at + n - at) (drop at s)) → length name ≤ n
  name_fits h e = let f = rw line_part at (sym e) in
      omega (arith, after_fits name _ _ f, length-take-le n (drop at s) (simp length-drop (omega arith)))
