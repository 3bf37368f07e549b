-- The code's step table is that of the definitions: each of its twelve entries is compared by computation.
use Prim.Native.Nat.{ℕ, zero, suc, ◌≤◌, ◌<◌}
use mathlib.Core.Path.{◌≡◌, refl, sym}
use mathlib.Core.List.{List, [], ◌∷◌, map}
use native.Mathlib.Omega.{arith}
use lib.ListN.{get_or, length, get_or-eq_default}
use lib.IntN.{ℤ, pos, negsuc}
use mir.Syntax.{w8}
use mir.Val.{to_z, of_z}
use Rattle.basics.proofs.Numbers.{below_three, below_four}
use Rattle.plate.specs.Directions.{table, step_at, change_of}

-- the constant as the code holds it
abbrev entries : List (List (List ℤ))
entries =
    ((negsuc 0 ∷ negsuc 0 ∷ []) ∷ (pos 0 ∷ negsuc 0 ∷ []) ∷ (pos 1 ∷ negsuc 0 ∷ []) ∷ [])
    ∷ ((pos 1 ∷ negsuc 0 ∷ []) ∷ (pos 1 ∷ pos 0 ∷ []) ∷ (pos 1 ∷ pos 1 ∷ []) ∷ [])
    ∷ ((pos 1 ∷ pos 0 ∷ []) ∷ (pos 1 ∷ negsuc 0 ∷ []) ∷ (pos 0 ∷ negsuc 0 ∷ []) ∷ [])
    ∷ ((pos 1 ∷ pos 0 ∷ []) ∷ (pos 1 ∷ pos 1 ∷ []) ∷ (pos 0 ∷ pos 1 ∷ []) ∷ [])
    ∷ []

-- what the code reads of an entry: the column change at part 0, the row change at part 1
abbrev read : ℕ → ℕ → ℕ → ℤ
read index number part = to_z w8 (of_z w8 (get_or (get_or (get_or entries index []) number []) part (pos 0)))

record Entry (index number : ℕ) : Type 0 where
  column : read index number 0 ≡ (step_at index number).column
  row : read index number 1 ≡ (step_at index number).row

same : {i n : ℕ} → read i n 0 ≡ (step_at i n).column → read i n 1 ≡ (step_at i n).row → Entry i n
same c r = record { column = c; row = r }

entry : (index number : ℕ) → index < 4 → number < 3 → Entry index number
unfolding step_at table
entry index number h k =
    below_four (λ (i : ℕ). Entry i number) (below_three (Entry 0) (same refl refl) (same refl refl) (same refl refl) number k)
    (below_three (Entry 1) (same refl refl) (same refl refl) (same refl refl) number k)
    (below_three (Entry 2) (same refl refl) (same refl refl) (same refl refl) number k)
    (below_three (Entry 3) (same refl refl) (same refl refl) (same refl refl) number k) index h

pub entry_is : (index number part : ℕ) → index < 4 → number < 3 → part < 2 → read index number part ≡ change_of part (step_at index number)
entry_is index number zero h k l = (entry index number h k).column
entry_is index number (suc zero) h k l = (entry index number h k).row
entry_is index number (suc (suc part)) h k l = absurd (omega arith)

-- past the table nothing changes
no_change : (part : ℕ) → change_of part (record { column = pos 0; row = pos 0 }) ≡ pos 0
no_change zero = refl
no_change (suc part) = refl

none : (index : ℕ) {number : ℕ} → length (get_or (map (λ d. d.steps) table) index []) ≤ number → step_at index number ≡ record { column = pos 0; row = pos 0 }
unfolding step_at
none index k = get_or-eq_default (get_or (map (λ d. d.steps) table) index []) _ k

pub past_table : (index number part : ℕ) → 4 ≤ index → pos 0 ≡ change_of part (step_at index number)
unfolding table
past_table index number part h =
    let empty : length (get_or (map (λ d. d.steps) table) index []) ≤ number = rw (get_or-eq_default (map (λ d. d.steps) table) [] h) (omega arith) in
    rw (none index empty) (sym (no_change part))

pub past_steps : (index number part : ℕ) → index < 4 → 3 ≤ number → pos 0 ≡ change_of part (step_at index number)
unfolding table
past_steps index number part h k =
    below_four (λ (i : ℕ). pos 0 ≡ change_of part (step_at i number)) (still 0 k) (still 1 k) (still 2 k) (still 3 k) index h
  where
    still : (i : ℕ) → length (get_or (map (λ d. d.steps) table) i []) ≤ number → pos 0 ≡ change_of part (step_at i number)
    still i l = rw (none i l) (sym (no_change part))
