-- `index_of` goes through the bits of the table: at each of them the definition's search computes, and it passes every other number.
use Prim.Native.Nat.{ℕ}
use mathlib.Core.Path.{◌≡◌}
use mathlib.Core.Bool.{false}
use lib.Dec.{eqb}
use native.Mathlib.Omega.{arith}
use borrow.Author.Tests.{ne_eqb}
use Rattle.basics.specs.Lists.{first_of}
use Rattle.plate.specs.Directions.{table, index_of}
use Rattle.plate.proofs.steps.index_of.Goals as goal

pub returns-in-1 : goal.returns-in-1
unfolding index_of first_of table
returns-in-1 c = rw c.in-1.is

pub returns-in-2 : goal.returns-in-2
unfolding index_of first_of table
returns-in-2 c = rw c.in-2.is

pub returns-in-4 : goal.returns-in-4
unfolding index_of first_of table
returns-in-4 c = rw c.in-4.is

pub returns-in-8 : goal.returns-in-8
unfolding index_of first_of table
returns-in-8 c = rw c.in-8.is

pub returns-in_default : goal.returns-in_default
unfolding index_of first_of table
returns-in_default c =
    let ne : (n : ℕ) → (n ≡ c.args.direction → ⊥) → eqb n c.args.direction ≡ false = λ n h. ne_eqb n _ h in
    simp (ne 1 (λ e. omega arith), ne 2 (λ e. omega arith), ne 4 (λ e. omega arith), ne 8 (λ e. omega arith))
