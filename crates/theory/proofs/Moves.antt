-- A step in columns and rows, as equations of natural numbers. A change of a column or a row is what it adds and what it takes away, so that a step
-- from one place to another says: the old one and the gain are the new one and the loss.
use Prim.Native.Nat.{ℕ, suc, ◌+◌, ◌-◌, ◌*◌, ◌/◌, ◌%◌, ◌<◌}
use mathlib.Core.Path.{◌≡◌, sym, ap}
use mathlib.Core.List.{List, Memᴰ}
use mathlib.Core.Logic.{⊎_elim}
use native.Mathlib.Omega.{arith}
use lib.IntN.{ℤ, pos, negsuc, ◌+ℤ◌, pos-ne-negsuc}
use borrow.Author.Tests.{lt-ltb, le-ltb}
use Rattle.basics.proofs.Numbers.{le_or_lt}
use Rattle.plate.specs.Directions.{Step}
use Rattle.plate.specs.Paths.{reached_by}
use Rattle.theory.proofs.Steps.{stepped, step_to, landed_column, landed_row, column_below, row_below, reached_find, reached_keep}

abbrev pub gain : ℤ → ℕ
gain (pos n) = n
gain (negsuc n) = 0

abbrev pub loss : ℤ → ℕ
loss (pos n) = 0
loss (negsuc n) = suc n

pub changed : (a : ℕ) (z : ℤ) (b : ℕ) → pos a +ℤ z ≡ pos b → a + gain z ≡ b + loss z
changed a (pos n) b e = let e' : a + n ≡ b = cc in omega arith
changed a (negsuc n) b e =
    ⊎_elim
    (λ h. let f : pos (a - suc n) ≡ pos b = rw (le-ltb a (suc n) h) at e in
    let f' : a - suc n ≡ b = cc in omega arith)
    (λ h. let f : negsuc (suc n - suc a) ≡ pos b = rw (lt-ltb a (suc n) h) at e in
    absurd (pos-ne-negsuc b (suc n - suc a) (sym f)))
    (le_or_lt (suc n) a)

pub change : (a : ℕ) (z : ℤ) (b : ℕ) → a + gain z ≡ b + loss z → pos a +ℤ z ≡ pos b
change a (pos n) b e = ap pos (omega arith)
change a (negsuc n) b e = rw (le-ltb a (suc n) (omega arith)) (ap pos (omega arith))

-- one of these steps leads from column c and row r to column d and row e, all of them on the plate
pub record Move (W H : ℕ) (ss : List Step) (c r d e : ℕ) : Type 0 where
  pub step : Step
  pub is_step : Memᴰ step ss
  pub columns : c + gain step.column ≡ d + loss step.column
  pub rows : r + gain step.row ≡ e + loss step.row
  pub from_column : c < W
  pub from_row : r < H
  pub to_column : d < W
  pub to_row : e < H

module _ (W H : ℕ) (ss : List Step) where
  pub reached_move : (p q : ℕ) → Memᴰ q (reached_by W H ss p) → Move W H ss (p % W) (p / W) (q % W) (q / W)
  reached_move p q i =
      let f = reached_find W H ss p q i in
      let g = stepped W H f.0 p q f.2 in
      let l = g.1 in
      rw (landed_column l, landed_row l)
      (record {
        step = f.0;
        is_step = f.1;
        columns = changed (p % W) f.0.column l.col l.is_col;
        rows = changed (p / W) f.0.row l.row l.is_row;
        from_column = column_below W H p g.0;
        from_row = row_below W H p g.0;
        to_column = l.col<;
        to_row = l.row<;
      })

  pub move_reached : {c r d e : ℕ} → Move W H ss c r d e → Memᴰ (e * W + d) (reached_by W H ss (r * W + c))
  move_reached {c} {r} {d} {e} m =
      reached_keep W H (r * W + c) (e * W + d) m.is_step
      (step_to W H m.step c r d e m.from_column m.from_row m.to_column m.to_row
      (change c m.step.column d m.columns) (change r m.step.row e m.rows))
