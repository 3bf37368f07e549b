-- A path walked backwards is a path of the negated steps. A single step turns round because what it adds to a column or a row the negated step takes
-- away; a walk turns round step by step.
use Prim.Native.Nat.{ℕ, zero, suc, ◌*◌, ◌<◌}
use mathlib.Core.Path.{◌≡◌, refl, sym, ap, ◌∙◌}
use mathlib.Core.List.{List, [], map, reverse, Memᴰ}
use native.Mathlib.Nat.{div-add-mod'}
use lib.IntN.{ℤ, pos, negsuc, neg_ℤ, neg_ℤ-neg_ℤ}
use Rattle.basics.proofs.Lists.{map-keep, map_undone, reverse_aux_left}
use Rattle.plate.specs.Directions.{Step, steps}
use Rattle.plate.specs.Paths.{reached_by, next, paths_in}
use Rattle.theory.specs.Walks.{Walk, WalkOf, minus, back}
use Rattle.theory.proofs.Steps.{reached_on}
use Rattle.theory.proofs.Moves.{gain, loss, Move, reached_move, move_reached}
use Rattle.theory.proofs.Walks.{walk_first}
use Rattle.theory.proofs.Cutting.{reversed}
use Rattle.theory.proofs.Listed.{listed_walk, walk_listed, walk_started}

-- what a change adds, the negated change takes away
gain_minus : (z : ℤ) → gain (neg_ℤ z) ≡ loss z
gain_minus (pos zero) = refl
gain_minus (pos (suc n)) = refl
gain_minus (negsuc n) = refl

loss_minus : (z : ℤ) → loss (neg_ℤ z) ≡ gain z
loss_minus z = sym (gain_minus (neg_ℤ z)) ∙ ap (λ (y : ℤ). gain y) (neg_ℤ-neg_ℤ z)

turn_move : {W H c r d e : ℕ} {ss : List Step} → Move W H ss c r d e → Move W H (map minus ss) d e c r
unfolding minus
turn_move m =
    record {
      step = minus m.step;
      is_step = map-keep minus m.is_step;
      columns = rw (gain_minus m.step.column, loss_minus m.step.column) (sym m.columns);
      rows = rw (gain_minus m.step.row, loss_minus m.step.row) (sym m.rows);
      from_column = m.to_column;
      from_row = m.to_row;
      to_column = m.from_column;
      to_row = m.from_row;
    }

turn_by : (W H : ℕ) (ss : List Step) (p q : ℕ) → Memᴰ q (reached_by W H ss p) → Memᴰ p (reached_by W H (map minus ss) q)
turn_by W H ss p q i =
    rw (div-add-mod' p W, div-add-mod' q W) at (move_reached W H (map minus ss) (turn_move (reached_move W H ss p q i)))

minus_minus : (s : Step) → minus (minus s) ≡ s
unfolding minus
minus_minus s = simp neg_ℤ-neg_ℤ

pub turn : (W H bit p q : ℕ) → Memᴰ q (next W H bit p) → Memᴰ p (back W H bit q)
unfolding next back
turn W H bit p q i = turn_by W H (steps bit) p q i

pub turn_back : (W H bit p q : ℕ) → Memᴰ q (back W H bit p) → Memᴰ p (next W H bit q)
unfolding next back
turn_back W H bit p q i = rw (map_undone minus minus_minus (steps bit)) at (turn_by W H (map minus (steps bit)) p q i)

-- a step back starts and ends on the plate
pub back_on : (W H bit p q : ℕ) → Memᴰ q (back W H bit p) → (p < W * H) × (q < W * H)
unfolding back
back_on W H bit p q i = reached_on W H (map minus (steps bit)) p q i

-- ---- whole paths: a path walked backwards, from its last pixel to its first, is a path of the negated steps

module _ (W H bit : ℕ) where
  pub walk_reversed : {m p : ℕ} {ps : List ℕ} → Walk (next W H bit) m p ps → WalkOf (back W H bit) m (reverse ps)
  walk_reversed w = reversed (next W H bit) (back W H bit) (turn W H bit) w

  pub back_reversed : {m p : ℕ} {ps : List ℕ} → Walk (back W H bit) m p ps → WalkOf (next W H bit) m (reverse ps)
  back_reversed w = reversed (back W H bit) (next W H bit) (turn_back W H bit) w

  -- the same of the listed paths
  pub path_reversed : (m : ℕ) (ps : List ℕ) → Memᴰ ps (paths_in W H (suc m) bit) → WalkOf (back W H bit) m (reverse ps)
  path_reversed m ps i = walk_reversed (listed_walk W H bit m ps i).walk

  pub reversed_path : {m p : ℕ} {ps : List ℕ} → p < W * H → Walk (back W H bit) m p ps → Memᴰ (reverse ps) (paths_in W H (suc m) bit)
  reversed_path h w =
      let v = back_reversed w in
      walk_listed W H bit (walk_started W H bit v.walk (reverse_aux_left [] (walk_first w)) h) v.walk
