-- Walking on and walking back, as one. A side has the places that a step leads to, how many steps its longest walk from a pixel has (`steps_left`), and how
-- many the longest walk of the other side has (`steps_behind`). Whatever is shown of a side holds of both.
use Prim.Native.Nat.{ℕ, zero, suc, ◌+◌, ◌*◌, ◌≤◌, ◌<◌}
use mathlib.Core.Path.{◌≡◌}
use mathlib.Core.Bool.{Bool, true, false}
use mathlib.Core.List.{List, [], ◌∷◌, Memᴰ}
use native.Mathlib.Omega.{arith}
use Rattle.plate.specs.Paths.{span}
use Rattle.theory.specs.Walks.{Walk, Walk.stop, WalkFrom, around}
use Rattle.theory.specs.Ranks.{steps_left, steps_behind}
use Rattle.theory.proofs.Walks.{step_first}
use Rattle.theory.proofs.Steps.{next_on}
use Rattle.theory.proofs.Reversal.{turn_back}
use Rattle.theory.proofs.Ranks.{bits, Ranked, ranked}
use Rattle.theory.proofs.Span.{walk_fits, back_fits}

pub record Side (W H bit : ℕ) (side : Bool) : Type 0 where
  -- a walk has no more steps than its first pixel has room
  pub fits : {m p : ℕ} {ps : List ℕ} → p < W * H → Walk (around side W H bit) m p ps → m ≤ steps_left W H bit side p
  -- where there is room, some step takes just one of it
  pub onward : (p : ℕ) → p < W * H → 0 < steps_left W H bit side p → (q : ℕ) × Memᴰ q (around side W H bit p) × (steps_left W H bit side p ≡ steps_left W H bit side q + 1)
  -- every step leaves more room on the other side
  pub rises : (p q : ℕ) → Memᴰ q (around side W H bit p) → steps_behind W H bit side p < steps_behind W H bit side q
  pub stays : (p q : ℕ) → Memᴰ q (around side W H bit p) → (p < W * H) × (q < W * H)
  -- the two rooms and the pixel itself make up the span
  pub total : (p : ℕ) → p < W * H → steps_left W H bit side p + steps_behind W H bit side p + 1 ≡ span W H bit

module _ (W H bit : ℕ) (R : Ranked W H bit) where
  forwards : Side W H bit false
  unfolding around
  forwards =
      record {
        fits = λ h w. omega (arith, walk_fits W H bit R h w);
        onward = λ p h r.
            let s = R.rank_next p h (omega arith) in
            (s.0, s.1, omega (arith, s.2, R.rank_bound s.0 (next_on W H bit p s.0 s.1).1));
        rises = λ p q i. R.rank_up p q i;
        stays = λ p q i. next_on W H bit p q i;
        total = λ p h. omega (arith, R.rank_bound p h);
      }

  backwards : Side W H bit true
  unfolding around
  backwards =
      record {
        fits = λ h w. back_fits W H bit R w;
        onward = λ p h r. R.rank_back p h r;
        rises = λ p q i.
            let t = turn_back W H bit p q i in
            let on = next_on W H bit q p t in
            omega (arith, R.rank_up q p t, R.rank_bound p on.1, R.rank_bound q on.0);
        stays = λ p q i. let on = next_on W H bit q p (turn_back W H bit p q i) in (on.1, on.0);
        total = λ p h. omega (arith, R.rank_bound p h);
      }

pub side : (W H bit : ℕ) → Memᴰ bit bits → (b : Bool) → Side W H bit b
side W H bit i true = backwards W H bit (ranked W H bit i)
side W H bit i false = forwards W H bit (ranked W H bit i)

-- a walk of m steps starts at p exactly when p has room for it: here that it then does
pub side_walk : {W H bit : ℕ} {b : Bool} → Side W H bit b → (m p : ℕ) → p < W * H → m ≤ steps_left W H bit b p → WalkFrom (around b W H bit) m p
side_walk S zero p h l = record { pixels = p ∷ []; walk = stop }
side_walk S (suc m) p h l =
    let r = S.onward p h (omega arith) in
    step_first r.1 (side_walk S m r.0 (S.stays p r.0 r.1).1 (omega (arith, r.2)))
