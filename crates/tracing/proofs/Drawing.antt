-- The two trails from x make one walk: the trail on as it was written, the trail back with each step turned round. Their low pixels add up, and x counts
-- at most once; their far ends are its ends.
use Prim.Native.Nat.{ℕ, suc, ◌+◌, ◌-◌, ◌≤◌, ◌<◌}
use mathlib.Core.Path.{◌≡◌, ap, subst, ◌∙◌}
use mathlib.Core.Bool.{true, false}
use mathlib.Core.List.{List, Memᴰ}
use mathlib.Core.Logic.{⊎_elim}
use native.Mathlib.Omega.{arith}
use lib.ListN.{length, get_or}
use Rattle.basics.proofs.Numbers.{le_or_lt}
use Rattle.basics.proofs.Lists.{get_or_in}
use Rattle.plate.specs.Paths.{next}
use Rattle.theory.proofs.Reversal.{turn_back}
use Rattle.theory.proofs.Recorded.{recorded_walk, low_recorded, low_split, low_same}
use Rattle.headings.specs.Trails.{Trail}
use Rattle.tracing.specs.Following.{low_along}
use Rattle.tracing.specs.Drawing.{Drawn}
use Rattle.theory.proofs.Walks.{last_at}
use Rattle.theory.specs.Walks.{Walk, around, last_of}
use Rattle.theory.specs.BestWalks.{under, low_pixels, low_from, ended}

module _ (slack W H bit : ℕ) (g : ℕ → ℕ) (t m k x l i : ℕ) (first mid path : List ℕ) (l≤m : l ≤ m) (i≤k : i ≤ k) (size : length first ≡ m + 1)
    (here : get_or first l 0 ≡ x)
    (on : Trail W H bit false first mid l (m - l)) (few_on : low_along false g t mid l (m - l + 1) ≤ k - i)
    (end_on : t ≤ ended slack (g (get_or mid (l + (m - l)) 0)))
    (back : Trail W H bit true mid path l l) (few-back : low_along true g t path l (l + 1) ≤ i)
    (end_back : t ≤ ended slack (g (get_or path (l - l) 0))) where
  -- the steps from x on
  step_on : (j : ℕ) → l ≤ j → j < m → Memᴰ (get_or path (suc j) 0) (next W H bit (get_or path j 0))
  unfolding around
  step_on j a b =
      let e : l + (j - l) ≡ j = omega arith in
      let f : l + (j - l + 1) ≡ suc j = omega arith in
      let s : Memᴰ (get_or mid (l + (j - l + 1)) 0) (next W H bit (get_or mid (l + (j - l)) 0)) = on.step (j - l) (omega arith) in
      rw (back.kept j a, back.kept (suc j) (omega arith)) (rw (e, f) at s)

  -- and those before it
  step_back : (j : ℕ) → j < l → Memᴰ (get_or path (suc j) 0) (next W H bit (get_or path j 0))
  unfolding around
  step_back j a =
      let e : l - (l - suc j) ≡ suc j = omega arith in
      let f : l - (l - suc j + 1) ≡ j = omega arith in
      let s = back.step (l - suc j) (omega arith) in
      turn_back W H bit (get_or path (suc j) 0) (get_or path j 0) (rw (e, f) at s)

  step_each : (j : ℕ) → j < m → Memᴰ (get_or path (suc j) 0) (next W H bit (get_or path j 0))
  step_each j b = ⊎_elim (λ a. step_on j a b) (λ a. step_back j a) (le_or_lt l j)

  whole : length path ≡ suc m
  whole = omega (arith, back.len, on.len)

  x_there : get_or path l 0 ≡ x
  x_there = back.kept l (omega arith) ∙ on.kept l (omega arith) ∙ here

  -- the pixels after x are as they were written on
  low_after : low_from g t path (suc l) (m - l) + under t (g (get_or mid l 0)) ≡ low_from g t mid l (m - l + 1)
  unfolding low_from
  low_after =
      let e : m - l + 1 ≡ suc (m - l) = omega arith in
      rw e (omega (arith, low_same g t path mid (suc l) (m - l) (λ j a b. back.kept j (omega arith))))

  few_all : low_pixels g t path ≤ k
  few_all =
      let e : m + 1 ≡ l + 1 + (m - l) = omega arith in
      let f : 0 + (l + 1) ≡ suc l = omega arith in
      let n : l + 1 - (l + 1) ≡ 0 = omega arith in
      let before : low_from g t path 0 (l + 1) ≤ i = rw n at few-back in
      let all : low_pixels g t path ≡ low_from g t path 0 (l + 1 + (m - l)) = low_recorded g t path ∙ ap (low_from g t path 0) (let h : length path ≡ l + 1 + (m - l) = omega (arith, whole) in h) in
      let parts : low_from g t path 0 (l + 1 + (m - l)) ≡ low_from g t path 0 (l + 1) + low_from g t path (suc l) (m - l) = rw f at (low_split g t path 0 (l + 1) (m - l)) in
      omega (arith, low_after)

  whole_walk : Walk (next W H bit) m (get_or path 0 0) path
  whole_walk = recorded_walk (next W H bit) m path whole step_each

  -- the trail back ends where the walk starts, and the trail on where it ends
  start_clear : t ≤ ended slack (g (get_or path 0 0))
  start_clear = let e : l - l ≡ 0 = omega arith in rw e at end_back

  end_clear : t ≤ ended slack (g (last_of path))
  end_clear =
      let e : l + (m - l) ≡ m = omega arith in
      rw (last_at whole_walk, back.kept m l≤m) (rw e at end_on)

  pub drawn : Drawn slack W H bit g t m k x path
  drawn =
      record {
        walk = whole_walk;
        crosses = subst (λ (p : ℕ). Memᴰ p path) x_there (get_or_in path l 0 (omega (arith, whole)));
        few = few_all;
        starts = start_clear;
        ends = end_clear;
      }
