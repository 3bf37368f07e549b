-- Sieving twice is sieving once by the larger length (document 02, N2). Opening is monotone, never above the plate, and done twice the same as done
-- once; a longer length keeps no more. So by the shorter and then the longer length a plate opens to no more than by the longer alone, and to no less
-- than what the longer alone has left, opened again; and what the longer has left the shorter leaves as it is.
use Prim.Native.Nat.{ℕ, ◌≤◌}
use mathlib.Core.Path.{◌≡◌, refl, sym, ap, ◌∙◌}
use mathlib.Core.List.{List, map}
use mathlib.Core.Logic.{⊎_elim}
use native.Mathlib.Omega.{arith}
use lib.IntN.{ℤ}
use Rattle.basics.proofs.Numbers.{le_or_lt}
use Rattle.basics.proofs.Order.{≤ℤ-antisym}
use Rattle.plate.specs.Opening.{opened, opened_at}
use Rattle.plate.specs.declared.setting.Setting.{Setting}
use Rattle.theory.specs.Modes.{Levels, as_mode}
use Rattle.theory.specs.SievingTwice.{with_length, Sieves, filtered_by, SievedTwice}
use Rattle.theory.proofs.Opening.{opened_same, level_at_opened, opened_levels, opened_below_own, opened_monotone}
use Rattle.theory.proofs.Idempotent.{opened_at_again}
use Rattle.theory.proofs.Longer.{opened_longer}
use Rattle.theory.proofs.Mirror.{turned_levels, filtered_as_mode, filtered_twice}

-- the mode is not in the length
same_mode : (s : Setting) (M N : ℕ) → as_mode (with_length s M) ≡ as_mode (with_length s N)
unfolding as_mode
same_mode s M N = refl

module _ (s : Setting) (free : s.ends ≡ 0) (W H : ℕ) {K L : ℕ} (some : 1 ≤ K) (shorter : K ≤ L) (f : List ℤ) (l : Levels f) where
  abbrev short : Setting
  short = with_length s K

  abbrev long : Setting
  long = with_length s L

  abbrev by_K : List ℤ
  by_K = opened short W H f

  abbrev by_L : List ℤ
  by_L = opened long W H f

  levels_K : Levels by_K
  levels_K = opened_levels short W H f l

  levels_L : Levels by_L
  levels_L = opened_levels long W H f l

  opened_longer_last : opened long W H by_K ≡ by_L
  opened_longer_last =
      opened_same long long W H by_K f
      (λ x on.
      ≤ℤ-antisym (opened_at long W H by_K x) (opened_at long W H f x)
      (opened_monotone long W H by_K f levels_K l (λ p i. rw (level_at_opened short W H f p i) (opened_below_own short W H f l p)) x on)
      (rw (opened_at_again long W H f l x on) at
      (opened_monotone long W H by_L by_K levels_L levels_K
      (λ p i. rw (level_at_opened long W H f p i, level_at_opened short W H f p i) (opened_longer s free W H some shorter f l p)) x on)))

  opened_longer_first : opened short W H by_L ≡ by_L
  opened_longer_first =
      opened_same short long W H by_L f
      (λ x on.
      ≤ℤ-antisym (opened_at short W H by_L x) (opened_at long W H f x)
      (rw (level_at_opened long W H f x on) at (opened_below_own short W H by_L levels_L x))
      (rw (opened_at_again long W H f l x on) at (opened_longer s free W H some shorter by_L levels_L x)))

module _ (s : Setting) (W H : ℕ) where
  -- ---- both modes

  module _ (free : s.ends ≡ 0) {K L : ℕ} (some : 1 ≤ K) (shorter : K ≤ L) (f : List ℤ) (l : Levels f) where
    longer_last : filtered_by s W H L (filtered_by s W H K f) ≡ filtered_by s W H L f
    longer_last =
        let long = with_length s L in
        filtered_twice long (with_length s K) W H (same_mode s K L) f
        ∙ ap (map (as_mode long)) (opened_longer_last s free W H some shorter (map (as_mode long) f) (turned_levels long f l))
        ∙ sym (filtered_as_mode long W H f)

    longer_first : filtered_by s W H K (filtered_by s W H L f) ≡ filtered_by s W H L f
    longer_first =
        let short = with_length s K in
        let long = with_length s L in
        filtered_twice short long W H (same_mode s L K) f
        ∙ ap (map (as_mode short)) (opened_longer_first s free W H some shorter (map (as_mode short) f) (turned_levels short f l))
        ∙ ap (λ (turn : ℤ → ℤ). map turn (opened long W H (map turn f))) (same_mode s K L)
        ∙ sym (filtered_as_mode long W H f)

  -- ---- the larger length

  by_equal : {M N : ℕ} → (f : List ℤ) → M ≡ N → filtered_by s W H M f ≡ filtered_by s W H N f
  by_equal f e = ap (λ (N : ℕ). filtered_by s W H N f) e

  pub sieved_twice : (K L : ℕ) (f : List ℤ) → Levels f → Sieves s K L → SievedTwice s W H K L f
  sieved_twice K L f l k =
      let some-K : 1 ≤ K = omega arith in
      let some-L : 1 ≤ L = omega arith in
      ⊎_elim
      (λ h.
      record { K_then_L = longer_last k.free_ends some-K h f l ∙ by_equal f (omega arith); L_then_K = longer_first k.free_ends some-K h f l ∙ by_equal f (omega arith) })
      (λ h. let h' : L ≤ K = omega arith in
      record { K_then_L = longer_first k.free_ends some-L h' f l ∙ by_equal f (omega arith); L_then_K = longer_last k.free_ends some-L h' f l ∙ by_equal f (omega arith) })
      (le_or_lt K L)
