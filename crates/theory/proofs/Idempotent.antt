-- Opening twice is opening once. Let t be the opened level of x, above the lowest: a path through x counts at t. A pixel of that path whose level
-- is not below t lies on the path itself, so its opened level is not below t either. So the same pixels of the path are below t before and after,
-- and the path counts again.
use Prim.Native.Nat.{ℕ, ◌*◌, ◌<◌}
use mathlib.Core.Path.{◌≡◌, sym, ◌∙◌}
use mathlib.Core.List.{List, Memᴰ}
use mathlib.Core.Logic.{⊎_elim}
use lib.IntN.{ℤ}
use lib.Signed.{mag, lt_z, ◌≤ℤ◌, ≤ℤ_refl}
use Rattle.basics.proofs.Order.{lt_or_le, ≤ℤ-<ℤ-trans, ≤ℤ-antisym, lt_lt_z, le_lt_z}
use Rattle.plate.specs.Opening.{level_at, opened_at, opened}
use Rattle.plate.specs.declared.setting.Setting.{Setting}
use Rattle.theory.specs.Modes.{Levels}
use Rattle.plate.proofs.Keys.{lowest_le}
use Rattle.theory.proofs.Admission.{admits_by_below}
use Rattle.theory.proofs.Opening.{Counts, recounted, counts_along, counts_on, opened_same, level_at_opened, opened_at_size, opened_levels, opened_below_own, opened_counts_or_lowest, opened_highest}

module _ (s : Setting) (W H : ℕ) (f : List ℤ) (l : Levels f) where
  -- a pixel of a path that counts at t is below t before exactly if it is after
  below_again :
      {x : ℕ} {t : ℤ} → mag t < 32768 → (c : Counts s W H f x t) → (p : ℕ) → Memᴰ p c.path →
      lt_z (level_at f p) t ≡ lt_z (level_at (opened s W H f) p) t
  below_again {t = t} st c p i =
      rw (level_at_opened s W H f p (counts_on s W H c p i))
      (⊎_elim (λ h. lt_lt_z h ∙ sym (lt_lt_z (≤ℤ-<ℤ-trans (opened_below_own s W H f l p) h)))
      (λ h. le_lt_z h ∙ sym (le_lt_z (opened_highest s W H f l p t st h (counts_along s W H c i)))) (lt_or_le (level_at f p) t))

  counts_again : {x : ℕ} {t : ℤ} → mag t < 32768 → Counts s W H f x t → Counts s W H (opened s W H f) x t
  counts_again {t = t} st c =
      recounted s W H c (rw (admits_by_below s f (opened s W H f) t c.path (below_again st c)) at c.admitted)

  pub opened_at_again : (x : ℕ) → x < W * H → opened_at s W H (opened s W H f) x ≡ opened_at s W H f x
  opened_at_again x h =
      let g = opened s W H f in
      let lg = opened_levels s W H f l in
      let t = opened_at s W H f x in
      let e : level_at g x ≡ t = level_at_opened s W H f x h in
      let st = opened_at_size s W H f l x in
      let up : t ≤ℤ opened_at s W H g x =
      ⊎_elim (λ c. opened_highest s W H g lg x t st (rw e (≤ℤ_refl t)) (counts_again st c))
      (λ i. rw i (lowest_le (opened_at s W H g x) (opened_at_size s W H g lg x))) (opened_counts_or_lowest s W H f x) in
      ≤ℤ-antisym (opened_at s W H g x) t (rw e at (opened_below_own s W H g lg x)) up

  pub opened_idempotent : opened s W H (opened s W H f) ≡ opened s W H f
  opened_idempotent = opened_same s s W H (opened s W H f) f opened_at_again
