-- The laws of `admits`: which paths count at a level. A path with no pixel below that is not below on an admitted one is admitted, and the rest
-- follows, for both values of `ends`. The text of `admits` is opened by `admitted_few`, `admitted_ends` and `few_admitted` alone (the worked plates
-- aside, which are computed).
use Prim.Native.Nat.{ℕ, ◌+◌, ◌≤◌, ◌<◌}
use mathlib.Core.Path.{◌≡◌, refl, ◌∙◌}
use mathlib.Core.Bool.{Bool, false, not, ◌||◌}
use mathlib.Core.Logic.{⊎_elim}
use mathlib.Core.List.{List, [], ◌∷◌, ◌++◌, Memᴰ}
use native.Mathlib.Omega.{arith}
use lib.Dec.{T, leb, eqb, leb→le, le→leb}
use borrow.Author.Tests.{eqb-true, eq-eqb}
use lib.IntN.{ℤ}
use lib.Signed.{mag, lt_z, ◌≤ℤ◌, ◌<ℤ◌, lt_z_yes, clash_ℤ}
use Rattle.basics.proofs.Order.{≤ℤ-<ℤ-trans}
use Rattle.basics.proofs.Tests.{true_or_false, T_true, true_T, and_both, both_and, or_right, count_le, same_test}
use Rattle.plate.specs.Levels.{lowest}
use Rattle.plate.specs.Paths.{last_after, ends_of}
use Rattle.plate.specs.Opening.{level_at, below, admits}
use Rattle.plate.specs.declared.setting.Setting.{Setting}
use Rattle.plate.proofs.Keys.{lowest_le}

-- ---- how many pixels are below

below_fewer :
    (f g : List ℤ) (t u : ℤ) (path : List ℕ) → ((p : ℕ) → Memᴰ p path → level_at g p <ℤ u → level_at f p <ℤ t) → below g u path ≤ below f t path
unfolding below
below_fewer f g t u [] h = omega arith
below_fewer f g t u (p ∷ path) h =
    omega (
      arith,
      count_le (lt_z (level_at g p) u) (lt_z (level_at f p) t) (λ l. (h p (Memᴰ.head refl) (lt_z_yes l)).lt),
      below_fewer f g t u path (λ q i. h q (Memᴰ.tail i)),
    )

below_none : (f : List ℤ) (t : ℤ) (path : List ℕ) → ((p : ℕ) → Memᴰ p path → t ≤ℤ level_at f p) → below f t path ≡ 0
unfolding below
below_none f t [] h = refl
below_none f t (p ∷ path) h =
    omega (
      arith,
      count_le (lt_z (level_at f p) t) false (λ l. clash_ℤ (lt_z_yes l) (h p (Memᴰ.head refl))),
      below_none f t path (λ q i. h q (Memᴰ.tail i)),
    )

below_append : (f : List ℤ) (t : ℤ) (ps qs : List ℕ) → below f t (ps ++ qs) ≡ below f t ps + below f t qs
unfolding below
below_append f t [] qs = omega arith
below_append f t (p ∷ ps) qs = omega (arith, below_append f t ps qs)

-- ---- the end pixels

last_on_path : (p : ℕ) (path : List ℕ) → Memᴰ (last_after p path) (p ∷ path)
unfolding last_after
last_on_path p [] = Memᴰ.head refl
last_on_path p (q ∷ path) = Memᴰ.tail (last_on_path q path)

pub ends_on_path : (path : List ℕ) (p : ℕ) → Memᴰ p (ends_of path) → Memᴰ p path
unfolding ends_of
ends_on_path (q ∷ path) p (Memᴰ.head e) = Memᴰ.head e
ends_on_path (q ∷ path) p (Memᴰ.tail (Memᴰ.head e)) = rw e (last_on_path q path)
ends_on_path [] p i = absurd (mathlib.Core.List.Memᴰ.not-nil i)
ends_on_path (q ∷ path) p (Memᴰ.tail (Memᴰ.tail i)) = absurd (mathlib.Core.List.Memᴰ.not-nil i)

-- a test that is asked with `ends` 1 alone
asked : (ends : ℕ) (test : Bool) → (ends ≡ 1 → T test) → T (not (eqb ends 1) || test)
asked ends test h =
    ⊎_elim (λ e. or_right (not (eqb ends 1)) test (h (eqb-true ends 1 e))) (λ e. rw e tt) (true_or_false (eqb ends 1))

module _ (s : Setting) where
  -- ---- the three that open the definition

  pub admitted_few : (f : List ℤ) (t : ℤ) (path : List ℕ) → T (admits s f t path) → below f t path ≤ s.gaps
  unfolding admits
  admitted_few f t path a = leb→le (below f t path) s.gaps (and_both (leb (below f t path) s.gaps) _ a).0

  pub admitted_ends : (f : List ℤ) (t : ℤ) (path : List ℕ) → T (admits s f t path) → s.ends ≡ 1 → below f t (ends_of path) ≡ 0
  unfolding admits
  admitted_ends f t path a e =
      eqb-true (below f t (ends_of path)) 0 (T_true _ (rw e at (and_both (leb (below f t path) s.gaps) _ a).1))

  pub few_admitted :
      (f : List ℤ) (t : ℤ) (path : List ℕ) → below f t path ≤ s.gaps → (s.ends ≡ 1 → below f t (ends_of path) ≡ 0) → T (admits s f t path)
  unfolding admits
  few_admitted f t path h e =
      both_and (leb (below f t path) s.gaps) _ (le→leb (below f t path) s.gaps h)
      (asked s.ends (eqb (below f t (ends_of path)) 0) (λ one. true_T _ (eq-eqb (below f t (ends_of path)) 0 (e one))))

  -- ---- what the count gives

  -- where each pixel that is below u in g is below t in f, a path admitted in f at t is admitted in g at u
  pub admitted_fewer :
      (f g : List ℤ) (t u : ℤ) (path : List ℕ) → ((p : ℕ) → Memᴰ p path → level_at g p <ℤ u → level_at f p <ℤ t) →
      T (admits s f t path) → T (admits s g u path)
  admitted_fewer f g t u path h a =
      few_admitted g u path (omega (arith, below_fewer f g t u path h, admitted_few f t path a))
      (λ one. omega (arith, below_fewer f g t u (ends_of path) (λ p i. h p (ends_on_path path p i)), admitted_ends f t path a one))

  -- a path with no pixel below t is admitted at t
  pub admitted_clear : (f : List ℤ) (t : ℤ) (path : List ℕ) → ((p : ℕ) → Memᴰ p path → t ≤ℤ level_at f p) → T (admits s f t path)
  admitted_clear f t path h =
      few_admitted f t path (omega (arith, below_none f t path h)) (λ one. below_none f t (ends_of path) (λ p i. h p (ends_on_path path p i)))

  -- a part of an admitted path is admitted, where its ends may be gaps
  pub admitted_part :
      s.ends ≡ 0 → (f : List ℤ) (t : ℤ) {ps : List ℕ} (before part after : List ℕ) → ps ≡ before ++ (part ++ after) →
      T (admits s f t ps) → T (admits s f t part)
  admitted_part free f t {ps} before part after whole a =
      let n : below f t (before ++ (part ++ after)) ≤ s.gaps = admitted_few f t _ (rw whole at a) in
      few_admitted f t part (omega (arith, below_append f t before (part ++ after), below_append f t part after)) (λ one. absurd (omega arith))

  -- ---- what follows

  pub admitted_monotone :
      (f g : List ℤ) (t : ℤ) (path : List ℕ) → ((p : ℕ) → Memᴰ p path → level_at f p ≤ℤ level_at g p) →
      T (admits s f t path) → T (admits s g t path)
  admitted_monotone f g t path h = admitted_fewer f g t t path (λ p i l. ≤ℤ-<ℤ-trans (h p i) l)

  -- a plate counts only by which pixels of the path are below t
  pub admits_by_below :
      (f g : List ℤ) (t : ℤ) (path : List ℕ) → ((p : ℕ) → Memᴰ p path → lt_z (level_at f p) t ≡ lt_z (level_at g p) t) →
      admits s f t path ≡ admits s g t path
  admits_by_below f g t path h =
      same_test (admits s f t path) (admits s g t path)
      (admitted_fewer f g t t path (λ p i l. lt_z_yes (rw (h p i) l.lt)))
      (admitted_fewer g f t t path (λ p i l. lt_z_yes (rw (← h p i) l.lt)))

  pub admitted_lowest : (f : List ℤ) (path : List ℕ) → ((p : ℕ) → mag (level_at f p) < 32768) → T (admits s f lowest path)
  admitted_lowest f path size = admitted_clear f lowest path (λ p i. lowest_le (level_at f p) (size p))

-- of the setting only the gaps and `ends` count, not the length or the directions
pub admitted_by_gaps :
    (s s' : Setting) (f : List ℤ) (t : ℤ) (path : List ℕ) → s.gaps ≡ s'.gaps → s.ends ≡ s'.ends → T (admits s f t path) → T (admits s' f t path)
admitted_by_gaps s s' f t path e d a =
    few_admitted s' f t path (omega (arith, admitted_few s f t path a)) (λ one. admitted_ends s f t path a (d ∙ one))
