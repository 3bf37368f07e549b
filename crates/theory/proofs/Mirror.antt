-- Both modes at once. With `as_mode s`, which leaves a level as it is in mode 0 and mirrors it else, filtering is: turn every level, open, turn
-- back. So each law of the opening is one of the filter, said of turned levels.
use Prim.Native.Nat.{ℕ, ◌*◌, ◌<◌}
use mathlib.Core.Path.{◌≡◌, refl, sym, ap, fun_ext, ◌∙◌}
use mathlib.Core.Bool.{true, false}
use mathlib.Core.List.{List, map, map-id}
use mathlib.Core.Logic.{⊎_elim}
use native.Mathlib.Omega.{arith}
use lib.Dec.{T, eqb}
use lib.ListN.{length, length-map}
use lib.IntN.{ℤ}
use lib.Signed.{mag, ◌≤ℤ◌}
use Rattle.basics.proofs.Tests.{true_or_false}
use Rattle.basics.proofs.Lists.{map_undone, map_at}
use Rattle.plate.specs.Levels.{lowest, mirror}
use Rattle.plate.specs.Paths.{crossed}
use Rattle.plate.specs.Opening.{level_at, opened_at, opened, closed, filtered}
use Rattle.plate.specs.declared.setting.Setting.{Setting}
use Rattle.theory.specs.Modes.{Levels, as_mode}
use Rattle.plate.proofs.Keys.{mirror_mirror, mirror_size, mirror_reverses}
use Rattle.theory.proofs.Opening.{levels_within, Counts, opened_length, level_at_opened, opened_levels, opened_below_own, opened_attained, opened_highest, opened_uncrossed, opened_monotone}
use Rattle.theory.proofs.Idempotent.{opened_idempotent}

module _ (s : Setting) where
  -- the two modes, as a proof goes through them
  pub as-mode :
      {A : Type 0} → (eqb s.mode 0 ≡ true → as_mode s ≡ (λ v. v) → A) → (eqb s.mode 0 ≡ false → as_mode s ≡ mirror → A) → A
  unfolding as_mode
  as-mode opening closing =
      ⊎_elim (λ e. opening e (fun_ext (λ v. rw e))) (λ e. closing e (fun_ext (λ v. rw e))) (true_or_false (eqb s.mode 0))

  pub turned_turned : (v : ℤ) → as_mode s (as_mode s v) ≡ v
  turned_turned v = as-mode (λ e t. rw t) (λ e t. rw t (mirror_mirror v))

  pub turned_size : (v : ℤ) → mag (as_mode s v) ≡ mag v
  turned_size v = as-mode (λ e t. rw t) (λ e t. rw t (mirror_size v))

  -- mode 0 keeps the order, mode 1 turns it round
  pub turned_keeps : eqb s.mode 0 ≡ true → {v w : ℤ} → v ≤ℤ w → as_mode s v ≤ℤ as_mode s w
  unfolding as_mode
  turned_keeps e h = rw e h

  pub turned_reverses : eqb s.mode 0 ≡ false → {v w : ℤ} → v ≤ℤ w → as_mode s w ≤ℤ as_mode s v
  unfolding as_mode
  turned_reverses e h = rw e (mirror_reverses h)

  -- the level at a place of the turned plate
  pub level_at_turned : (f : List ℤ) (x : ℕ) → x < length f → level_at (map (as_mode s) f) x ≡ as_mode s (level_at f x)
  level_at_turned f x h = map_at (as_mode s) f x lowest lowest h

  pub turned_levels : (f : List ℤ) → Levels f → Levels (map (as_mode s) f)
  turned_levels f l =
      levels_within (map (as_mode s) f)
      (λ p h. let on : p < length f = omega (arith, length-map f (as_mode s)) in
      rw (level_at_turned f p on, turned_size (level_at f p)) (l.size p))

  module _ (W H : ℕ) where
    pub filtered_as_mode : (f : List ℤ) → filtered s W H f ≡ map (as_mode s) (opened s W H (map (as_mode s) f))
    unfolding filtered closed
    filtered_as_mode f =
        as-mode (λ e t. rw (e, t) (ap (opened s W H) (sym (map-id f)) ∙ sym (map-id _))) (λ e t. rw (e, t))

    pub filtered_length : (f : List ℤ) → length (filtered s W H f) ≡ W * H
    filtered_length f =
        ap length (filtered_as_mode f)
        ∙ length-map (opened s W H (map (as_mode s) f)) (as_mode s)
        ∙ opened_length s W H (map (as_mode s) f)

    -- turned, the filtered level is the opened level of the turned plate
    pub turned_filtered : (f : List ℤ) (x : ℕ) → x < W * H → as_mode s (level_at (filtered s W H f) x) ≡ opened_at s W H (map (as_mode s) f) x
    turned_filtered f x h =
        let g = opened s W H (map (as_mode s) f) in
        let on : x < length g = omega (arith, opened_length s W H (map (as_mode s) f)) in
        let e : level_at (filtered s W H f) x ≡ as_mode s (level_at g x) = rw (filtered_as_mode f) (level_at_turned g x on) in
        ap (as_mode s) e ∙ turned_turned (level_at g x) ∙ level_at_opened s W H (map (as_mode s) f) x h

    pub level_at_filtered : (f : List ℤ) (x : ℕ) → x < W * H → level_at (filtered s W H f) x ≡ as_mode s (opened_at s W H (map (as_mode s) f) x)
    level_at_filtered f x h = sym (turned_turned (level_at (filtered s W H f) x)) ∙ ap (as_mode s) (turned_filtered f x h)

    pub filtered_levels : (f : List ℤ) → Levels f → Levels (filtered s W H f)
    filtered_levels f l =
        rw (filtered_as_mode f) (turned_levels (opened s W H (map (as_mode s) f)) (opened_levels s W H (map (as_mode s) f) (turned_levels f l)))

    -- ---- of plates with exactly W × H levels

    module _ (f : List ℤ) (room : length f ≡ W * H) (l : Levels f) where
      pub filtered_toward_own : (x : ℕ) → x < W * H → as_mode s (level_at (filtered s W H f) x) ≤ℤ as_mode s (level_at f x)
      filtered_toward_own x h =
          rw (turned_filtered f x h, ← level_at_turned f x (omega arith)) (opened_below_own s W H (map (as_mode s) f) (turned_levels f l) x)

      pub filtered_attained :
          (x : ℕ) → x < W * H → T (crossed W H s.directions s.length x) →
          Counts s W H (map (as_mode s) f) x (as_mode s (level_at (filtered s W H f) x))
      filtered_attained x h c = rw (turned_filtered f x h) (opened_attained s W H (map (as_mode s) f) (turned_levels f l) x c)

      pub filtered_highest :
          (x : ℕ) → x < W * H → (t : ℤ) → mag t < 32768 → t ≤ℤ as_mode s (level_at f x) → Counts s W H (map (as_mode s) f) x t →
          t ≤ℤ as_mode s (level_at (filtered s W H f) x)
      filtered_highest x h t st b c =
          rw (turned_filtered f x h)
          (opened_highest s W H (map (as_mode s) f) (turned_levels f l) x t st (rw (level_at_turned f x (omega arith)) b) c)

    pub filtered_uncrossed :
        (f : List ℤ) (x : ℕ) → x < W * H → crossed W H s.directions s.length x ≡ false → level_at (filtered s W H f) x ≡ as_mode s lowest
    filtered_uncrossed f x h e = level_at_filtered f x h ∙ ap (as_mode s) (opened_uncrossed s W H (map (as_mode s) f) x e)

    opened_as_mode_monotone :
        (f g : List ℤ) → length f ≡ W * H → length g ≡ W * H → Levels f → Levels g →
        ((p : ℕ) → p < W * H → as_mode s (level_at f p) ≤ℤ as_mode s (level_at g p)) → (x : ℕ) → x < W * H →
        opened_at s W H (map (as_mode s) f) x ≤ℤ opened_at s W H (map (as_mode s) g) x
    opened_as_mode_monotone f g rf rg lf lg h =
        opened_monotone s W H (map (as_mode s) f) (map (as_mode s) g) (turned_levels f lf) (turned_levels g lg)
        (λ p i. rw (level_at_turned f p (omega arith), level_at_turned g p (omega arith)) (h p i))

    pub filtered_monotone :
        (f g : List ℤ) → length f ≡ W * H → length g ≡ W * H → Levels f → Levels g →
        ((p : ℕ) → p < W * H → level_at f p ≤ℤ level_at g p) → (x : ℕ) → x < W * H → level_at (filtered s W H f) x ≤ℤ level_at (filtered s W H g) x
    filtered_monotone f g rf rg lf lg h x i =
        rw (level_at_filtered f x i, level_at_filtered g x i)
        (⊎_elim
        (λ e. turned_keeps e (opened_as_mode_monotone f g rf rg lf lg (λ p j. turned_keeps e (h p j)) x i))
        (λ e. turned_reverses e (opened_as_mode_monotone g f rg rf lg lf (λ p j. turned_reverses e (h p j)) x i))
        (true_or_false (eqb s.mode 0)))

-- ---- filtering twice

-- by two settings of one mode, s' first, is opening by both
pub filtered_twice :
    (s s' : Setting) (W H : ℕ) → as_mode s' ≡ as_mode s → (f : List ℤ) →
    filtered s W H (filtered s' W H f) ≡ map (as_mode s) (opened s W H (opened s' W H (map (as_mode s) f)))
filtered_twice s s' W H same f =
    let g = opened s' W H (map (as_mode s) f) in
    let first : filtered s' W H f ≡ map (as_mode s) g = rw same at (filtered_as_mode s' W H f) in
    ap (filtered s W H) first
    ∙ filtered_as_mode s W H (map (as_mode s) g)
    ∙ ap (λ (h : List ℤ). map (as_mode s) (opened s W H h)) (map_undone (as_mode s) (turned_turned s) g)

pub filtered_idempotent : (s : Setting) (W H : ℕ) (f : List ℤ) → Levels f → filtered s W H (filtered s W H f) ≡ filtered s W H f
filtered_idempotent s W H f l =
    filtered_twice s s W H refl f
    ∙ ap (map (as_mode s)) (opened_idempotent s W H (map (as_mode s) f) (turned_levels s f l))
    ∙ sym (filtered_as_mode s W H f)
