-- The two modes: a level as the mode looks at it, its key, and the way back.
use Prim.Native.Nat.{ℕ, ◌≤◌, ◌<◌}
use mathlib.Core.Path.{◌≡◌, refl, sym, ap, ◌∙◌}
use mathlib.Core.List.{List, map}
use mathlib.Core.Logic.{⊎_elim}
use lib.Dec.{eqb}
use lib.ListN.{length, get_or}
use lib.IntN.{ℤ, pos}
use lib.Signed.{mag}
use mir.Syntax.{w16}
use mir.Val.{to_z, of_z}
use borrow.Author.Tests.{eq-eqb, ne_eqb, eqb-true, eqb-false}
use Rattle.basics.proofs.Tests.{true_or_false}
use Rattle.plate.specs.Levels.{key, level, mirror}
use Rattle.plate.specs.Opening.{level_at}
use Rattle.plate.specs.declared.setting.Setting.{Setting}
use Rattle.theory.proofs.Mirror.{level_at_turned}
use Rattle.frames.specs.Keys.{key_by, level_by}
use Rattle.frames.proofs.KeyLaws.{key_plain, mirrored_key, key_by_bound, level_read}
use Rattle.tracing.specs.Scans.{key_of}
use Rattle.tracing.specs.declared.scan.Scan.{Scan}
use Rattle.theory.specs.BestWalks.{key_at}
use Rattle.theory.specs.Modes.{Levels, as_mode}

module _ (s : Setting) (v : ℤ) where
  pub turned_opening : s.mode ≡ 0 → as_mode s v ≡ v
  unfolding as_mode
  turned_opening e = rw (eq-eqb s.mode 0 e)

  pub turned_closing : (s.mode ≡ 0 → ⊥) → as_mode s v ≡ mirror v
  unfolding as_mode
  turned_closing n = rw (ne_eqb s.mode 0 n)

  -- the key by the mode is that of the turned level
  pub key_turned : key_by s.mode v ≡ key (as_mode s v)
  key_turned =
      ⊎_elim
      (λ e. sym (key_plain s.mode v (eqb-true s.mode 0 e)) ∙ ap key (sym (turned_opening (eqb-true s.mode 0 e))))
      (λ e. mirrored_key s.mode v (eqb-false s.mode 0 e) ∙ ap key (sym (turned_closing (eqb-false s.mode 0 e))))
      (true_or_false (eqb s.mode 0))

-- the level with a key by the mode is the turned level of the key
pub level_turned : (s : Setting) (k : ℕ) → level_by s.mode k ≡ as_mode s (level k)
unfolding level_by as_mode
level_turned s k = refl

-- so on the plate the keys that the engine works with are those of the turned plate
pub keys_turned : (s : Setting) (f : List ℤ) → Levels f → (p : ℕ) → p < length f → key_by s.mode (level_at f p) ≡ key_at (map (as_mode s) f) p
keys_turned s f l p h = key_turned s (level_at f p) ∙ ap key (sym (level_at_turned s f p h))

-- ---- the keys of a scan

pub keys_bounded : (s : Scan) (plate : List ℤ) → Levels plate → (p : ℕ) → key_of s plate p ≤ 65535
unfolding key_of
keys_bounded s plate levels p = key_by_bound s.setting.mode (level_at plate p) (levels.size p)

-- the key of a pixel, as the code reads its level
pub key_read :
    (s : Scan) (plate : List ℤ) (p k : ℕ) → mag (get_or plate p (pos 0)) < 32768 → p < length plate →
    k ≡ key_by s.setting.mode (to_z w16 (of_z w16 (get_or plate p (pos 0)))) → k ≡ key_of s plate p
unfolding key_of
key_read s plate p k small on e = level_read (key_by s.setting.mode) plate p k small on e
