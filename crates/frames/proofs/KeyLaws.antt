-- The keys and levels of a mode, case by case, and what is made of a level that the code reads.
use Prim.Native.Nat.{ℕ, zero, suc, ◌-◌, ◌≤◌, ◌<◌}
use mathlib.Core.Path.{◌≡◌, refl, sym, ap, ◌∙◌}
use mathlib.Core.List.{List}
use mathlib.Core.Logic.{◌⊎◌, inl, inr, ⊎_elim}
use native.Mathlib.Omega.{arith}
use lib.ListN.{length, get_or}
use lib.IntN.{ℤ, pos}
use lib.Signed.{mag}
use borrow.Author.Tests.{eq-eqb, ne_eqb}
use mir.Syntax.{w16}
use mir.Val.{to_z, of_z}
use Rattle.plate.specs.Levels.{key, level, mirror}
use Rattle.plate.specs.Opening.{level_at}
use Rattle.plate.proofs.ReadLevels.{read_level}
use Rattle.plate.proofs.Keys.{level_key, key_level, key_bound, mirror_level}
use Rattle.frames.specs.Keys.{key_by, level_by}

zero_or_not : (n : ℕ) → (n ≡ 0) ⊎ (n ≡ 0 → ⊥)
zero_or_not zero = inl refl
zero_or_not (suc n) = inr (λ e. omega arith)

-- the key by the mode
pub key_plain : (mode : ℕ) (v : ℤ) → mode ≡ 0 → key v ≡ key_by mode v
unfolding key_by
key_plain mode v e = rw (eq-eqb mode 0 e)

-- in another mode than 0 the key is that of the mirrored level
pub mirrored_key : (mode : ℕ) (v : ℤ) → (mode ≡ 0 → ⊥) → key_by mode v ≡ key (mirror v)
unfolding key_by
mirrored_key mode v e = rw (ne_eqb mode 0 e)

pub level_plain : (mode k : ℕ) → mode ≡ 0 → level_by mode k ≡ level k
unfolding level_by
level_plain mode k e = rw (eq-eqb mode 0 e)

pub level_mirrored : (mode k : ℕ) → (mode ≡ 0 → ⊥) → level_by mode k ≡ mirror (level k)
unfolding level_by
level_mirrored mode k e = rw (ne_eqb mode 0 e)

-- the mirror turns the order round
pub mirror_key : (v : ℤ) → mag v < 32768 → key (mirror v) ≡ 65535 - key v
mirror_key v h =
    ap (λ (u : ℤ). key (mirror u)) (sym (level_key v h)) ∙ ap key (mirror_level (key v) (key_bound v h)) ∙ key_level (65535 - key v)

pub key_by_bound : (mode : ℕ) (v : ℤ) → mag v < 32768 → key_by mode v ≤ 65535
key_by_bound mode v h =
    ⊎_elim (λ e. omega (arith, key_plain mode v e, key_bound v h)) (λ e. omega (arith, mirrored_key mode v e, mirror_key v h)) (zero_or_not mode)

-- what is made of an element of the plate, as the code reads it, is made of the level there
pub level_read :
    (g : ℤ → ℕ) (xs : List ℤ) (i n : ℕ) →
    mag (get_or xs i (pos 0)) < 32768 →
    i < length xs →
    n ≡ g (to_z w16 (of_z w16 (get_or xs i (pos 0)))) →
    n ≡ g (level_at xs i)
level_read g xs i n f h e =
    e ∙ ap g (read_level xs i f h)
