-- Levels by their keys. `omega` reads no signed numbers, so every fact of levels is moved to keys: the order of levels is the order of keys,
-- level and key undo each other on 16 bits, and the mirror takes the key n to 65535 − n.
use Prim.Native.Nat.{ℕ, zero, suc, ◌+◌, ◌-◌, ◌≤◌, ◌<◌}
use mathlib.Core.Path.{◌≡◌, refl, sym, ap, ◌∙◌}
use mathlib.Core.Logic.{⊎_elim}
use native.Mathlib.Omega.{arith}
use lib.Dec.{ltb}
use lib.IntN.{ℤ, pos, negsuc, ◌+ℤ◌}
use lib.Signed.{mag, lt_z, le_z, ◌≤ℤ◌, le_z_yes, lt_z_yes, lt_z_no, clash_ℤ}
use borrow.Author.Tests.{lt-ltb, le-ltb}
use mir.Syntax.{w16}
use mir.Val.{SFits}
use Rattle.basics.proofs.Numbers.{le_or_lt, ltb_same}
use Rattle.plate.specs.Levels.{lowest, level, key, mirror}

-- a level below zero, and from zero on
pub level_negative : (n : ℕ) → n < 32768 → level n ≡ negsuc (32767 - n)
level_negative n h = rw (lt-ltb n 32768 h) (ap negsuc (omega arith))

pub level_positive : (n : ℕ) → 32768 ≤ n → level n ≡ pos (n - 32768)
level_positive n h = rw (le-ltb n 32768 h)

pub lt_z_level : (a b : ℕ) → lt_z (level a) (level b) ≡ ltb a b
lt_z_level a b = ⊎_elim
    (λ h. ⊎_elim
    (λ k. rw (level_positive a h, level_positive b k) (ltb_same (a - 32768) (b - 32768) a b (λ l. omega arith) (λ l. omega arith)))
    (λ k. rw (level_positive a h, level_negative b k) (sym (le-ltb a b (omega arith))))
    (le_or_lt 32768 b))
    (λ h. ⊎_elim
    (λ k. rw (level_negative a h, level_positive b k) (sym (lt-ltb a b (omega arith))))
    (λ k. rw (level_negative a h, level_negative b k) (ltb_same (32767 - b) (32767 - a) a b (λ l. omega arith) (λ l. omega arith)))
    (le_or_lt 32768 b))
    (le_or_lt 32768 a)

pub key_level : (n : ℕ) → key (level n) ≡ n
key_level n = ⊎_elim
    (λ h. rw (level_positive n h) (omega arith))
    (λ h. rw (level_negative n h, le-ltb 32768 (suc (32767 - n)) (omega arith)) (omega arith))
    (le_or_lt 32768 n)

-- `mag v` is n for n and for −(n + 1), so that one bound says that a level has 16 bits
pub level_key : (v : ℤ) → mag v < 32768 → level (key v) ≡ v
level_key (pos n) h = rw (level_positive (n + 32768) (omega arith)) (ap pos (omega arith))
level_key (negsuc n) h = rw (le-ltb 32768 (suc n) h) (level_negative (32768 - suc n) (omega arith) ∙ ap negsuc (omega arith))

-- a level and a key are in the order of keys
pub lt_z_key : (v : ℤ) (t : ℕ) → mag v < 32768 → lt_z v (level t) ≡ ltb (key v) t
lt_z_key v t h = ap (λ (u : ℤ). lt_z u (level t)) (sym (level_key v h)) ∙ lt_z_level (key v) t

pub key_bound : (v : ℤ) → mag v < 32768 → key v ≤ 65535
key_bound (pos n) h = omega arith
key_bound (negsuc n) h = rw (le-ltb 32768 (suc n) h) (omega arith)

-- the key as a sum
pub key_sum : (v : ℤ) → mag v < 32768 → v +ℤ pos 32768 ≡ pos (key v)
key_sum (pos n) h = refl
key_sum (negsuc n) h = rw (le-ltb 32768 (suc n) h)

-- a level with a key of 16 bits has 16 bits itself
pub level_size : (n : ℕ) → n ≤ 65535 → mag (level n) < 32768
level_size n h = ⊎_elim
    (λ k. rw (level_positive n k) (omega arith))
    (λ k. rw (level_negative n k) (omega arith))
    (le_or_lt 32768 n)

pub level_fits : (n : ℕ) → n < 65536 → SFits w16 (level n)
level_fits n h = record { sfits = level_size n (omega arith) }

-- ---- the mirror

mirror_pos : (m : ℕ) → mirror (pos m) ≡ negsuc m
unfolding mirror
mirror_pos zero = refl
mirror_pos (suc m) = ap (λ (n : ℕ). negsuc (suc n)) (omega arith)

mirror_negsuc : (m : ℕ) → mirror (negsuc m) ≡ pos m
unfolding mirror
mirror_negsuc m = rw (le-ltb (suc m) 1 (omega arith)) (ap pos (omega arith))

pub mirror_mirror : (v : ℤ) → mirror (mirror v) ≡ v
mirror_mirror (pos n) = rw (mirror_pos n) (mirror_negsuc n)
mirror_mirror (negsuc n) = rw (mirror_negsuc n) (mirror_pos n)

pub mirror_size : (v : ℤ) → mag (mirror v) ≡ mag v
mirror_size (pos n) = rw (mirror_pos n)
mirror_size (negsuc n) = rw (mirror_negsuc n)

pub mirror_fits : (v : ℤ) → SFits w16 v → SFits w16 (mirror v)
mirror_fits v f = record { sfits = rw (mirror_size v) f.sfits }

pub mirror_level : (n : ℕ) → n ≤ 65535 → mirror (level n) ≡ level (65535 - n)
mirror_level n h = ⊎_elim
    (λ k. rw (level_positive n k, mirror_pos (n - 32768), level_negative (65535 - n) (omega arith)) (ap negsuc (omega arith)))
    (λ k. rw (level_negative n k, mirror_negsuc (32767 - n), level_positive (65535 - n) (omega arith)) (ap pos (omega arith)))
    (le_or_lt 32768 n)

-- ---- the order `◌≤ℤ◌` of levels

pub level_le : (a b : ℕ) → a ≤ b → level a ≤ℤ level b
level_le a b h = lt_z_no (rw (lt_z_level b a, le-ltb b a h) tt)

pub le_level : (a b : ℕ) → level a ≤ℤ level b → a ≤ b
le_level a b h =
    ⊎_elim (λ l. l) (λ l. clash_ℤ {a = level b} {b = level a} (lt_z_yes (rw (lt_z_level b a, lt-ltb b a l) tt)) h) (le_or_lt a b)

pub key_le : (v w : ℤ) → mag v < 32768 → mag w < 32768 → v ≤ℤ w → key v ≤ key w
key_le v w sv sw h = le_level (key v) (key w) (rw (level_key v sv, level_key w sw) h)

pub lowest_le : (v : ℤ) → mag v < 32768 → lowest ≤ℤ v
lowest_le v sv = rw (level_key v sv) at (level_le 0 (key v) (omega arith))

-- the mirror turns the order round
pub mirror_order : (v w : ℤ) → le_z (mirror w) (mirror v) ≡ le_z v w
mirror_order (pos m) (pos n) = rw (mirror_pos m, mirror_pos n)
mirror_order (pos m) (negsuc n) = rw (mirror_pos m, mirror_negsuc n)
mirror_order (negsuc m) (pos n) = rw (mirror_negsuc m, mirror_pos n)
mirror_order (negsuc m) (negsuc n) = rw (mirror_negsuc m, mirror_negsuc n)

pub mirror_reverses : {v w : ℤ} → v ≤ℤ w → mirror w ≤ℤ mirror v
mirror_reverses {v} {w} h = le_z_yes (rw (mirror_order v w) h.le)

pub mirror_lt_z : (v w : ℤ) → lt_z (mirror v) (mirror w) ≡ lt_z w v
mirror_lt_z (pos m) (pos n) = rw (mirror_pos m, mirror_pos n)
mirror_lt_z (pos m) (negsuc n) = rw (mirror_pos m, mirror_negsuc n)
mirror_lt_z (negsuc m) (pos n) = rw (mirror_negsuc m, mirror_pos n)
mirror_lt_z (negsuc m) (negsuc n) = rw (mirror_negsuc m, mirror_negsuc n)
