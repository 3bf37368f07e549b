-- The order of signed numbers: the laws that the library does not have, each from the one that it has, a < b ≤ c.
use Prim.Native.Nat.{ℕ, ◌<◌}
use mathlib.Core.Path.{◌≡◌, ap}
use mathlib.Core.Bool.{true, false}
use mathlib.Core.Logic.{◌⊎◌, inl, inr, ⊎_elim}
use lib.Dec.{leb→le, le→leb, ltb→lt}
use lib.IntN.{ℤ, pos, negsuc}
use lib.Signed.{mag, lt_z, ◌≤ℤ◌, ◌<ℤ◌, lt_z_yes, lt_z_no, <ℤ-≤ℤ_trans, clash_ℤ}
use native.Mathlib.Nat.{le_antisymm}
use native.Mathlib.Omega.{arith}
use Rattle.basics.proofs.Tests.{true_or_false, T_true, true_T}

pub lt_or_le : (a b : ℤ) → (a <ℤ b) ⊎ (b ≤ℤ a)
lt_or_le a b = ⊎_elim (λ e. inl (lt_z_yes (true_T (lt_z a b) e))) (λ e. inr (lt_z_no (rw e tt))) (true_or_false (lt_z a b))

pub lt_le : {a b : ℤ} → a <ℤ b → a ≤ℤ b
lt_le {a = pos m} {b = pos n} h = record { le = le→leb m n (omega (arith, ltb→lt m n h.lt)) }
lt_le {a = pos m} {b = negsuc n} h = absurd h.lt
lt_le {a = negsuc m} {b = pos n} h = record { le = tt }
lt_le {a = negsuc m} {b = negsuc n} h = record { le = le→leb n m (omega (arith, ltb→lt n m h.lt)) }

pub ≤ℤ-trans : {a b c : ℤ} → a ≤ℤ b → b ≤ℤ c → a ≤ℤ c
≤ℤ-trans {a} {b} {c} h k = ⊎_elim (λ l. clash_ℤ (<ℤ-≤ℤ_trans l h) k) (λ l. l) (lt_or_le c a)

pub ≤ℤ-<ℤ-trans : {a b c : ℤ} → a ≤ℤ b → b <ℤ c → a <ℤ c
≤ℤ-<ℤ-trans {a} {b} {c} h k = ⊎_elim (λ l. l) (λ l. clash_ℤ k (≤ℤ-trans l h)) (lt_or_le a c)

pub ≤ℤ-antisym : (a b : ℤ) → a ≤ℤ b → b ≤ℤ a → a ≡ b
≤ℤ-antisym (pos m) (pos n) h k = ap pos (le_antisymm (leb→le m n h.le) (leb→le n m k.le))
≤ℤ-antisym (pos m) (negsuc n) h k = absurd h.le
≤ℤ-antisym (negsuc m) (pos n) h k = absurd k.le
≤ℤ-antisym (negsuc m) (negsuc n) h k = ap negsuc (le_antisymm (leb→le m n k.le) (leb→le n m h.le))

-- the test of order where the order is known
pub lt_lt_z : {a b : ℤ} → a <ℤ b → lt_z a b ≡ true
lt_lt_z {a} {b} h = T_true (lt_z a b) h.lt

pub le_lt_z : {a b : ℤ} → b ≤ℤ a → lt_z a b ≡ false
le_lt_z {a} {b} h = ⊎_elim (λ e. clash_ℤ (lt_z_yes (true_T (lt_z a b) e)) h) (λ e. e) (true_or_false (lt_z a b))

-- what lies between two numbers is no larger than both
pub mag_between : {n : ℕ} {a v b : ℤ} → a ≤ℤ v → v ≤ℤ b → mag a < n → mag b < n → mag v < n
mag_between {v = pos m} {b = pos k} h i p q = omega (arith, leb→le m k i.le)
mag_between {v = pos m} {b = negsuc k} h i p q = absurd i.le
mag_between {a = pos k} {v = negsuc m} h i p q = absurd h.le
mag_between {a = negsuc k} {v = negsuc m} h i p q = omega (arith, leb→le m k h.le)
