-- The indices of a trail that is written into the buffer pixel by pixel: one pixel more keeps it a trail.
use Prim.Native.Nat.{ℕ, ◌+◌, ◌-◌, ◌≤◌, ◌<◌}
use mathlib.Core.Path.{◌≡◌, refl, sym, ◌∙◌}
use mathlib.Core.Bool.{Bool, true, false}
use mathlib.Core.List.{List, Memᴰ}
use mathlib.Core.Logic.{⊎_elim}
use native.Mathlib.Omega.{arith}
use lib.ListN.{length, get_or, set, length-set}
use borrow.Author.Tests.{lt-ltb, le-ltb}
use lib.Seq.{get_or-set_same, get_or-set_other}
use Rattle.basics.proofs.Numbers.{le_or_lt}
use Rattle.headings.specs.Trails.{index_after, Within, Behind, Trail, index_of}
use Rattle.theory.specs.Walks.{around}

-- ---- the indices of a trail

pub index_first : (b : Bool) (start : ℕ) → index_after b start 0 ≡ start
index_first true start = omega arith
index_first false start = omega arith

pub index_within : (b : Bool) (size start s : ℕ) → Within b size start s → index_after b start s < size
index_within true size start s w = omega arith
index_within false size start s w = w

pub within_less : (b : Bool) (size start s n : ℕ) → Within b size start s → n ≤ s → Within b size start n
within_less true size start s n w l = (omega arith, w.1)
within_less false size start s n w l = omega arith

-- no trail has more steps than the buffer has indices
pub within_few : (b : Bool) (size start s : ℕ) → Within b size start s → s < size
within_few true size start s w = omega arith
within_few false size start s w = omega arith

-- an earlier index is another one
pub index_other : (b : Bool) (size start s n : ℕ) → Within b size start s → n < s → index_after b start n ≡ index_after b start s → ⊥
index_other true size start s n w l e = omega arith
index_other false size start s n w l e = omega arith

pub behind_other : (b : Bool) (size start s q : ℕ) → Within b size start s → 0 < s → Behind b start q → q ≡ index_after b start s → ⊥
behind_other true size start s q w l h e = omega arith
behind_other false size start s q w l h e = omega arith

-- ---- one pixel more

module _ (W H bit : ℕ) (b : Bool) (old : List ℕ) (start : ℕ) where
  module _ (new : List ℕ) (s q : ℕ) (within : Within b (length old) start (s + 1)) (d : Trail W H bit b old new start s) where
    abbrev more : List ℕ
    more = set new (index_after b start (s + 1)) q

    earlier : (i : ℕ) → i < s + 1 → get_or more (index_after b start i) 0 ≡ get_or new (index_after b start i) 0
    earlier i l = get_or-set_other new (index_after b start (s + 1)) (index_after b start i) q 0 (λ e. index_other b (length old) start (s + 1) i within l e)

    pub last_written : get_or more (index_after b start (s + 1)) 0 ≡ q
    last_written = get_or-set_same new (index_after b start (s + 1)) q 0 (omega (arith, index_within b (length old) start (s + 1) within, d.len))

    pub trail_more : Memᴰ q (around b W H bit (get_or new (index_after b start s) 0)) → Trail W H bit b old more start (s + 1)
    trail_more near =
        record {
          step = λ i l.
              ⊎_elim
              (λ a. let e : i ≡ s = omega arith in rw (e, last_written, earlier s (omega arith)) near)
              (λ a. rw (earlier i (omega arith), earlier (i + 1) (omega arith)) (d.step i a))
              (le_or_lt s i);
          kept = λ x h.
              get_or-set_other new (index_after b start (s + 1)) x q 0 (λ e. behind_other b (length old) start (s + 1) x within (omega arith) h e) ∙ d.kept x h;
          len = length-set new (index_after b start (s + 1)) q ∙ d.len;
        }

-- ---- an index, as the code tells it

module _ (b : Bool) (start s : ℕ) where
  pub index_far : 65536 ≤ start → 0 ≡ index_of b start s
  unfolding index_of
  index_far l = rw (le-ltb start 65536 l) refl

  pub index_long : start < 65536 → 65536 ≤ s → 0 ≡ index_of b start s
  unfolding index_of
  index_long k l = rw (lt-ltb start 65536 k, le-ltb s 65536 l) refl

  pub index_there : start < 65536 → s < 65536 → index_of b start s ≡ index_after b start s
  unfolding index_of
  index_there k l = rw (lt-ltb start 65536 k, lt-ltb s 65536 l) refl

  pub index_back : start < 65536 → s < 65536 → b ≡ true → start - s ≡ index_of b start s
  index_back k l e = rw e refl ∙ sym (index_there k l)

  pub index_on : start < 65536 → s < 65536 → b ≡ false → start + s ≡ index_of b start s
  index_on k l e = rw e refl ∙ sym (index_there k l)
