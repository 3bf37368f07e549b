-- A trail of pixels that is written into the path buffer, on from an index or back from it. These definitions serve contracts inside the engine
-- only: no public contract cites them.
use Rattle.std.specs.Prelude.{ℕ, ◌+◌, ◌-◌, ◌≤◌, ◌<◌, ◌≡◌, Bool, true, false, cond, ◌&&◌, ltb, length, get_or}
use mathlib.Core.List.{List, Memᴰ}
use Rattle.theory.specs.Walks.{around}

-- the index after s steps
abbrev pub index_after : Bool → ℕ → ℕ → ℕ
index_after true start s = start - s
index_after false start s = start + s

-- the buffer has s indices on that side
abbrev pub Within : Bool → ℕ → ℕ → ℕ → Type 0
Within true size start s = (s ≤ start) × (start < size)
Within false size start s = start + s < size

-- an index that the trail does not write: that of its first pixel, or one on the other side
abbrev pub Behind : Bool → ℕ → ℕ → Type 0
Behind true start q = start ≤ q
Behind false start q = q ≤ start

-- the buffer holds a trail of s steps from the pixel at an index, and is as it was behind it
pub record Trail (W H bit : ℕ) (backwards : Bool) (old new : List ℕ) (start s : ℕ) : Type 0 where
  pub step : (i : ℕ) → i < s →
      Memᴰ (get_or new (index_after backwards start (i + 1)) 0) (around backwards W H bit (get_or new (index_after backwards start i) 0))
  pub kept : (q : ℕ) → Behind backwards start q → get_or new q 0 ≡ get_or old q 0
  pub len : length new ≡ length old

-- the same of an index and steps below 65,536; 0 of others
unfoldable pub index_of : Bool → ℕ → ℕ → ℕ
index_of backwards start s = cond (ltb start 65536 && ltb s 65536) (index_after backwards start s) 0
