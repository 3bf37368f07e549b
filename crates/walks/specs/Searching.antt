-- The best way to share a path at the picked pixel, searched for in the notes of both sides. These definitions serve contracts inside the engine only:
-- no public contract cites them.
use Rattle.std.specs.Prelude.{ℕ, ◌+◌, ◌-◌, ◌*◌, ◌≤◌, ◌<◌, min, ◌≡◌, List, ◌⊎◌, get_or}
use Rattle.walks.specs.declared.found.Found.{Found}
use Rattle.walks.specs.declared.found.Paths.{Paths}

-- A path that has i gaps to x and the others from x on, by the notes of the one part and of the other, from these places on; not above the key of x
-- itself.
unfoldable pub shared_at : (ends goes : List ℕ) → ℕ → ℕ → ℕ → ℕ → ℕ → ℕ
shared_at ends goes end go gaps own i = min own (min (get_or ends (end + i) 0) (get_or goes (go + (gaps - i)) 0))

-- the same for a path with l steps to x
abbrev pub term_at : (ends goes : List ℕ) → Paths → ℕ → ℕ → ℕ → ℕ
term_at ends goes n own l i = shared_at ends goes (l * (n.gaps + 1)) ((n.steps - l) * (n.gaps + 1)) n.gaps own i

-- l is a number of steps to x that a path can have
pub record Possible (steps spare rank l : ℕ) : Type 0 where
  pub of_path : l ≤ steps
  pub behind : l ≤ rank
  pub ahead : rank ≤ l + spare

-- the new one was found by the notes of a direction
pub record FromNotes (terms : ℕ → ℕ → ℕ) (steps gaps spare rank index : ℕ) (new : Found) : Type 0 where
  pub is_index : new.index ≡ index
  pub possible : Possible steps spare rank new.before
  pub few : new.gaps ≤ gaps
  pub below : new.key ≤ terms new.before new.gaps

-- the first n terms with l steps to x are searched: the old one stays, or a better one is found, and none of the terms is above it
pub record RowSearched (terms : ℕ → ℕ) (n index l : ℕ) (old new : Found) : Type 0 where
  pub not_below : old.key ≤ new.key
  pub best : (i : ℕ) → i < n → terms i ≤ new.key
  pub source : (new ≡ old) ⊎ ((new.index ≡ index) × (new.before ≡ l) × (new.gaps < n) × (new.key ≤ terms new.gaps))

-- the same for all possible numbers of steps below `past`
pub record Searched (terms : ℕ → ℕ → ℕ) (steps gaps spare rank index past : ℕ) (old new : Found) : Type 0 where
  pub not_below : old.key ≤ new.key
  pub best : (l i : ℕ) → Possible steps spare rank l → l < past → i ≤ gaps → terms l i ≤ new.key
  pub source : (new ≡ old) ⊎ FromNotes terms steps gaps spare rank index new
