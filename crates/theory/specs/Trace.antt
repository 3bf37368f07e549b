-- Document 01, section 4, and demand 3: what an accepted trace shows, sentence by sentence. For a light-crack trace (mode 0) each field is the
-- sentence above it; for a dark-crack trace (mode 1) it is read with above in place of below, lower in place of higher, and the closed plate. By document
-- 02, N5, "with 1, wherever demand 3 and section 4 speak of a path with at most k pixels below a level (above, for closing), the path must also count at
-- that level": `Few` says both.
use Rattle.std.specs.Prelude.{ℕ, ◌+◌, ◌*◌, ◌≤◌, ◌≡◌, Bool, cond, T, eqb, ℤ}
use mathlib.Core.List.{List, [], ◌∷◌, Memᴰ}
use Rattle.std.specs.Int.Signed.{lt_z}
use Rattle.plate.specs.Directions.{chosen}
use Rattle.plate.specs.Paths.{paths_in, through, ends_of}
use Rattle.plate.specs.Opening.{level_at, filtered}
use Rattle.plate.specs.Refusals.{Verdict.accepted, trace_verdict}
use Rattle.plate.specs.declared.setting.Setting.{Setting}

-- is the level v higher than t in mode 0, lower in mode 1?
unfoldable pub better : Setting → ℤ → ℤ → Bool
better s v t = cond (eqb s.mode 0) (lt_z t v) (lt_z v t)

-- how many pixels of a path are below t in mode 0, above t in mode 1
unfoldable pub short : Setting → List ℤ → ℤ → List ℕ → ℕ
short s f t [] = 0
short s f t (p ∷ path) = cond (better s t (level_at f p)) 1 0 + short s f t path

-- at most k pixels of a path are below t (above, in mode 1); and, with `ends` 1, neither of its two end pixels is
pub record Few (s : Setting) (f : List ℤ) (t : ℤ) (path : List ℕ) : Type 0 where
  pub pixels : short s f t path ≤ s.gaps
  pub ends : s.ends ≡ 1 → short s f t (ends_of path) ≡ 0

pub record Shows (s : Setting) (W H : ℕ) (f : List ℤ) (x direction : ℕ) (level : ℤ) (path : List ℕ) : Type 0 where
  -- "it shows a path of L pixels .., every step of the one chosen way it names"
  pub is_path : Memᴰ path (paths_in W H s.length direction)
  pub is_chosen : Memᴰ direction (chosen s.directions)
  -- ".. through that pixel .."
  pub crosses : T (through x path)
  -- ".. with at most k pixels below the level it reports"
  pub few : Few s f level path
  -- "at no higher level up to the pixel's own is there any path of L pixels through it, in any chosen way, with at most k pixels below"
  pub best : (t : ℤ) → T (better s t level) → (T (better s t (level_at f x)) → ⊥) →
      (way : ℕ) → Memᴰ way (chosen s.directions) → (other : List ℕ) → Memᴰ other (paths_in W H s.length way) → T (through x other) →
      Few s f t other → ⊥
  -- "the level is the one that the opened plate has there"
  pub is_filtered : level ≡ level_at (filtered s W H f) x
  -- "tracing the opened plate at that pixel, by the same setting, is accepted and reports that level again", whatever work buffer is large enough
  pub again : (room : ℕ) → 4 * (s.gaps + 1) * (W * H) ≤ room → trace_verdict W H s (filtered s W H f) x s.length room ≡ accepted level
