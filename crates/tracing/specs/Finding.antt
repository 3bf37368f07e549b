-- What a trace finds at the picked pixel: the best way to share a path there. These definitions serve contracts inside the engine only: no public
-- contract cites them.
use Rattle.std.specs.Prelude.{ℕ, ◌+◌, ◌-◌, ◌*◌, ◌^◌, ◌≤◌, ◌<◌, min, ◌≡◌, Bool, true, false, List, ◌⊎◌, get_or, ℤ}
use Rattle.plate.specs.Paths.{span}
use Rattle.plate.specs.Opening.{level_at}
use Rattle.plate.specs.declared.setting.Setting.{Setting}
use Rattle.frames.specs.Keys.{key_by}
use Rattle.walks.specs.declared.found.Found.{Found}
use Rattle.tracing.specs.Scans.{bit_of, key_of, KeysLaid}
use Rattle.tracing.specs.Following.{Leads}
use Rattle.tracing.specs.declared.scan.Scan.{Scan}
use Rattle.headings.specs.Usable.{usable}
use Rattle.theory.specs.BestWalks.{gap_end, best_walk, term}
use Rattle.theory.specs.Walks.{around}

-- the numbers of a list
abbrev pub cells : List ℕ → ℕ → ℕ
cells notes i = get_or notes i 0

-- the best walks of 0 to m steps from x, k + 1 numbers for each
pub record Noted (slack : ℕ) (numbers : ℕ → ℕ) (W H bit : ℕ) (backwards : Bool) (g : ℕ → ℕ) (k m x : ℕ) : Type 0 where
  pub is : (l j : ℕ) → l ≤ m → j ≤ k → numbers (l * (k + 1) + j) ≡ best_walk slack (around backwards W H bit) g l j x

-- one side of a direction is noted, by the keys of the plate, which are left for the other side
pub record NotedSide (s : Scan) (backwards : Bool) (plate : List ℤ) (x : ℕ) (work notes : List ℕ) : Type 0 where
  pub noted : Noted s.slack (cells notes) s.width s.height (bit_of s) backwards (key_of s plate) s.setting.gaps s.steps x
  pub left : KeysLaid s plate work

-- A path through x is known by numbers: in the direction with this bit it has `before` steps to x with at most `gaps` pixels below t, and its other
-- steps from x on with the other gaps, and may end where it does; m steps and k gaps in all, and `spare` steps less than the direction's longest paths.
pub record Attained (slack W H m k spare : ℕ) (g : ℕ → ℕ) (x bit t before gaps : ℕ) : Type 0 where
  pub of_path : before ≤ m
  pub few : gaps ≤ k
  pub own : t ≤ g x
  pub to_x : Leads slack W H bit true g t spare before gaps x
  pub from_x : Leads slack W H bit false g t spare (m - before) (k - gaps) x

-- a direction is searched: the old one stays, or a better one is found there, and no path of the direction is better
pub record FoundIn (slack W H m k spare : ℕ) (g : ℕ → ℕ) (x index : ℕ) (old new : Found) : Type 0 where
  pub not_below : old.key ≤ new.key
  pub source : (new ≡ old) ⊎ ((new.index ≡ index) × Attained slack W H m k spare g x (2 ^ index) new.key new.before new.gaps)
  pub best : (l i : ℕ) → l ≤ m → i ≤ k → min (g x) (term slack W H (2 ^ index) m k g x l i) ≤ new.key

-- the keys of a plate, as the mode looks at it
unfoldable pub keys_by : ℕ → List ℤ → ℕ → ℕ
keys_by mode f p = key_by mode (level_at f p)

-- what is found in one direction of the table, by the setting
abbrev pub FoundAt : ℕ → ℕ → Setting → List ℤ → ℕ → ℕ → Found → Found → Type 0
FoundAt W H s f x index = FoundIn (gap_end s.ends) W H (s.length - 1) s.gaps (span W H (2 ^ index) - s.length) (keys_by s.mode f) x index

-- the best path through x in the usable directions with an index below `past`
pub record BestOf (W H : ℕ) (s : Setting) (f : List ℤ) (x past : ℕ) (r : Found) : Type 0 where
  pub listed : r.index < 4
  pub is_usable : usable W H s r.index ≡ true
  pub attained : Attained (gap_end s.ends) W H (s.length - 1) s.gaps (span W H (2 ^ r.index) - s.length) (keys_by s.mode f) x (2 ^ r.index) r.key r.before r.gaps
  pub best : (index : ℕ) → index < past → usable W H s index ≡ true → (l i : ℕ) → l ≤ s.length - 1 → i ≤ s.gaps →
      min (keys_by s.mode f x) (term (gap_end s.ends) W H (2 ^ index) (s.length - 1) s.gaps (keys_by s.mode f) x l i) ≤ r.key
