-- Cited by the contracts of private functions alone: what a writer over a lent buffer holds after a write, and whether there is room for it.
use Rattle.std.specs.Prelude.{ℕ, ◌+◌, ◌≤◌, ◌≡◌, List, ◌++◌, length, take, drop}
use Rattle.surveying.specs.declared.writing.Writer.{Writer}

-- the buffer with these bytes from the place `at` on, and as it was elsewhere
unfoldable pub placed : List ℕ → ℕ → List ℕ → List ℕ
placed out at text = take at out ++ text ++ drop (at + length text) out

-- the buffer has room for this text at the writer's place
pub record Room (text : List ℕ) (w : Writer) : Type 0 where
  pub fits : w.at + length text ≤ length w.out.now

-- the text was written at the writer's place: the writer is behind it now, over the same buffer
pub record Written (text : List ℕ) (before after : Writer) : Type 0 where
  pub same : after.out.ghost_name ≡ before.out.ghost_name
  pub behind : after.at ≡ before.at + length text
  pub holds : after.out.now ≡ placed before.out.now before.at text
