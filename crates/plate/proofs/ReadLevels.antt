-- The levels of a plate as code reads them, from the bits of an element: the element itself, since it has 16 bits.
use Prim.Native.Nat.{ℕ, ◌<◌}
use mathlib.Core.Path.{◌≡◌, subst, ◌∙◌}
use mathlib.Core.List.{List}
use lib.ListN.{length, get_or}
use lib.IntN.{ℤ, pos}
use lib.Signed.{mag}
use mir.Syntax.{w16}
use mir.Val.{to_z, of_z}
use mir.ValLaws.{to_z-of_z}
use Rattle.basics.proofs.Lists.{any_default}
use Rattle.plate.specs.Levels.{lowest}
use Rattle.plate.specs.Opening.{level_at}

pub read_level : (f : List ℤ) (x : ℕ) → mag (get_or f x (pos 0)) < 32768 → x < length f → to_z w16 (of_z w16 (get_or f x (pos 0))) ≡ level_at f x
read_level f x small h = to_z-of_z w16 (get_or f x (pos 0)) (record { sfits = small }) ∙ any_default f x (pos 0) lowest h

pub level_small : (f : List ℤ) (x : ℕ) → mag (get_or f x (pos 0)) < 32768 → x < length f → mag (level_at f x) < 32768
level_small f x small h = subst (λ (v : ℤ). mag v < 32768) (any_default f x (pos 0) lowest h) small
