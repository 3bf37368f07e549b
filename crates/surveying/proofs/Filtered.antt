-- The filtered plate of a survey has levels of 16 bits, as the plate has.
use Prim.Native.Nat.{ℕ, ◌<◌}
use mathlib.Core.Path.{subst}
use mathlib.Core.List.{List}
use lib.IntN.{ℤ, pos}
use lib.Signed.{mag}
use Rattle.basics.proofs.Lists.{any_default}
use Rattle.plate.specs.Levels.{lowest}
use Rattle.plate.specs.Opening.{filtered}
use Rattle.plate.specs.declared.setting.Setting.{Setting}
use Rattle.theory.proofs.Opening.{levels_within}
use Rattle.theory.proofs.Mirror.{filtered_levels}
use Rattle.surveying.specs.Steps.{SixteenBits}

pub filtered_bits : (s : Setting) (W H : ℕ) (f : List ℤ) → SixteenBits f → SixteenBits (filtered s W H f)
filtered_bits s W H f b =
    let l = filtered_levels s W H f (levels_within f (λ p h. subst (λ (v : ℤ). mag v < 32768) (any_default f p (pos 0) lowest h) (b.each p h))) in
    record { each = λ p h. subst (λ (v : ℤ). mag v < 32768) (any_default (filtered s W H f) p lowest (pos 0) h) (l.size p) }
