-- `signed_correction` is the library's reading of a word in two's complement, which is that of the definition.
use Prim.Native.Nat.{ℕ, ◌<◌}
use mathlib.Core.Path.{◌≡◌, ap, ◌∙◌}
use mathlib.Core.Logic.{⊎_elim}
use native.Mathlib.Omega.{arith}
use lib.IntN.{negsuc}
use borrow.Author.Tests.{lt-ltb, le-ltb}
use mir.Syntax.{w16, w32}
use mir.Val.{to_z}
use mir.ValLaws.{to_z-of_z}
use Rattle.basics.proofs.Numbers.{le_or_lt}
use Rattle.plate.specs.Levels.{signed}
use Rattle.plate.proofs.level.signed_correction.Goals as goal

word_read : (word : ℕ) → word < 65536 → to_z w16 word ≡ signed word
unfolding signed
word_read word f =
    ⊎_elim
    (λ h. rw (le-ltb word 32768 h, lt-ltb word 65536 f) (ap negsuc (omega arith)))
    (λ h. rw (lt-ltb word 32768 h))
    (le_or_lt 32768 word)

pub returns : goal.returns
returns c =
    to_z-of_z w32 _ (record { sfits = c.from.type_inv })
    ∙ c.from.ensures
    ∙ to_z-of_z w16 _ (record { sfits = c.cast_signed.type_inv })
    ∙ c.cast_signed.ensures
    ∙ word_read c.args.word (omega arith)
