-- `level_by` meets its contract: the level of the key, or its mirror.
use mathlib.Core.Path.{sym, ap, ◌∙◌}
use mir.Syntax.{w16}
use native.Mathlib.Omega.{arith}
use mir.Facts.{to_z-of_z}
use Rattle.basics.proofs.Integers.{read_back}
use Rattle.plate.specs.Levels.{mirror}
use Rattle.frames.proofs.KeyLaws.{level_plain, level_mirrored}
use Rattle.frames.proofs.keys.level_by.Goals as goal

pub returns-in-0 : goal.returns-in-0
returns-in-0 c =
    to_z-of_z {w = w16} {z = c.level_of-level.result} (record { sfits = c.level_of-level.type_inv }) ∙ c.level_of-level.ensures ∙ sym (level_plain _ _ c.in-0.is)

pub returns-in_default : goal.returns-in_default
returns-in_default c =
    to_z-of_z {w = w16} {z = c.mirrored.result} (record { sfits = c.mirrored.type_inv })
    ∙ read_back {w = w16} mirror c.level_of-level.result (record { sfits = c.level_of-level.type_inv }) c.mirrored.ensures
    ∙ ap mirror c.level_of-level.ensures
    ∙ sym (level_mirrored _ _ (λ e. omega (arith, e)))
