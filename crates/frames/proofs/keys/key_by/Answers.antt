-- `key_by` meets its contract: the key of the level, or of its mirror.
use mathlib.Core.Path.{sym, ap, ◌∙◌}
use mir.Syntax.{w16}
use native.Mathlib.Omega.{arith}
use Rattle.basics.proofs.Integers.{read_back}
use Rattle.plate.specs.Levels.{key, mirror}
use Rattle.frames.proofs.KeyLaws.{key_plain, mirrored_key}
use Rattle.frames.proofs.keys.key_by.Goals as goal

pub returns-in-0 : goal.returns-in-0
returns-in-0 c = read_back {w = w16} key _ c.ranges.v c.key_of.ensures ∙ key_plain _ _ c.in-0.is

pub returns-in_default : goal.returns-in_default
returns-in_default c =
    read_back {w = w16} key c.mirrored.result (record { sfits = c.mirrored.type_inv }) c.key_of-in_default.ensures
    ∙ ap key (read_back {w = w16} mirror _ c.ranges.v c.mirrored.ensures)
    ∙ sym (mirrored_key _ _ (λ e. omega (arith, e)))
