-- `level_of` subtracts in 32 bits, where nothing wraps, and the difference has 16 bits.
use Prim.Native.Nat.{ℕ, ◌<◌}
use mathlib.Core.Path.{◌≡◌, ◌∙◌}
use native.Mathlib.Omega.{arith}
use lib.IntN.{pos, ◌-ℤ◌}
use mir.Syntax.{w16, w32}
use mir.Val.{to_z, of_z}
use mir.ValLaws.{to_z-of_z}
use Rattle.basics.proofs.Integers.{mag-sub}
use Rattle.plate.specs.Levels.{level}
use Rattle.plate.proofs.Keys.{level_fits}
use Rattle.plate.proofs.level.level_of.Goals as goal
use Rattle.plate.proofs.level.level_of.Goals.{After-from}

-- the key in 32 bits is the key
widened_read : (c : After-from) → to_z w32 (of_z w32 c.from.result) ≡ pos c.args.k
widened_read c = to_z-of_z w32 _ (record { sfits = c.from.type_inv }) ∙ c.from.ensures

pub overflow_sub-result : goal.overflow_sub-result
overflow_sub-result c = rw (widened_read c) (record { sfits = omega (arith, mag-sub c.args.k 32768) })

-- what the difference is, read back from its 32 bits
difference_read : (k : ℕ) → k < 65536 → to_z w32 (of_z w32 (pos k -ℤ pos 32768)) ≡ level k
difference_read k h = to_z-of_z w32 (level k) (record { sfits = omega (arith, mag-sub k 32768) })

pub overflow_cast-result : goal.overflow_cast-result
overflow_cast-result c = rw (widened_read c, difference_read c.args.k (omega arith)) (level_fits c.args.k (omega arith))

pub returns : goal.returns
returns c =
    rw (widened_read c, difference_read c.args.k (omega arith)) (to_z-of_z w16 (level c.args.k) (level_fits c.args.k (omega arith)))
