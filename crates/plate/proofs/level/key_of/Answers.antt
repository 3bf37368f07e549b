-- `key_of` adds in 32 bits, where nothing wraps, and the sum is a key: at most 65535.
use mathlib.Core.Path.{◌≡◌, ◌∙◌}
use native.Mathlib.Omega.{arith}
use lib.IntN.{ℤ, pos, ◌+ℤ◌}
use mir.Syntax.{w16, w32}
use mir.Val.{SFits, to_z, of_z}
use mir.ValLaws.{to_z-of_z, to_z_pos}
use Rattle.plate.specs.Levels.{key}
use Rattle.plate.proofs.Keys.{key_sum, key_bound}
use Rattle.plate.proofs.level.key_of.Goals as goal
use Rattle.plate.proofs.level.key_of.Goals.{After-from}

-- the level in 32 bits is the level
widened_read : (c : After-from) → to_z w32 (of_z w32 c.from.result) ≡ c.args.v
widened_read c = to_z-of_z w32 _ (record { sfits = c.from.type_inv }) ∙ c.from.ensures ∙ to_z-of_z w16 c.args.v c.ranges.v

-- what the sum is, read back from its 32 bits
sum_read : (v : ℤ) → SFits w16 v → to_z w32 (of_z w32 (v +ℤ pos 32768)) ≡ pos (key v)
sum_read v f = rw (key_sum v f.sfits) (to_z_pos w32 (key v) (omega (arith, key_bound v f.sfits)))

pub overflow_add-result : goal.overflow_add-result
overflow_add-result c =
    let v = c.args.v in
    let f = c.ranges.v in
    rw (widened_read c, key_sum v f.sfits) (record { sfits = omega (arith, key_bound v f.sfits) })

pub overflow_cast-result : goal.overflow_cast-result
overflow_cast-result c =
    let v = c.args.v in
    let f = c.ranges.v in
    rw (widened_read c, sum_read v f) (tt, record { fits = omega (arith, key_bound v f.sfits) })

pub returns : goal.returns
returns c = rw (widened_read c, sum_read c.args.v c.ranges.v)
