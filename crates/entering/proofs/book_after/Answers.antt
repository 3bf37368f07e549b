-- `book_after` meets its contract: a book that takes an entry hands back the one with it, and without a trace there is nothing to enter.
use Prim.Native.Nat.{◌<◌}
use lib.Signed.{mag}
use mir.Syntax.{w16}
use mir.ValLaws.{to_z-of_z}
use native.Mathlib.Omega.{arith}
use Rattle.entering.proofs.Deciding.{taken}
use Rattle.entering.proofs.book_after.Goals as goal

pub returns-in-Ok : goal.returns-in-Ok
returns-in-Ok c =
    let small : mag c.in-Ok.trace.level < 32768 = omega arith in
    rw c.in-Ok.is (rw (to_z-of_z w16 c.in-Ok.trace.level (record { sfits = small })) at (taken _ _ _ _ c.enter.result c.requires c.enter.ensures))
