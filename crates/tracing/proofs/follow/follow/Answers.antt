-- `follow` meets its contract: at the lowest key no pixel is low, and any path will do.
use Prim.Native.Nat.{ℕ, ◌+◌}
use mathlib.Core.Path.{◌≡◌, ap, ◌∙◌}
use native.Mathlib.Omega.{arith}
use Rattle.tracing.specs.Scans.{key_of}
use Rattle.tracing.specs.Following.{low_along}
use Rattle.headings.proofs.DoorTests.{goes_if}
use Rattle.tracing.proofs.Inward.{low_along_zero}
use Rattle.tracing.proofs.follow.follow.Goals as goal

pub returns-then-walk-eq0 : goal.returns-then-walk-eq0
returns-then-walk-eq0 c =
    let a = c.args in
    let low : ℕ → ℕ = λ t. low_along a.walk.backwards (key_of a.scan a.plate.now) t c.follow_any.new.path a.walk.start (a.walk.steps + 1) in
    let none : low 0 ≡ 0 = low_along_zero a.walk.backwards (key_of a.scan a.plate.now) c.follow_any.new.path a.walk.start (a.walk.steps + 1) in
    let goes =
    c.follow_any.ensures.value
    ∙ goes_if a.scan.width a.scan.height a.scan.index a.walk.backwards a.walk.start a.walk.steps a.path.now c.requires.path_len_bound.0 c.requires.path_len_bound.1
    c.requires.within (record { size = c.args.scan.size; known = c.args.scan.known; on = c.requires.leads.on }) c.requires.leads.roomy in record { trail = rw goes at c.follow_any.ensures.either; steps_bound = omega (arith, none, ap low c.if-walk-eq0.true); ends_at = omega (arith, c.if-walk-eq0.true); keys_laid_2 = c.requires.keys_laid }
