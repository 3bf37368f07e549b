-- `by_ranks` meets its contract: its two tests are those of `by_ranks`.
use Prim.Native.Nat.{ℕ, ◌+◌, ◌*◌}
use mathlib.Core.Path.{ap}
use lib.Dec.{leb}
use borrow.Author.Tests.{le-leb, lt-leb}
use native.Mathlib.Omega.{arith}
use Rattle.directions.specs.Plans.{spare_of, by_ranks}
use Rattle.directions.proofs.plan.Side.by_ranks.Goals as goal

pub returns-then-rows-self : goal.returns-then-rows-self
unfolding by_ranks
returns-then-rows-self c =
    let spare = spare_of c.args.self.frame c.args.length in
    rw (lt-leb (spare + 1) c.args.self.frame.lines (omega (arith, c.spare_of-rows.ensures.0, c.if-rows-self.true)))

pub returns : goal.returns
unfolding by_ranks
returns c =
    let spare = spare_of c.args.self.frame c.args.length in
    rw (le-leb (spare + 1) c.args.self.frame.lines (omega (arith, c.spare_of-rows.ensures.0, c.if-rows-self.false)))
    (ap (λ (n : ℕ). leb (4 * (n + 1)) (5 * c.args.length)) c.spare_of-rows.ensures.0)
