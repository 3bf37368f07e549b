-- `room_of` meets its contract: back to the lowest rank, or on to the highest.
use native.Mathlib.Omega.{arith}
use Rattle.headings.proofs.Rooms.{rank_below}
use Rattle.headings.proofs.heading.Heading.room_of.Goals as goal

pub overflow_sub-result : goal.overflow_sub-result
overflow_sub-result c =
    let h = c.args.self in
    omega (arith, c.args.self.is_longest, rank_below h.width h.height c.args.p h.index c.args.self.listed c.requires)

pub overflow_sub-result-2 : goal.overflow_sub-result-2
overflow_sub-result-2 c =
    let h = c.args.self in
    omega (
      arith,
      c.rank_of-rank.ensures,
      c.args.self.is_longest,
      rank_below h.width h.height c.args.p h.index c.args.self.listed c.requires,
    )
