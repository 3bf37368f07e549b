use Rattle.headings.proofs.Neighbours.{Tried}
use Rattle.headings.proofs.onward.choose.Given as goal

abbrev pub invariant-loop-number : goal.invariant-loop-number
invariant-loop-number l = Tried l.heading l.p l.m l.number
