use Prim.Native.Nat.{◌≤◌}
use Rattle.stacks.proofs.stack.stride.Given as goal

abbrev pub invariant-loop-t : goal.invariant-loop-t
invariant-loop-t l = (l.last ≤ l.c) × (1 ≤ l.c) × (l.c ≤ l.far)
