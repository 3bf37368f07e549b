use Prim.Native.Nat.{ℕ, ◌≤◌, ◌<◌}
use Rattle.plate.specs.Opening.{level_at}
use Rattle.frames.specs.Keys.{key_by}
use Rattle.theory.specs.BestWalks.{key_at}
use Rattle.engine.proofs.sweep.is_complete.Given as goal

abbrev pub invariant-loop-x : goal.invariant-loop-x
invariant-loop-x l = (x : ℕ) → x < l.x → key_by l.mode (level_at l.plate x) ≤ key_at l.res x
