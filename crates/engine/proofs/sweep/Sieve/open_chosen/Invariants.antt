use Prim.Native.Nat.{◌*◌}
use Rattle.directions.specs.Gathering.{Raised}
use Rattle.engine.proofs.SweepLaws.{best_before}
use Rattle.engine.proofs.sweep.Sieve.open_chosen.Given as goal

abbrev pub invariant-loop-index : goal.invariant-loop-index
invariant-loop-index l = Raised (best_before l.self.width l.self.height l.self.setting l.self.plate.now l.index) l.initial.res l.res 0 (l.self.width * l.self.height)
