use mathlib.Core.Path.{◌≡◌}
use lib.ListN.{length}
use Rattle.tracing.specs.Finding.{BestOf}
use Rattle.theory.specs.Modes.{Levels}
use Rattle.tracing.proofs.find.Asked.find.Given as goal

abbrev pub invariant-loop-index : goal.invariant-loop-index
invariant-loop-index l =
    (length l.work ≡ length l.initial.work) × Levels l.self.plate.now × BestOf l.self.width l.self.height l.self.setting l.self.plate.now l.self.x l.index l.found
