use lib.ListN.{drop}
use Rattle.surveying.proofs.Parted.{behind}
use Rattle.surveying.proofs.Written.{Writing}
use Rattle.surveying.proofs.writing.Writer.list.Given as goal

abbrev pub invariant-loop-item : goal.invariant-loop-item
invariant-loop-item g l = Writing (behind g.T.Printed.text l.others) (behind g.T.Printed.text (drop l.item-index l.others)) l.initial.self l.self
