-- `raise_run` meets its contract: each place has what the closure makes of the number.
use Rattle.std.proofs.Common.{rules}
use Rattle.states.proofs.runs.raise_run.Goals as goal

pub returns : goal.returns
returns c = λ i l. search (rules, c.map_run.ensures i l)
