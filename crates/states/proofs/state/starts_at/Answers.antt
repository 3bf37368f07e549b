-- `starts_at` meets its contract: it tells the two kinds of plans apart as the definition does.
use Rattle.plans.specs.Plans.{starts}
use Rattle.states.proofs.state.starts_at.Goals as goal

pub returns-then-plan : goal.returns-then-plan
unfolding starts
returns-then-plan c = rw c.if-plan.true

pub returns : goal.returns
unfolding starts
returns c = rw c.if-plan.false
