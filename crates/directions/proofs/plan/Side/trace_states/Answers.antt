-- `trace_states` meets its contract: the side of the spot is an area of the frame, and the test is the one of `trace_states`.
use native.Mathlib.Omega.{arith}
use borrow.Author.Tests.{not-true, not-false}
use Rattle.directions.specs.Plans.{AreaOf}
use Rattle.directions.proofs.TraceLaws.{side_area, states_ranked, states_straight}
use Rattle.directions.proofs.plan.Side.trace_states.Goals as goal
use Rattle.directions.proofs.plan.Side.trace_states.Goals.{After-trace_area-area}

-- the side of the spot
area_of : (c : After-trace_area-area) →
    AreaOf c.args.self.frame c.trace_area-area.result
area_of c =
    side_area c.args.self.frame c.args.self.course.back c.args.spot c.trace_area-area.result c.trace_area-area.ensures c.requires.0 c.requires.1

pub returns-then-not-self : goal.returns-then-not-self
returns-then-not-self c = states_straight _ _ _ _ (not-true _ c.if-not-self.true)

pub overflow_sub-area-3 : goal.overflow_sub-area-3
overflow_sub-area-3 c = let area = area_of (goal.at.overflow_sub-area-3 c).After-trace_area-area in omega (arith, area.high, area.wide)

pub returns : goal.returns
returns c = states_ranked _ _ _ _ c.trace_area-area.ensures _ _ (not-false _ c.if-not-self.false) c.min.ensures
