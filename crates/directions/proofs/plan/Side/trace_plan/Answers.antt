-- `trace_plan` meets its contract: the side of the spot is an area of the frame, and the test is the one of `trace_plan`.
use mathlib.Core.Path.{◌∙◌}
use native.Mathlib.Omega.{arith}
use Rattle.directions.specs.Plans.{AreaOf}
use Rattle.directions.proofs.TraceLaws.{side_area, trace_ranked, trace_straight}
use Rattle.directions.proofs.plan.Side.trace_plan.Goals as goal
use Rattle.directions.proofs.plan.Side.trace_plan.Goals.{After-trace_area-area}

-- the side of the spot
area_of : (c : After-trace_area-area) →
    AreaOf c.args.self.frame c.trace_area-area.result
area_of c =
    side_area c.args.self.frame c.args.self.course.back c.args.spot c.trace_area-area.result c.trace_area-area.ensures c.requires.0 c.requires.1

pub returns-then-self : goal.returns-then-self
returns-then-self c =
    c.ranked_plan.ensures ∙
    trace_ranked _ _ _ _ c.trace_area-area.ensures _ _ c.if-self.true c.min-rows.ensures _ _

pub overflow_sub-area-2 : goal.overflow_sub-area-2
overflow_sub-area-2 c = omega (arith, (area_of (goal.at.overflow_sub-area-2 c).After-trace_area-area).high)

pub straight_plan-requires : goal.straight_plan-requires
straight_plan-requires c = (area_of (goal.at.straight_plan-requires c).After-trace_area-area, c.if-self.false)

pub returns : goal.returns
returns c =
    c.straight_plan.ensures ∙
    trace_straight _ _ _ _ c.trace_area-area.ensures _ _ c.if-self.false c.min-rows-2.ensures _ _
