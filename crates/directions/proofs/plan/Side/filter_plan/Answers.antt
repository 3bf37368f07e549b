-- `filter_plan` meets its contract: the area is the whole frame, and its tests are those of `filter_plan`.
use mathlib.Core.Path.{sym, ◌∙◌}
use borrow.Author.Tests.{not-true, not-false}
use Rattle.directions.proofs.ChoiceLaws.{plan_straight, plan_ranked, plan_still}
use Rattle.directions.proofs.plan.Side.filter_plan.Goals as goal

pub returns-then-not-self : goal.returns-then-not-self
returns-then-not-self c = rw (← c.gap_end-slack.ensures) (rw c.whole-area.ensures at c.straight_plan.ensures ∙ plan_straight _ _ _ _ _ _ (not-true _ c.if-not-self.true))

pub returns-then-by_ranks : goal.returns-then-by_ranks
returns-then-by_ranks c =
    let by-ranks = sym c.by_ranks.ensures ∙ c.if-by_ranks.true in
    rw (← c.gap_end-slack.ensures)
    (rw c.whole-area.ensures at c.ranked_plan.ensures ∙ plan_ranked _ _ _ _ _ _ (not-false _ c.if-not-self.false) _ c.spare_of-rows.ensures.0 by-ranks)

pub returns : goal.returns
returns c =
    rw (← c.gap_end-slack.ensures)
    (c.still_plan.ensures ∙ plan_still _ _ _ _ _ _ (not-false _ c.if-not-self.false) (sym c.by_ranks.ensures ∙ c.if-by_ranks.false))
