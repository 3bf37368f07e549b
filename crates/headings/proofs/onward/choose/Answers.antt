-- `choose` meets its contract: before each turn the steps with lower numbers lead to no neighbour with enough room.
use Rattle.headings.proofs.Neighbours.{landed_within, roomy_chosen, none_chosen}
use Rattle.headings.proofs.onward.choose.Goals as goal

pub room_of-requires : goal.room_of-requires
room_of-requires c = landed_within _ _ _ _ c.in-Some.ensures

pub returns-then-room_of-m : goal.returns-then-room_of-m
returns-then-room_of-m c =
    roomy_chosen _ _ _ _ _ _ c.in-Some.ensures c.room_of.ensures c.loop-number-test.true c.if-room_of-m.true

pub returns : goal.returns
returns c = none_chosen _ _ _ _ c.loop-number-test.false c.loop-number.invariant
