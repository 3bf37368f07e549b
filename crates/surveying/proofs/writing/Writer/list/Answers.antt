-- `list` writes the first item, and then each other one behind a comma: the invariant says that the items from the index on are still to come.
use mathlib.Core.Path.{◌≡◌, refl}
use mathlib.Core.List.{◌∷◌, ◌++◌, flat_map}
use lib.ListN.{drop_of_length-le}
use Rattle.surveying.specs.Buffers.{Room}
use Rattle.surveying.proofs.Parted.{behind, parted_none, parted_first, comma_room, element_room, element_written}
use Rattle.surveying.proofs.Written.{written_none, room_first, room_then, written_then, writing_none, writing_end}
use Rattle.surveying.proofs.writing.Writer.list.Goals as goal
use Rattle.surveying.proofs.writing.Writer.list.Given.{Over}
use Rattle.surveying.proofs.writing.Writer.list.Goals.{In-Some, After-print}

pub returns-in_default : goal.returns-in_default
returns-in_default g c = rw (parted_none g.T.Printed.text c.args.items.now c.in_default.ensures.cases) (written_none _)

-- the items are the first and the others, and there is room for both
parts : (g : Over) (k : In-Some g) → k.args.items.now ≡ k.in-Some.first.now ∷ k.in-Some.others.now
parts g k = k.in-Some.ensures.cases.0

room : (g : Over) (k : In-Some g) → Room (g.T.Printed.text k.in-Some.first.now ++ behind g.T.Printed.text k.in-Some.others.now) k.args.self.now
room g k = rw (parted_first g.T.Printed.text _ _ (parts g k)) at k.requires

pub print-requires : goal.print-requires
print-requires g c = room_first _ _ (room g (goal.at.print-requires g c).In-Some)

-- and for the others behind it
others_room : (g : Over) (c : After-print g) → Room (behind g.T.Printed.text c.in-Some.others.now) c.print.new.w
others_room g c = room_then (g.T.Printed.text c.in-Some.first.now) _ (room g (goal.at.After-print g c).In-Some) c.print.ensures

pub loop-item-init : goal.loop-item-init
loop-item-init g c = writing_none _ _

pub put-requires : goal.put-requires
put-requires g c =
    comma_room g.T.Printed.text c.in-Some.others.now c.item-item.result _ c.loop-item-test.true c.loop-item.invariant (others_room g (goal.at.put-requires g c).After-print)

pub print-requires-in-loop-item : goal.print-requires-in-loop-item
print-requires-in-loop-item g c =
    rw c.item-item.is
    (element_room g.T.Printed.text c.in-Some.others.now c.item-item.result _ c.loop-item-test.true c.loop-item.invariant (others_room g (goal.at.print-requires-in-loop-item g c).After-print) c.put.ensures)

pub loop-item-preserved : goal.loop-item-preserved
loop-item-preserved g c =
    element_written g.T.Printed.text c.in-Some.others.now c.item-item.result _ c.loop-item-test.true c.loop-item.invariant (others_room g (goal.at.loop-item-preserved g c).After-print) c.put.ensures
    (rw c.item-item.is at c.print-in-loop-item.ensures)

pub returns : goal.returns
unfolding flat_map
returns g c =
    let p = (goal.at.returns g c).After-print in
    rw (parted_first g.T.Printed.text _ _ (parts g (goal.at.returns g c).In-Some))
    (written_then (g.T.Printed.text c.in-Some.first.now) (behind g.T.Printed.text c.in-Some.others.now) (room g (goal.at.returns g c).In-Some) c.print.ensures
    (writing_end c.loop-item.invariant (others_room g p) (rw (drop_of_length-le c.in-Some.others.now c.loop-item-test.false) refl)))
