use lib.ListN.{length}
use Rattle.eights.specs.Turned.{numbers}
use Rattle.states.specs.Holding.{Halves}
use Rattle.states.specs.States.{further_in}
use Rattle.states.proofs.StateLaws.{Making, Stored}
use Rattle.states.proofs.state.make_states.Given as goal

abbrev pub invariant-loop-m : goal.invariant-loop-m
invariant-loop-m l = Halves l.followed.plan (further_in l.batch.states) l.slots (length l.held)
    × Making l.followed.plan l.batch.states.first l.batch.states.past l.m l.initial.work l.from (numbers l.held) l.slots.was
    × Stored l.followed.plan l.batch.states.first l.batch.states.past l.m l.initial.work l.from l.work l.to
