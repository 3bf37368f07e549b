use lib.ListN.{length}
use Rattle.eights.specs.Turned.{numbers}
use Rattle.states.specs.Holding.{Halves}
use Rattle.states.specs.States.{further_in}
use Rattle.states.proofs.StateLaws.{Making, Joining}
use Rattle.states.proofs.state.make_joined.Given as goal

abbrev pub invariant-loop-m : goal.invariant-loop-m
invariant-loop-m l = Halves l.followed.plan (further_in l.batch.states) l.slots (length l.held)
    × Making l.followed.plan l.batch.states.first l.batch.states.past l.m l.work l.from (numbers l.held) l.slots.was
    × Joining l.followed.plan l.batch.states.first l.batch.states.past l.m l.work l.from l.ends l.initial.best l.best
