-- `open_chosen` meets its contract: at each turn one direction of the table more is gathered; it stops early where every level has reached the pixel's own.
use native.Mathlib.Omega.{arith}
use Rattle.engine.proofs.SweepLaws.{before_none, before_more, gathered_all, gathered_early, accepted_still}
use Rattle.engine.proofs.sweep.Sieve.open_chosen.Goals as goal

pub loop-index-init : goal.loop-index-init
loop-index-init c = before_none _ _ _ _ _

pub returns-then-is_complete : goal.returns-then-is_complete
returns-then-is_complete c =
    gathered_early c.args.self.now.width c.args.self.now.height c.args.self.now.setting c.args.self.now.plate.now _ _ c.loop-index.index (omega arith) c.requires.plate_size c.loop-index.invariant (c.is_complete.ensures c.if-is_complete.true)

pub open_if_chosen-requires : goal.open_if_chosen-requires
open_if_chosen-requires c =
    record { accepted = accepted_still _ _ _ _ _ _ _ _ c.loop-index.auto.res c.loop-index.auto.work c.requires; index_bound = omega (arith, c.loop-index-test.true) }

pub loop-index-preserved : goal.loop-index-preserved
loop-index-preserved c =
    let a = c.args in
    before_more a.self.now.width a.self.now.height a.self.now.setting a.self.now.plate.now a.res.now c.loop-index.res c.open_if_chosen.new.res c.loop-index.index (omega (arith, c.loop-index-test.true)) c.loop-index.invariant c.open_if_chosen.ensures

pub returns : goal.returns
returns c =
    let a = c.args in
    gathered_all a.self.now.width a.self.now.height a.self.now.setting a.self.now.plate.now _ _ c.loop-index.index (omega arith) c.loop-index.invariant
