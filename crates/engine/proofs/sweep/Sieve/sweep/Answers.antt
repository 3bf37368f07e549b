-- `sweep` meets its contract: blank, gather in every chosen direction, finish.
use Rattle.engine.proofs.FilteredLaws.{all_filtered}
use Rattle.engine.proofs.sweep.Sieve.sweep.Goals as goal

pub returns : goal.returns
returns c =
    let a = c.args in
    all_filtered a.self.now.setting a.self.now.width a.self.now.height a.self.now.plate.now a.res.now c.blank.new.res c.open_chosen.new.res c.finish.new.res
    c.requires.plate_size c.requires.result_size c.requires.long c.blank.ensures c.open_chosen.ensures c.finish.ensures
