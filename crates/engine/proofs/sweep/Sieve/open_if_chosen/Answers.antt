-- `open_if_chosen` meets its contract: a direction that is not chosen, or whose paths are too short, adds nothing; else all its walks are gathered.
use mathlib.Core.Path.{◌∙◌}
use Rattle.engine.proofs.SweepLaws.{chosen_opened, chooses_member, not_chosen}
use Rattle.engine.proofs.sweep.Sieve.open_if_chosen.Goals as goal

pub returns-then-not-chooses : goal.returns-then-not-chooses
returns-then-not-chooses c =
    not_chosen _ _ _ _ c.args.index _ (chooses_member c.args.self.now.setting c.args.index c.requires.index_bound _ c.chooses.ensures ∙ c.if-not-chooses.true)

pub returns : goal.returns
returns c =
    let a = c.args in
    chosen_opened a.self.now.width a.self.now.height a.self.now.setting a.index a.self.now.plate.now a.res.now _ a.work.now _ c.open_direction.result c.requires.accepted c.requires.index_bound
    (chooses_member a.self.now.setting a.index c.requires.index_bound _ c.chooses.ensures ∙ c.if-not-chooses.false) c.open_direction.ensures.value c.open_direction.ensures.either
