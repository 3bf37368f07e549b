-- `lowest` meets its contract: the pixel's rank, where that is no more than the steps of a path.
use Prim.Native.Nat.{ℕ, ◌-◌, min}
use mathlib.Core.Path.{refl, ap, ◌∙◌}
use Rattle.headings.proofs.DoorTests.{rank_there}
use Rattle.tracing.proofs.find.Asked.lowest.Goals as goal

pub returns : goal.returns
returns c =
    let there = rank_there c.args.self.now.width c.args.self.now.height c.args.index c.args.self.now.x c.requires.good_size.0 c.requires.x_bound.1 c.requires.x_bound.0 in
    let before = c.min.ensures ∙ ap (λ (n : ℕ). min n (c.args.self.now.setting.length - 1)) (c.rank_of-rank.ensures ∙ there) in
    (refl, refl, before, refl)
