-- `nearer` meets its contract: the first of the three steps that leads to a number high enough.
use Rattle.std.proofs.Common.{rules}
use Rattle.std.proofs.iter.Serving.{serving}
use Rattle.plans.proofs.FormLaws.{well_formed_sound}
use Rattle.walks.proofs.Picking.{picked_or, picked_again, match_some}
use Rattle.walks.proofs.step.nearer.Goals as goal

pub tapped-requires : goal.tapped-requires
tapped-requires c =
    let o = c.requires in (o.0, ((well_formed_sound c.args.followed.plan c.args.followed.formed).first c.args.stand.state c.args.stand.row o.0.row o.0.state).near, o.1)

pub or_else-requires : goal.or_else-requires
or_else-requires c =
    let o = c.requires in
    let near = ((well_formed_sound c.args.followed.plan c.args.followed.formed).second c.args.stand.state c.args.stand.row o.0.row o.0.state).near in grind serving

pub or_else-requires-2 : goal.or_else-requires-2
or_else-requires-2 c =
    let o = c.requires in
    let near = ((well_formed_sound c.args.followed.plan c.args.followed.formed).third c.args.stand.state c.args.stand.row o.0.row o.0.state).near in grind serving

pub returns : goal.returns
returns c =
    let a = c.args in
    picked_again _ a.followed.plan a.stand a.t _ (picked_or _ _ _ _ _ _ c.or_else.result c.or_else-2.result
    (picked_or _ _ _ _ _ _ c.tapped.result c.or_else.result c.tapped.ensures (match_some _ _ _ c.tapped.result c.or_else.ensures (λ h. search rules)))
    (match_some _ _ _ c.or_else.result c.or_else-2.ensures (λ h. search rules)))
