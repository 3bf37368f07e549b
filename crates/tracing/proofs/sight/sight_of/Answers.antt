-- `sight_of` meets its contract: a scan's numbers fit, so that there is something to see.
use mathlib.Core.Path.{sym, ◌∙◌}
use Rattle.tracing.proofs.Scanned.{sound_of}
use Rattle.tracing.proofs.Sighting.{seen_there, seen_by}
use Rattle.tracing.proofs.sight.sight_of.Goals as goal

pub unwrap-requires : goal.unwrap-requires
unwrap-requires c = rw c.sight_of.ensures (seen_there c.args.scan (sound_of c.args.scan) c.args.backwards c.args.x c.requires)

pub returns : goal.returns
returns c =
    seen_by c.args.scan (sound_of c.args.scan) c.args.backwards c.args.x c.requires c.unwrap.result (sym c.unwrap.ensures ∙ c.sight_of.ensures)
