-- `top_of` meets its contract: what is asked of it is what the door judges.
use mathlib.Core.Path.{sym, ◌∙◌}
use Rattle.stacks.proofs.DoorTests.{top_4}
use Rattle.tracing.proofs.taken.top_of.Goals as goal

pub returns : goal.returns
returns c = let p = c.requires in c.top_of.ensures ∙ sym (top_4 _ _ c.args.followed.formed p.0 p.1)
