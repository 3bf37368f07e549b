-- `key_at` meets its contract: past the last key a list has 0.
use mathlib.Core.Path.{sym, ◌∙◌}
use native.Mathlib.Omega.{arith}
use lib.ListN.{get_or-eq_default}
use Rattle.eights.proofs.TurnedLaws.{turned_high}
use Rattle.states.proofs.blends.key_at.Goals as goal

pub returns-in-None : goal.returns-in-None
returns-in-None c = turned_high 32768 (omega arith) ∙ sym (get_or-eq_default c.args.keys.now 0 {n = c.args.at} (omega (arith, c.in-None.ensures.lookup)))
