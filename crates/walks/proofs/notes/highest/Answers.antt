-- `highest` meets its contract: where the slack is the highest key, a pixel may end a path at every key, and what walks count for there is its number.
use native.Mathlib.Omega.{arith}
use Rattle.walks.proofs.Lifting.{highest_free}
use Rattle.walks.proofs.notes.highest.Goals as goal

pub returns-then-slack-eq-MAX_KEY : goal.returns-then-slack-eq-MAX_KEY
returns-then-slack-eq-MAX_KEY c = highest_free _ _ _ _ _ _ c.if-slack-eq-MAX_KEY.true (omega (arith, c.highest_of.type_inv)) c.highest_of.ensures

pub returns : goal.returns
returns c = c.highest_ended.ensures
