-- `fetch` meets its contract: states are pushed as long as one more is to be kept. A place is left until then, since after the last place no more than
-- the spare states remain.
use mathlib.Core.Path.{sym, ◌∙◌}
use native.Mathlib.Omega.{arith}
use Rattle.plans.proofs.FormLaws.{well_formed_sound}
use Rattle.stacks.proofs.StackLaws.{fetch_more}
use Rattle.stacks.proofs.stack.fetch.Goals as goal

pub loop-next-preserved : goal.loop-next-preserved
loop-next-preserved c =
    let a = c.args in
    let i = c.loop-next.invariant in
    let n = c.in-Some.ensures in (
      omega (arith, n),
      sym c.push.ensures.depth_after,
      n.1,
      λ z. n.3 (omega (arith, n, z)),
      fetch_more a.followed.plan (well_formed_sound _ c.args.followed.formed) a.stack c.loop-next.depth a.want c.in-Some.next a.work.now a.marks.now c.loop-next.work c.loop-next.marks _ _ (omega (arith, n))
          n.1 c.requires.stack_fits.0.past_keys i.4 c.push.ensures.pushed,
      c.push.ensures.held_len_unchanged ∙ i.5,
    )
