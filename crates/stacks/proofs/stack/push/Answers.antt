-- `push` meets its contract: the states from the last mark on are made, the last of them in the next place of the stack.
use Prim.Native.Nat.{suc, ◌≤◌}
use native.Mathlib.Omega.{arith}
use lib.ListN.{length}
use Rattle.plans.specs.Plans.{state_size}
use Rattle.plans.proofs.FormLaws.{well_formed_sound}
use Rattle.stacks.proofs.StackLaws.{next_place, place_fits, pushed, last_pushed}
use Rattle.stacks.proofs.stack.push.Goals as goal

pub run_on-requires : goal.run_on-requires
run_on-requires c =
    let a = c.args in
    let fits = place_fits a.stack.depth a.stack.places (state_size a.followed.plan) a.stack.base (length a.work.now) c.requires.stack_fits.1 c.requires.stack_fits.0.in_work in record {
      first_lt_past = (
        omega (arith, c.last_mark-first.ensures, c.requires.depth_bound),
        c.requires.stack_fits.2,
        omega (arith, c.top_of-from.ensures, c.requires.stack_fits.0.past_keys),
        omega (arith, c.place_of-to.ensures, fits),
      );
      fact = rw (c.top_of-from.ensures, c.place_of-to.ensures) (next_place a.stack.base a.stack.depth (state_size a.followed.plan));
      plan_in_bounds = c.requires.plan_in_bounds;
    }

pub returns : goal.returns
returns c =
    let a = c.args in
    let in_marks = let w : suc a.stack.depth ≤ length a.marks.now = omega (arith, c.requires.stack_fits.1, c.requires.stack_fits.0.in_marks) in w in record {
      pushed = pushed a.followed.plan (well_formed_sound _ c.args.followed.formed) a.work.now c.run_on.new.work a.marks.now a.stack.base a.stack.depth a.past c.last_mark-first.result c.top_of-from.result
          in_marks c.last_mark-first.ensures (omega (arith, c.last_mark-first.ensures, c.requires.depth_bound)) c.requires.stack_fits.2 c.top_of-from.ensures (rw c.place_of-to.ensures at c.run_on.ensures.run_on);
      depth_after = last_pushed a.marks.now a.stack.depth a.past in_marks;
      held_len_unchanged = c.run_on.ensures.held_len_unchanged;
    }
