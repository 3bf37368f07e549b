-- `advance` meets its contract: what is asked of it is what the door judges.
use mathlib.Core.Path.{refl, ◌∙◌}
use mathlib.Core.Logic.{inl}
use native.Mathlib.Omega.{arith}
use Rattle.states.proofs.DoorTests.{advances_if}
use Rattle.stacks.proofs.StackLaws.{half_one}
use Rattle.tracing.proofs.taken.advance.Goals as goal

pub returns : goal.returns
returns c =
    let taken = c.advance.ensures.value ∙ advances_if _ _ _ _ _ _
    record {
      made =
          record {
            form = c.args.followed.formed;
            some = omega arith;
            near = omega (arith, c.requires.e_bound.0);
            rows = record { twice = half_one _ _ _ c.requires.plan_in_bounds.0; few = c.requires.plan_in_bounds.1 };
          };
      source = (c.requires.e_bound.1, c.requires.e_bound.2);
      target = (c.requires.e_bound.1, c.requires.e_bound.2);
      apart = inl refl;
    } in record { advanced = rw taken at c.advance.ensures.either; held_len_unchanged = c.advance.ensures.held_len_unchanged }
