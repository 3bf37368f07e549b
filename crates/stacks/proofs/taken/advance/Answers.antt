-- `advance` meets its contract: what is asked of it is what the door judges.
use mathlib.Core.Path.{◌∙◌}
use Rattle.states.proofs.DoorTests.{advances_if}
use Rattle.stacks.proofs.taken.advance.Goals as goal

pub returns : goal.returns
returns c =
    let taken = c.advance.ensures.value ∙ advances_if _ _ _ _ _ _
    record {
      made =
          record {
            form = c.args.followed.formed;
            some = c.requires.first_lt_past.0;
            near = c.requires.first_lt_past.1;
            rows = record { twice = c.requires.states_in_bounds.0; few = c.requires.states_in_bounds.1 };
          };
      source = (c.requires.first_lt_past.2, c.requires.first_lt_past.4);
      target = (c.requires.first_lt_past.3, c.requires.first_lt_past.5);
      apart = c.requires.fact;
    } in record { advanced = rw taken at c.advance.ensures.either; held_len_unchanged = c.advance.ensures.held_len_unchanged }
