-- `advance_joined` meets its contract: what is asked of it is what the door judges.
use mathlib.Core.Path.{◌∙◌}
use Rattle.states.proofs.DoorTests.{joins_if}
use Rattle.sweeps.proofs.taken.advance_joined.Goals as goal

pub returns : goal.returns
returns c =
    let taken = c.advance_joined.ensures.value ∙ joins_if _ _ _ _ _ _ _
    record {
      made =
          record {
            form = c.args.followed.formed;
            some = c.requires.first_lt_past.0;
            near = c.requires.first_lt_past.1;
            rows = record { twice = c.requires.states_in_bounds.0; few = c.requires.states_in_bounds.1 };
          };
      full = c.requires.first_lt_past.2;
      source = (c.requires.plan_bound.0, c.requires.plan_bound.1);
      other = (c.requires.plan_bound.2, c.requires.plan_bound.3);
      result = c.requires.first_lt_past.3;
    } in record { joined = rw taken at c.advance_joined.ensures.either; held_len_unchanged = c.advance_joined.ensures.held_len_unchanged; best_len_unchanged = c.advance_joined.ensures.best_len_unchanged }
