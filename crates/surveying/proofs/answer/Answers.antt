-- `answer` lends the three buffers, which are as long as `write_answer` asks.
use native.Mathlib.Omega.{arith}
use Rattle.surveying.proofs.answer.Goals as goal

pub write_answer-requires : goal.write_answer-requires
write_answer-requires c =
    record { ready = c.requires.ready; max_plate_in_bounds = omega arith; max_length_in_bounds = omega (arith, c.path_buffer-path.ensures); max_work_in_bounds = omega (arith, c.work_buffer-work.ensures); max_output_in_bounds = c.requires.max_output_in_bounds }
