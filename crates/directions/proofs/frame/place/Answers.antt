-- `place` meets its contract: the two numbers are the line and the pixel, turned, and no product leaves.
use Rattle.frames.specs.Frames.{place_in}
use Rattle.directions.proofs.frame.place.Goals as goal

pub returns : goal.returns
unfolding place_in
returns c = rw (c.counted_from-i.ensures.0, c.counted_from-x.ensures.0)
