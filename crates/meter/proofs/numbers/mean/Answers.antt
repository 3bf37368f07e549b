-- `mean` takes the sum of two counts of quarters and its half: both are whole eighths of few digits, so neither is rounded.
use Rattle.meter.proofs.Exact.{mean_exact}
use Rattle.meter.proofs.numbers.mean.Goals as goal

pub returns : goal.returns
returns c = mean_exact c.args.x c.args.y
