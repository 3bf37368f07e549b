-- `difference` of two counts of eighths is one.
use Rattle.meter.proofs.Exact.{difference_exact}
use Rattle.meter.proofs.difference.Means.difference.Goals as goal

pub returns : goal.returns
returns c = difference_exact c.args.self.lamp c.args.self.dark
