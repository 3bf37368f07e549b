-- `is_whole` adds 3 * 2 ^ 22 and takes it away again (Whole.antt).
use Rattle.meter.proofs.Whole.{whole}
use Rattle.meter.proofs.numbers.is_whole.Goals as goal

pub returns : goal.returns
returns c l h = whole c.args.y l h
