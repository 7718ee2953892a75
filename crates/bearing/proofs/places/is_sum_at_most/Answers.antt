use Rattle.bearing.proofs.Placed.{sum_seen}
use Rattle.bearing.proofs.places.is_sum_at_most.Goals as goal

pub returns : goal.returns
returns c = sum_seen c.args.far c.args.more c.args.less c.args.most c.ranges.far c.ranges.more c.ranges.less c.ranges.most
