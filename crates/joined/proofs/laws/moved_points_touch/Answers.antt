use Rattle.joined.proofs.Gaps.{moved_points_touch}
use Rattle.joined.proofs.laws.moved_points_touch.Goals as goal

pub returns : goal.returns
returns c = moved_points_touch
