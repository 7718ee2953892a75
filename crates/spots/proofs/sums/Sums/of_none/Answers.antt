use Rattle.std.proofs.Common.{refl}
use Rattle.spots.proofs.sums.Sums.of_none.Goals as goal

pub returns : goal.returns
returns c = record { low = refl; bounded = refl; unbounded = refl }
