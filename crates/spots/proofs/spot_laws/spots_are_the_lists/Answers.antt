use Rattle.spots.proofs.Seen.{distance_is, early_is, order_is}
use Rattle.spots.proofs.spot_laws.spots_are_the_lists.Goals as goal

pub returns : goal.returns
returns c = λ s net f seen. record { distances = distance_is s net f seen; dates = early_is s net f seen; order = order_is s net f seen }
