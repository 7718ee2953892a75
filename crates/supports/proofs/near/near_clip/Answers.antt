use Rattle.supports.proofs.OfLaterDates.{spot_there}
use Rattle.supports.proofs.near.near_clip.Goals as goal

pub first_between-requires-clause-k_live : goal.first_between-requires-clause-k_live
first_between-requires-clause-k_live c = let (class, are) = c.requires.tokens in spot_there c.requires.dates are c.args.i c.requires.within c.index-rows-i.result c.index-rows-i.is
