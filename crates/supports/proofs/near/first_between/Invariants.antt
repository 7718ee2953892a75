use Rattle.tmm_model.specs.Tokens.{of_one_class, clips}
use Rattle.clipping.specs.ByDate.{NonePass}
use Rattle.occ_tree.specs.Places.{forest}
use Rattle.spots.specs.Spots.{spot_distance}
use Rattle.supports.proofs.near.first_between.Given as goal

abbrev pub invariant-loop-at : goal.invariant-loop-at
invariant-loop-at l = NonePass (clips of_one_class (spot_distance l.order.net.now.present (forest l.order.tree.now)) l.k) l.rows l.low l.at
