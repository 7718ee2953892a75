-- Trees that are those of a standing list, with its dates.
use Rattle.tmm_model.specs.Standing.{Standing}
use Rattle.dist_net.specs.Net.{Net}
use Rattle.spots.specs.OfLists.{IsForestOf, HasList}
use Rattle.occ_tree.specs.Dated.{IsDatedBy}
use Rattle.occ_tree.specs.Places.{forest}
use Rattle.occ_tree.specs.Standing.{Kept, present}

-- nodes and network are those of some list, and the dates that are kept are those of the network
pub record IsTreeIn (net : Net) (k : Kept) : Type 0 where
  pub list : HasList net (forest k)
  pub dated : IsDatedBy net (present k)

-- nodes and network are those of the list, and the dates that are kept are those of the network
pub record IsTreeOf (s : Standing) (net : Net) (k : Kept) : Type 0 where
  pub seen : IsForestOf s net (forest k)
  pub dated : IsDatedBy net (present k)
