-- When what the plain map keeps are the beliefs of a list.
use Rattle.tmm_model.specs.Maps.{built}
use Rattle.tmm_model.specs.Standing.{Standing}
use Rattle.dist_net.specs.Net.{Net}
use Rattle.spots.specs.OfLists.{HasOccurrences}
use Rattle.occ_tree.specs.OfLists.{IsTreeOf}
use Rattle.occ_tree.specs.Places.{forest}
use Rattle.plain_map.specs.declared.beliefs.Beliefs.{Beliefs}
use Rattle.plain_map.specs.Views.{IsViewOf}

-- the tree has the believed occurrences, and what is read of them is that of the list
pub record AreBeliefs (s : Standing) (net : Net) (b : Beliefs) : Type 0 where
  pub seen : IsTreeOf s net b.tree
  pub holds : HasOccurrences (built s).believed (forest b.tree)
  pub view : IsViewOf s (forest b.tree) b.view
