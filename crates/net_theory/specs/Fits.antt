-- When a network fits a standing list.
use Rattle.std.specs.List.Sorted.{IsPermutation}
use Rattle.tmm_model.specs.declared.point.PointName.TheVariants.{Start}
use Rattle.tmm_model.specs.Cycles.{steps_in}
use Rattle.list_theory.specs.WellNamed.{IsSound}
use Rattle.tmm_model.specs.Standing.{Standing}
use Rattle.tmm_model.specs.Walks.{HasDates}
use Rattle.dist_net.specs.Net.{Net, arcs_of, AreDistinct, AreInUse}
use Rattle.dist_net.specs.Steps.{steps_in_net}
use Rattle.net_theory.specs.Represents.{StandsFor, IsNumberOf}

-- the network stands for the list, and its edges are the constraints of the list, each once and
-- under the name of its premise, in whatever order
pub record Fits (list : Standing) (net : Net) : Type 0 where
  pub stands : StandsFor list.premises net.names (arcs_of net.edges)
  pub steps : IsPermutation (steps_in list.premises) (steps_in_net net)

-- **The network is that of a list** that some dates satisfy.
pub record IsNetOf (list : Standing) (net : Net) : Type 0 where
  pub sound : IsSound list
  pub fits : Fits list net
  pub distinct : AreDistinct net.names
  pub start : IsNumberOf net.names 0 Start
  pub in_use : AreInUse net.names net.edges
  pub dates : HasDates 0 (arcs_of net.edges)
