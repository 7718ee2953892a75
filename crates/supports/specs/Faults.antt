-- Why a token does not support its fact, by nodes.
use Rattle.tmm_model.specs.Answers.{Fault, late, clipped, ends}
use Rattle.spots.specs.Forest.{Forest, moment_at}
use Rattle.supports.specs.declared.NodeFault.{NodeFault}
use Rattle.supports.specs.declared.NodeFault.TheVariants.{Late, Clipped, Ends}

-- a cause that is told by a node, as one of moments
abbrev pub fault_at : Forest → NodeFault → Fault
fault_at f Late = late
fault_at f (Clipped c) = clipped (moment_at f c)
fault_at f Ends = ends
