-- Lists that see the same occurrences, as the tests use them.
use Rattle.tmm_model.specs.Standing.{Standing}
use Rattle.dist_net.specs.Net.{Net}
use Rattle.spots.specs.Forest.{Forest}
use Rattle.spots.specs.OfLists.{IsForestOf}

-- nodes that are of one list and its network are of the other too
abbrev pub SeeTheSame : Standing → Net → Standing → Net → Type 0
SeeTheSame s net t after = (f : Forest) → IsForestOf s net f → IsForestOf t after f
