-- Lists that are alike in all that beliefs read.
use Rattle.tmm_model.specs.Standing.{Standing, points_in}
use Rattle.dist_net.specs.Net.{Net}
use Rattle.net_theory.specs.Fits.{IsNetOf}
use Rattle.net_theory.specs.KeptNumbers.{PointsKeepNumbers}
use Rattle.revisions.specs.Alike.{AreAlike}
use Rattle.belief_table.specs.declared.state.Beliefs.{Beliefs}
use Rattle.belief_net.specs.Updating.{IsKept}

-- **Nodes and rows that are kept of a list are kept of each list that is alike in all that beliefs
-- read**, where points keep their numbers: nothing has to be decided again.
abbrev pub AlikeAreKept : Type 0
AlikeAreKept =
    (s t : Standing) (before net : Net) (b : Beliefs) → AreAlike s t → IsNetOf t net
    → PointsKeepNumbers (points_in t.premises) before.names net.names
    → IsKept s before b → IsKept t net b
