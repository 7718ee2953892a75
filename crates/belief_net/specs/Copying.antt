-- What a copy has of what is kept.
use Rattle.tmm_model.specs.Standing.{Standing}
use Rattle.dist_net.specs.Net.{Net}
use Rattle.belief_table.specs.declared.state.Beliefs.{Beliefs}
use Rattle.belief_net.specs.Updating.{IsKept}

-- what is kept of a list and its network is kept of them in the copy too
abbrev pub CopiesKept : Beliefs → Beliefs → Type 0
CopiesKept old new = (s : Standing) (net : Net) → IsKept s net old → IsKept s net new
