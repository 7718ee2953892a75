-- When neither a list nor its network has a pending edit.
use Rattle.std.specs.Prelude.{◌≡◌}
use Rattle.dist_net.specs.Net.{Nets}
use Rattle.premise_list.specs.States.{States}

-- nothing has changed since the last commit
pub record NothingPending (lists : States) (nets : Nets) : Type 0 where
  pub list : lists.present ≡ lists.committed
  pub net : nets.present ≡ nets.committed
