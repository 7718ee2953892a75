-- What the plain map keeps.
use Rattle.std.specs.Prelude.{◌≡◌, Option, Some, None}
use Rattle.tmm_model.specs.Standing.{Standing}
use Rattle.dist_net.specs.Net.{Nets}
use Rattle.net_theory.specs.Fits.{IsNetOf}
use Rattle.list_net.specs.Settled.{NothingPending}
use Rattle.premise_list.specs.States.{States}
use Rattle.plain_map.specs.declared.beliefs.Beliefs.{Beliefs}
use Rattle.plain_map.specs.Beliefs.{AreBeliefs}

-- Both states of the list have their network and their beliefs. Where nothing is pending they are
-- one.
pub record IsPlain (lists : States) (nets : Nets) (beliefs : Beliefs) (next : Option Beliefs) : Type 0 where
  pub network : IsNetOf lists.committed nets.committed
  pub believed : AreBeliefs lists.committed nets.committed beliefs
  pub settled : next ≡ None → NothingPending lists nets
  pub next_network : IsNetOf lists.present nets.present
  pub next_beliefs : (b : Beliefs) → next ≡ Some b → AreBeliefs lists.present nets.present b
