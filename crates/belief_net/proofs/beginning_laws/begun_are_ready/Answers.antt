use Rattle.belief_net.proofs.Begun.{begun_ready}
use Rattle.belief_net.proofs.beginning_laws.begun_are_ready.Goals as goal

pub returns : goal.returns
returns c = begun_ready
