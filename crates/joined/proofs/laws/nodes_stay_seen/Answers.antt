use Rattle.joined.proofs.Staying.{stay_seen}
use Rattle.joined.proofs.laws.nodes_stay_seen.Goals as goal

pub returns : goal.returns
returns c = stay_seen
