use Rattle.revisions.proofs.Walls.{outcomes_stay_but}
use Rattle.revisions.proofs.laws.outcomes_stay_but.Goals as goal

pub returns : goal.returns
returns c = outcomes_stay_but
