use Rattle.revisions.proofs.Clips.{clips_stay_on}
use Rattle.revisions.proofs.laws.clips_stay_on.Goals as goal

pub returns : goal.returns
returns c = clips_stay_on
