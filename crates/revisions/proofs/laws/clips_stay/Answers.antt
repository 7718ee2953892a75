use Rattle.revisions.proofs.Clips.{clips_stay}
use Rattle.revisions.proofs.laws.clips_stay.Goals as goal

pub returns : goal.returns
returns c = clips_stay
