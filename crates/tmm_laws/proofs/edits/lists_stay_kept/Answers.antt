use Rattle.belief_theory.proofs.StayKept.{empty_is_kept, stays_kept}
use Rattle.tmm_laws.proofs.edits.lists_stay_kept.Goals as goal

pub returns : goal.returns
returns c = (empty_is_kept, stays_kept)
