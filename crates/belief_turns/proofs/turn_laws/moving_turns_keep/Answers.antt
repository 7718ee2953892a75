use Rattle.belief_turns.proofs.Moved.{turn_kept}
use Rattle.belief_turns.proofs.turn_laws.moving_turns_keep.Goals as goal

pub returns : goal.returns
returns c = turn_kept
