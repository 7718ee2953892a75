use Rattle.belief_turns.proofs.Turned.{fit_decided, same_kept}
use Rattle.belief_turns.proofs.turn_laws.same_turns_keep.Goals as goal

pub returns : goal.returns
returns c = λ s net b after due fit d alike. (fit_decided s net b after due fit d, λ old edit taken list k. same_kept s net b after due fit d old edit taken list k alike)
