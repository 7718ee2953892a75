use Rattle.joined.proofs.Entering.{may_enter}
use Rattle.joined.proofs.laws.effects_may_enter.Goals as goal

pub returns : goal.returns
returns c = λ old edit net f rows taken x p found sound_old sound_new small n at right now before.
    may_enter old edit net f rows taken x p found sound_new small n at right now before
