use Rattle.belief_turns.proofs.Bringing.{brings_turn}
use Rattle.belief_turns.proofs.Moved.{turn_kept}
use Rattle.belief_turns.proofs.turn_laws.bringing_turns_keep.Goals as goal

pub returns : goal.returns
returns c = λ s net b mid after due fit d now before on brings last.
    let turn = brings_turn s net b mid after due fit d now before on brings last in
    (turn.fit_after, turn_kept s net b mid after due turn)
