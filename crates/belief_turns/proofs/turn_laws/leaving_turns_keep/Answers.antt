use Rattle.belief_turns.proofs.Moved.{turn_kept}
use Rattle.belief_turns.proofs.Withdrawn.{leaves_turn}
use Rattle.belief_turns.proofs.turn_laws.leaving_turns_keep.Goals as goal

pub returns : goal.returns
returns c = λ s net b mid after due x m numbers fit d now before on at is takes last.
    let turn = leaves_turn s net b mid after due x m numbers fit d now before on at is takes last in
    (turn.fit_after, turn_kept s net b mid after due turn)
